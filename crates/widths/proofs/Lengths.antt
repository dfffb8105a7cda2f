-- Of more than 1,024 words the first 1,025 decide what a converter answers and writes.
use mathlib.Core.Path.{◌≡◌, refl, sym, ap, subst, ◌∙◌}
use mathlib.Core.Bool.{Bool, true, false}
use mathlib.Core.List.{List, [], ◌∷◌}
use mathlib.Core.Logic.{◌⊎◌, inl, inr}
use Prim.Native.Nat.{ℕ, suc, ◌<◌}
use native.Mathlib.Decide.{dec_lt, ℕ_discrete}
use native.Mathlib.Omega.{arith}
use borrow.Author.Tests.{lt-ltb}
use lib.ListN.{length, get_or, take}
use lib.Seq.{length-take-le, get_or-take, take_all}
use Rattle.table.specs.Words.{kind, size}
use Rattle.table.specs.Scan.{head, Outcome, refused, first_of, tests, fault, names_at, reading}
use Rattle.table.proofs.Faults.{one_of}
use Rattle.table.proofs.Stack.{scan-stop}
use Rattle.widths.specs.Converters.{read_as, convertible, converted, refusal, convert_answer, convert_out}
use Rattle.widths.proofs.Refusals.{of-kind, other-kind, not_wide, stopped}

-- a table of more than 1,024 words is refused by its first word alone
long-table : (ws : List ℕ) → 1024 < length ws → (kind (get_or ws 0 0) ≡ 1) ⊎ (kind (get_or ws 0 0) ≡ 5) → reading ws ≡ refused 2 0
unfolding reading fault tests first_of
long-table [] h k = let n : ⊥ = omega arith in absurd n
long-table (w ∷ ws) h k =
    scan-stop (names_at (w ∷ ws)) ws [] w 0 (head (suc (length ws))) [] 1 (rw (one_of (kind w) k, lt-ltb size (suc (length ws)) h))

-- two lists of words are refused alike
abbrev Alike : (List ℕ → Outcome) → List ℕ → List ℕ → Type 0
Alike f ws vs = (n : ℕ) × (f ws ≡ refused n 0) × (f vs ≡ refused n 0)

module _ (ws vs : List ℕ) (h : 1024 < length ws) (l : 1024 < length vs) (e : get_or ws 0 0 ≡ get_or vs 0 0) where
  read_alike : (k : ℕ) → (k ≡ 1) ⊎ (k ≡ 5) → Alike (read_as k) ws vs
  read_alike k o = go (ℕ_discrete (kind (get_or ws 0 0)) k)
    where
      starts : (w : ℕ) → kind w ≡ k → (kind w ≡ 1) ⊎ (kind w ≡ 5)
      starts w q = subst (λ (x : ℕ). (x ≡ 1) ⊎ (x ≡ 5)) (sym q) o

      go : Dec (kind (get_or ws 0 0) ≡ k) → Alike (read_as k) ws vs
      go (yes q) =
          let r : kind (get_or vs 0 0) ≡ k = ap kind (sym e) ∙ q in
          (2, of-kind k ws q ∙ long-table ws h (starts _ q), of-kind k vs r ∙ long-table vs l (starts _ r))
      go (no q) = (1, other-kind k ws q, other-kind k vs (λ r. q (ap kind e ∙ r)))

  alike : (wide : Bool) → Alike (convertible wide) ws vs
  unfolding convertible
  alike true = read_alike 1 (inl refl)
  alike false = let r = read_alike 5 (inr refl) in (r.0, not_wide ws r.0 0 r.1, not_wide vs r.0 0 r.2)

module _ {A : Type 0} (wide : Bool) (f : List ℕ → A) (g : ℕ → A) (stops : (ws : List ℕ) (n : ℕ) → convertible wide ws ≡ refused n 0 → f ws ≡ g n) where
  first-same : (ws : List ℕ) → f (take 1025 ws) ≡ f ws
  first-same ws = go (dec_lt 1024 (length ws))
    where
      go : Dec (1024 < length ws) → f (take 1025 ws) ≡ f ws
      go (no n) = ap f (take_all 1025 ws (omega (arith, n)))
      go (yes h) =
          let a = alike (take 1025 ws) ws (omega (arith, length-take-le 1025 ws (omega arith))) h (get_or-take 1025 ws 0 0 (omega arith)) wide in
          stops (take 1025 ws) a.0 a.1 ∙ sym (stops ws a.0 a.2)

module _ (wide : Bool) (ws out : List ℕ) where
  pub answer-first : convert_answer wide (take 1025 ws) (length out) ≡ convert_answer wide ws (length out)
  unfolding convert_answer
  answer-first =
      first-same wide (λ (vs : List ℕ). convert_answer wide vs (length out)) (λ n. refusal n 0)
      (λ vs n e. (stopped (convertible wide vs) (length vs) (converted wide vs) out n 0 e).0) ws

  pub out_first : convert_out wide (take 1025 ws) out ≡ convert_out wide ws out
  unfolding convert_answer convert_out
  out_first =
      first-same wide (λ (vs : List ℕ). convert_out wide vs out) (λ n. out)
      (λ vs n e. (stopped (convertible wide vs) (length vs) (converted wide vs) out n 0 e).1) ws
