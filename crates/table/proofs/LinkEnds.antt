-- The first pass over an accepted table: the end that it writes at each word is the word after the term there.
use mathlib.Core.Logic.{⊎_elim}
use mathlib.Core.Path.{◌≡◌, refl, sym, ap, ◌∙◌, subst}
use mathlib.Core.List.{List, []}
use Prim.Native.Nat.{ℕ, zero, suc, ◌+◌, ◌-◌, ◌≤◌, ◌<◌}
use native.Mathlib.Nat.{add-zero, zero-add}
use native.Mathlib.Decide.{ℕ_discrete}
use native.Mathlib.Omega.{arith}
use lib.ListN.{length, get_or, set, length-set}
use lib.Seq.{get_or-set_other}
use Rattle.table.specs.declared.Link.{Link}
use Rattle.table.specs.Words.{kind, arity, parts, parts_by_kind, first_kind}
use Rattle.table.specs.Scan.{Task, head, name, perms, guard, term, accepted, reading, names_at}
use Rattle.table.specs.Code.{part, end_of, task_at}
use Rattle.table.specs.Links.{pack, link_at, iterate, hops, ends}
use Rattle.table.proofs.Faults.{Stands}
use Rattle.table.proofs.Stack.{reach}
use Rattle.table.proofs.Parts.{part-zero, part-after, part-suc, part-inside, end-le, place-stands}
use Rattle.table.proofs.Limits.{size-le}
use Rattle.table.proofs.LinkReads.{Packs, link_set, link-other}

-- a word of a block's kinds, or of a table's, has no parts
pub parts_low : (w : ℕ) → kind w < 16 → parts w ≡ []
unfolding parts parts_by_kind
parts_low w h = let z : kind w - first_kind ≡ 0 = omega arith in ap (λ (n : ℕ). get_or parts_by_kind n []) z

module _ (ws : List ℕ) (e : reading ws ≡ accepted) where
  -- every part of every word is a word of the table
  pub parts-inside : (p k : ℕ) → p < length ws → k < arity (get_or ws p 0) → part ws p k < length ws
  unfolding arity
  parts-inside p k l h = go (task_at ws p) refl (place-stands ws e p l)
    where
      low : kind (get_or ws p 0) < 16 → part ws p k < length ws
      low i = let z = ap length (parts_low (get_or ws p 0) i) in let c : ⊥ = omega arith in absurd c

      go : (t : Task) → task_at ws p ≡ t → Stands (names_at ws) (reach ws e p l).keys (get_or ws p 0) t → part ws p k < length ws
      go (head n) t f = low (⊎_elim (λ z. omega arith) (λ z. omega arith) f.0)
      go name t f = low (omega (arith, f.0))
      go (perms n) t f = low (omega (arith, f.0))
      go guard t f = low (omega (arith, f))
      go (term d i s) t f = part-inside ws e p d i s l t k h

  -- the ends from the place n on are written
  abbrev pub Ended : List ℕ → ℕ → Type 0
  Ended l n = (q : ℕ) → n ≤ q → q < length ws → (link_at l q).end ≡ end_of ws q

  -- from part j of the term at p, k terms on
  hops-part : (l : List ℕ) (p : ℕ) → p < length ws → Ended l (suc p) → (k j : ℕ) → j + k ≤ arity (get_or ws p 0)
      → hops l k (part ws p j) ≡ part ws p (j + k)
  unfolding iterate
  hops-part l p i r zero j h = ap (part ws p) (sym (add-zero j))
  hops-part l p i r (suc k) j h =
      let m = parts-inside p j i (omega arith) in
      ap (hops l k) (r (part ws p j) (part-after ws p j) m ∙ sym (part-suc ws p j m))
      ∙ hops-part l p i r k (suc j) (omega arith)
      ∙ ap (part ws p) (let z : suc j + k ≡ j + suc k = omega arith in z)

  hops-end : (l : List ℕ) (p : ℕ) → p < length ws → Ended l (suc p) → hops l (arity (get_or ws p 0)) (suc p) ≡ end_of ws p
  unfolding end_of
  hops-end l p i r =
      ap (hops l (arity (get_or ws p 0))) (sym (part-zero ws p))
      ∙ hops-part l p i r (arity (get_or ws p 0)) 0 (omega arith)
      ∙ ap (part ws p) (zero-add (arity (get_or ws p 0)))

  -- one word
  ended-set : (l : List ℕ) (p : ℕ) → p < length ws → length ws ≤ length l → Ended l (suc p)
      → Ended (set l p (pack (record { end = hops l (arity (get_or ws p 0)) (suc p); binder = 0; home = 0 }))) p
  ended-set l p i m r q h k = go (ℕ_discrete q p)
    where
      x : Link
      x = record { end = hops l (arity (get_or ws p 0)) (suc p); binder = 0; home = 0 }

      right : x.end ≡ end_of ws p
      right = hops-end l p i r

      packs : Packs x
      packs = let a = end-le ws p i in let b = size-le ws e in (omega (arith, right), omega arith, omega arith)

      go : Dec (q ≡ p) → (link_at (set l p (pack x)) q).end ≡ end_of ws q
      go (yes z) =
          subst (λ (n : ℕ). (link_at (set l p (pack x)) n).end ≡ end_of ws n) (sym z)
          (ap (λ (y : Link). y.end) (link_set l p x (omega arith) packs) ∙ right)
      go (no z) =
          ap (λ (y : Link). y.end) (link-other l (set l p (pack x)) q (get_or-set_other l p q (pack x) 0 z))
          ∙ r q (omega (arith, z)) k

  pub ends-ended : (n : ℕ) (l : List ℕ) → n ≤ length ws → length ws ≤ length l → Ended l n → Ended (ends ws n l) 0
  unfolding ends
  ends-ended zero l h m r = r
  ends-ended (suc n) l h m r =
      ends-ended n (set l n _) (omega arith) (subst (λ (k : ℕ). length ws ≤ k) (sym (length-set l n _)) m) (ended-set l n h m r)

pub ends-length : (ws : List ℕ) (n : ℕ) (l : List ℕ) → length (ends ws n l) ≡ length l
unfolding ends
ends-length ws zero l = refl
ends-length ws (suc n) l = ends-length ws n (set l n _) ∙ length-set l n _

-- what stands past the first n words is not touched
pub ends-rest : (ws : List ℕ) (n : ℕ) (l : List ℕ) (q : ℕ) → n ≤ q → get_or (ends ws n l) q 0 ≡ get_or l q 0
unfolding ends
ends-rest ws zero l q h = refl
ends-rest ws (suc n) l q h =
    ends-rest ws n (set l n _) q (omega arith) ∙ get_or-set_other l n q _ 0 (λ z. let c : ⊥ = omega arith in c)
