-- Theorems of the converters: what they write is accepted, and each is undone by the other.
use mathlib.Core.Path.{◌≡◌, refl, sym, ap, subst, ◌∙◌}
use mathlib.Core.Bool.{Bool, true, false}
use mathlib.Core.List.{List, [], ◌∷◌}
use mathlib.Core.Logic.{◌⊎◌, inl, inr, ⊎_elim}
use Prim.Native.Nat.{ℕ, ◌≤◌, ◌<◌}
use native.Mathlib.Omega.{arith}
use borrow.Author.Tests.{ltb-false}
use lib.Dec.{ltb}
use lib.ListN.{length, get_or, take, drop}
use lib.Seq.{take_at}
use Rattle.table.specs.Words.{kind, argument, word_of, narrow, wide}
use Rattle.table.specs.Scan.{Outcome, head, accepted, refused, names_at, reading, narrow_reading}
use Rattle.table.proofs.Faults.{stands}
use Rattle.table.proofs.Stack.{refused-not-accepted, at-start, at-step}
use Rattle.table.proofs.Widths.{narrow-names, narrow-accepted, narrow-kind}
use Rattle.table.proofs.Blocks.{head-word}
use Rattle.table.proofs.Limits.{size-le}
use Rattle.widths.specs.Converters.{rekinded, widened, narrowed, read_as, names_fit, fits_narrow, narrowable, Answer, written, refusal}
use Rattle.widths.specs.Converters.{kind_for, converted, convertible, answer, out_after, convert_answer, convert_out}
use Rattle.widths.proofs.Words.{length-kept, first_word, kind-given, argument-kept}
use Rattle.widths.proofs.Codes.{some_words, names-widened, names-narrowed}
use Rattle.widths.proofs.Refusals.{of-kind, accepted-kind, few-handlers}
use Rattle.widths.proofs.Scans.{AllNamed, named_more, reading-named, named-kept, reading-kept}
use Rattle.widths.proofs.Names.{fit-named, named-fit}

zero_one : ◌≡◌ {A = ℕ} 0 1 → ⊥
zero_one e = omega arith

-- ---- a table back under its own kind

own-kind : (k w : ℕ) → kind w ≡ k → word_of k (argument w) ≡ w
own-kind k w e = omega arith

back : (j k : ℕ) (ws : List ℕ) → 0 < length ws → kind (get_or ws 0 0) ≡ k → rekinded k (rekinded j ws) ≡ ws
unfolding rekinded
back j k [] h e = let n : ⊥ = omega arith in absurd n
back j k (w ∷ ws) h e = ap (λ (v : ℕ). v ∷ ws) (ap (word_of k) (argument-kept j w) ∙ own-kind k w e)

-- ---- a table with word 0 of another kind

module _ (k : ℕ) (o : (k ≡ 1) ⊎ (k ≡ 5)) (ws : List ℕ) (e : reading ws ≡ accepted) where
  first : get_or (rekinded k ws) 0 0 ≡ word_of k (argument (get_or ws 0 0))
  first = first_word k ws 0 (some_words ws e) refl

  handlers-kept : argument (get_or (rekinded k ws) 0 0) ≡ argument (get_or ws 0 0)
  handlers-kept = ap argument first ∙ argument-kept k (get_or ws 0 0)

  rekinded-accepted : (n : ℕ) → names_at (rekinded k ws) ≡ n → argument (get_or ws 0 0) ≤ n → AllNamed n ws → read_as k (rekinded k ws) ≡ accepted
  rekinded-accepted n m h a =
      of-kind k (rekinded k ws) (ap kind first ∙ kind-given k (get_or ws 0 0))
      ∙ reading-kept k o ws (subst (λ (x : ℕ). argument (get_or ws 0 0) ≤ x) (sym m) h) (subst (λ (x : ℕ). AllNamed x ws) (sym m) a) e

-- ---- a narrow table made wide

module _ (ws : List ℕ) (e : read_as 1 ws ≡ accepted) where
  abbrev readable : reading ws ≡ accepted
  readable = (accepted-kind 1 ws e).1

  names-are : names_at ws ≡ narrow
  names-are = let k = (accepted-kind 1 ws e).0 in narrow-names (get_or ws 0 0) (λ h. omega arith)

  few : argument (get_or ws 0 0) ≤ narrow
  few = let h = (head-word ws readable).handled in let n = names-are in omega arith

  all_named : AllNamed narrow ws
  all_named = subst (λ (n : ℕ). AllNamed n ws) names-are (reading-named ws readable)

  -- what `widen` writes is a wide table
  pub widened-accepted : read_as 5 (widened ws) ≡ accepted
  widened-accepted =
      let h = few in
      rekinded-accepted 5 (inr refl) ws readable wide (names-widened ws (some_words ws readable)) (omega arith)
      (named_more narrow wide (omega arith) ws all_named)

  -- that `narrow` does not refuse
  pub widened-narrowable : narrowable (widened ws) ≡ accepted
  widened-narrowable =
      let h = few in
      let a = handlers-kept 5 (inr refl) ws readable in
      few-handlers (widened ws) widened-accepted (omega arith) ∙ named-fit (widened ws) 0 (named-kept 5 (inr refl) narrow ws all_named)

  -- and from which it writes the same words
  pub narrowed-widened : narrowed (widened ws) ≡ ws
  narrowed-widened = back 5 1 ws (some_words ws readable) (accepted-kind 1 ws e).0

-- ---- a wide table made narrow

record Fits (ws : List ℕ) : Type 0 where
  read : read_as 5 ws ≡ accepted
  few : argument (get_or ws 0 0) ≤ narrow
  named : names_fit ws 0 ≡ accepted

fits : (ws : List ℕ) → narrowable ws ≡ accepted → Fits ws
unfolding narrowable fits_narrow
fits ws = go (read_as 5 ws) (ltb narrow (argument (get_or ws 0 0))) refl (ltb-false narrow (argument (get_or ws 0 0)))
  where
    go : (o : Outcome) (b : Bool) → read_as 5 ws ≡ o → (b ≡ false → argument (get_or ws 0 0) ≤ narrow)
        → elim o [ refused n p ↦ refused n p | accepted ↦ elim b [ true ↦ refused 55 0 | false ↦ names_fit ws 0 ] ] ≡ accepted → Fits ws
    go (refused n p) b r f e = absurd (refused-not-accepted e)
    go accepted true r f e = absurd (refused-not-accepted e)
    go accepted false r f e = record { read = r; few = f refl; named = e }

module _ (ws : List ℕ) (e : narrowable ws ≡ accepted) where
  pub wide-table : (kind (get_or ws 0 0) ≡ 5) × (reading ws ≡ accepted)
  wide-table = accepted-kind 5 ws (fits ws e).read

  -- what `narrow` writes is a narrow table
  pub narrowed-accepted : read_as 1 (narrowed ws) ≡ accepted
  narrowed-accepted =
      let r = wide-table.1 in
      let f = fits ws e in
      rekinded-accepted 1 (inl refl) ws r narrow (names-narrowed ws (some_words ws r)) f.few (fit-named ws 0 f.named)

  -- from which `widen` writes the same words
  pub widened-narrowed : widened (narrowed ws) ≡ ws
  widened-narrowed = back 1 5 ws (some_words ws wide-table.1) wide-table.0

-- ---- the two calls

-- every accepted narrow table is one that `widen` takes
pub narrow-table : (ws : List ℕ) → narrow_reading ws ≡ accepted → read_as 1 ws ≡ accepted
narrow-table ws e =
    let r = (narrow-accepted ws e).0 in
    let t = head (length ws) in
    let s = stands (names_at ws) [] (get_or ws 0 0) t (at-step ws 0 [] t [] (at-start ws r)).faultless in
    of-kind 1 ws (⊎_elim (λ h. h) (λ h. absurd (narrow-kind ws e h)) s.0) ∙ r

-- `narrow` after `widen` is refused for its room alone, and so is `widen` after `narrow`
pub narrow-after-widen : (ws : List ℕ) (room : ℕ) → read_as 1 ws ≡ accepted → convert_answer false (widened ws) room ≡ answer accepted (length ws) room
unfolding convert_answer convertible
narrow-after-widen ws room e = rw (widened-narrowable ws e, length-kept 5 ws)

pub widen-after-narrow : (ws : List ℕ) (room : ℕ) → narrowable ws ≡ accepted → convert_answer true (narrowed ws) room ≡ answer accepted (length ws) room
unfolding convert_answer convertible
widen-after-narrow ws room e = rw (narrowed-accepted ws e, length-kept 1 ws)

-- A call that is not refused had a table that could be converted; as many words were written as it has, and there was room.
pub answer-written : (o : Outcome) (words room n : ℕ) → answer o words room ≡ written n → (o ≡ accepted) × (n ≡ words) × (words ≤ room)
unfolding answer
answer-written (refused k p) words room n e = let z : ◌≡◌ {A = ℕ} 0 1 = cc in absurd (zero_one z)
answer-written accepted words room n e = go (ltb room words) (ltb-false room words) e
  where
    go : (b : Bool) → (b ≡ false → words ≤ room) → elim b [ true ↦ refusal 57 0 | false ↦ written words ] ≡ written n
        → (accepted ≡ accepted) × (n ≡ words) × (words ≤ room)
    go true f h = let z : ◌≡◌ {A = ℕ} 0 1 = cc in absurd (zero_one z)
    go false f h = (refl, cc, f refl)

-- what can be converted was accepted as a table of the other width, and is then one of this width
pub converted-accepted : (wide : Bool) (ws : List ℕ) → convertible wide ws ≡ accepted
    → (reading ws ≡ accepted) × (read_as (kind_for wide) (converted wide ws) ≡ accepted)
unfolding convertible
converted-accepted true ws e = ((accepted-kind 1 ws e).1, widened-accepted ws e)
converted-accepted false ws e = ((wide-table ws e).1, narrowed-accepted ws e)

module _ (wide : Bool) (ws out : List ℕ) (n : ℕ) (e : convert_answer wide ws (length out) ≡ written n) where
  unfoldable done : (convertible wide ws ≡ accepted) × (n ≡ length ws) × (length ws ≤ length out)
  unfolding convert_answer
  done = answer-written (convertible wide ws) (length ws) (length out) n e

  -- the output starts with the converted words
  pub converted-written : take n (convert_out wide ws out) ≡ converted wide ws
  unfolding convert_out out_after
  converted-written =
      ap (λ (a : Answer). take n (out_after a (converted wide ws) out)) e
      ∙ take_at (converted wide ws) (drop n out) n (length-kept (kind_for wide) ws ∙ sym done.1)

  -- which are a table of this width
  pub written-accepted : read_as (kind_for wide) (converted wide ws) ≡ accepted
  written-accepted = (converted-accepted wide ws done.0).1

  pub written-few : n ≤ 1024
  written-few = omega (arith, done.1, size-le ws (converted-accepted wide ws done.0).0)
