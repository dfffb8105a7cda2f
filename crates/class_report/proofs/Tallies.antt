-- The counts of a step stand for the systems read so far, and give their totals.
use Rattle.std.specs.Prelude.{Ok, Err}
use Prim.Native.Nat.{ℕ, zero, suc, ◌+◌, ◌≤◌, ◌<◌}
use mathlib.Core.Path.{◌≡◌, refl, sym, ap, ap₂, ◌∙◌}
use mathlib.Core.Bool.{Bool, true, false}
use mathlib.Core.List.{List, [], ◌∷◌, ◌++◌}
use native.Mathlib.Nat.{zero-add, add-zero}
use native.Mathlib.Omega.{arith}
use lib.ListN.{length, get_or, get_or-replicate}
use Rattle.permset.specs.Sets.{width, member}
use Rattle.class_report.specs.Outcome.{Outcome}
use Rattle.class_report.specs.declared.Tally.{Tally}
use Rattle.class_report.specs.Stream.{most_systems}
use Rattle.class_report.specs.Report.{is_accepted, is_refused, leaks_it, how_many, permission_line, permission_lines, count_line, totals, totals_of}
use Rattle.class_report.specs.Tally.{fresh, position, raised, tallied}
use Rattle.class_report.specs.Writing.{count_in}
use Rattle.class_report.proofs.Counting.{raised-more, length-counted, counted-at}

-- ---- how many pass a test

one : Bool → ℕ
one true = 1
one false = 0

one_more : (b : Bool) (n : ℕ) → elim b as (λ c. ℕ) [ true ↦ suc n | false ↦ n ] ≡ n + one b
unfolding one
one_more true n = omega arith
one_more false n = omega arith

module _ (q : Outcome → Bool) where
  many-cons : (o : Outcome) (os : List Outcome) → how_many q (o ∷ os) ≡ how_many q os + one (q o)
  unfolding how_many
  many-cons o os = one_more (q o) (how_many q os)

  -- one outcome more
  many-snoc : (os : List Outcome) (o : Outcome) → how_many q (os ++ o ∷ []) ≡ how_many q os + one (q o)
  many-snoc [] o = many-cons o []
  many-snoc (x ∷ os) o = omega (arith, many-cons x (os ++ o ∷ []), many-cons x os, many-snoc os o)

  one-most : (b : Bool) → one b ≤ 1
  unfolding one
  one-most true = omega arith
  one-most false = omega arith

  many-most : (os : List Outcome) → how_many q os ≤ length os
  unfolding how_many
  many-most [] = omega arith
  many-most (x ∷ os) = omega (arith, many-cons x os, many-most os, one-most (q x))

all-counted : (os : List Outcome) → how_many is_accepted os + how_many is_refused os ≡ length os
unfolding how_many is_accepted is_refused
all-counted [] = refl
all-counted (Ok s ∷ os) = let e = all-counted os in omega arith
all-counted (Err r ∷ os) = let e = all-counted os in omega arith

-- ---- counts that stand for outcomes

pub record Counts (t : Tally) (os : List Outcome) : Type 0 where
  pub accepts : t.accepted ≡ how_many is_accepted os
  pub refuses : t.refused ≡ how_many is_refused os
  pub wide : length t.leaks ≡ width
  pub leaks : (i : ℕ) → i < width → count_in t.leaks i ≡ how_many (leaks_it i) os

pub counts-fresh : Counts fresh []
unfolding how_many
counts-fresh = record { accepts = refl; refuses = refl; wide = refl; leaks = λ i h. get_or-replicate width i 0 0 h }

pub counts-position : (t : Tally) (os : List Outcome) → Counts t os → position t ≡ length os
counts-position t os k = ap₂ (λ (a b : ℕ). a + b) k.accepts k.refuses ∙ all-counted os

-- one more, below the most systems of a stream
raised-as : (b : Bool) (n m : ℕ) → n ≡ m → m < most_systems → raised b n ≡ m + one b
unfolding raised one
raised-as true n m e h = sym (raised-more n (omega arith)) ∙ ap (λ (k : ℕ). k + 1) e
raised-as false n m e h = omega arith

unchanged : (q : Outcome → Bool) (os : List Outcome) (o : Outcome) → q o ≡ false → how_many q os ≡ how_many q (os ++ o ∷ [])
unfolding one
unchanged q os o e = sym (many-snoc q os o ∙ ap (λ (b : Bool). how_many q os + one b) e ∙ add-zero (how_many q os))

pub counts-more : (t : Tally) (os : List Outcome) (o : Outcome) → Counts t os → length os < most_systems → Counts (tallied t o) (os ++ o ∷ [])
unfolding tallied one is_accepted is_refused leaks_it
counts-more t os (Ok s) k h =
    record {
      accepts = raised-as true _ _ k.accepts (omega (arith, many-most is_accepted os)) ∙ sym (many-snoc is_accepted os (Ok s));
      refuses = k.refuses ∙ unchanged is_refused os (Ok s) refl;
      wide = length-counted 0 s.bits t.leaks ∙ k.wide;
      leaks = λ i w. counted-at 0 s.bits t.leaks i (omega (arith, k.wide)) ∙ ap (λ (j : ℕ). raised (member s.bits j) (get_or t.leaks i 0)) (zero-add i)
          ∙ raised-as (member s.bits i) _ _ (k.leaks i w) (omega (arith, many-most (leaks_it i) os)) ∙ sym (many-snoc (leaks_it i) os (Ok s));
    }
counts-more t os (Err r) k h =
    record {
      accepts = k.accepts ∙ unchanged is_accepted os (Err r) refl;
      refuses = raised-as true _ _ k.refuses (omega (arith, many-most is_refused os)) ∙ sym (many-snoc is_refused os (Err r));
      wide = k.wide;
      leaks = λ i w. k.leaks i w ∙ unchanged (leaks_it i) os (Err r) refl;
    }

-- ---- the totals

same_lines : (n i of : ℕ) (f g : ℕ → ℕ) → ((j : ℕ) → j < i + n → f j ≡ g j) → permission_lines n i of f ≡ permission_lines n i of g
unfolding permission_lines
same_lines zero i of f g h = refl
same_lines (suc n) i of f g h =
    ap₂ (λ (m : ℕ) (l : List ℕ). permission_line i m of ++ l) (h i (omega arith)) (same_lines n (suc i) of f g (λ j k. h j (omega arith)))

pub counts-totals : (t : Tally) (os : List Outcome) → Counts t os → totals t.accepted t.refused (count_in t.leaks) ≡ totals_of os
unfolding totals totals_of
counts-totals t os k =
    ap₂ (λ (n m : ℕ). count_line n m ++ permission_lines width 0 n (count_in t.leaks)) k.accepts k.refuses
    ∙ ap (λ (l : List ℕ). count_line (how_many is_accepted os) (how_many is_refused os) ++ l)
    (same_lines width 0 (how_many is_accepted os) (count_in t.leaks) (λ i. how_many (leaks_it i) os) (λ j h. k.leaks j (omega arith)))
