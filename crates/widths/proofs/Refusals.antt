-- The refusals of the converters, by the tests that hold and those that do not.
use mathlib.Core.Path.{◌≡◌, refl, ap, ◌∙◌}
use mathlib.Core.Bool.{Bool, true, false, ◌||◌}
use mathlib.Core.List.{List, [], ◌∷◌, ◌++◌}
use Prim.Native.Nat.{ℕ, ◌+◌, ◌<◌, ◌≤◌, suc}
use native.Mathlib.Numerals.{add-one}
use native.Mathlib.Omega.{arith}
use borrow.Author.Tests.{eqb-true, eq-eqb, ne_eqb, lt-ltb, le-ltb, lt-leb, le-leb}
use lib.Dec.{eqb}
use lib.ListN.{length, get_or, drop}
use Rattle.std.specs.Prelude.{Option, Some, None, Result, Ok, Err, cond}
use Rattle.std.specs.Result.{MatchResult, IsErrAnd}
use Rattle.std.specs.List.{position_from}
use Rattle.table.specs.Words.{kind, argument, narrow}
use Rattle.table.specs.Scan.{Outcome, accepted, refused, reading, missing, scan}
use Rattle.table.specs.declared.Refusal.{Refusal}
use Rattle.table.specs.Answer.{outcome}
use Rattle.table.proofs.Stack.{refused-not-accepted}
use Rattle.widths.specs.Converters.{read_as, wide_name, names_fit, fits_narrow, narrowable, Answer, written, refusal}
use Rattle.widths.specs.Converters.{converted, convertible, answer, out_after, convert_answer, convert_out}
use Rattle.widths.specs.declared.Fault.{Fault}
use Rattle.widths.specs.declared.Fault.TheVariants as faults
use Rattle.widths.specs.Answers.{fault_number, fault_place, checked_as}

-- what `map_err` makes of the reading of a table
pub checked-reading : (r : Result (Unit {0}) Refusal) (m : Result (Unit {0}) Fault)
    → MatchResult r (λ x. m ≡ Ok x) (λ e. IsErrAnd m (λ f. f ≡ faults.Table e)) → checked_as m ≡ outcome r
unfolding outcome checked_as fault_number fault_place
checked-reading (Ok x) m h = ap checked_as h
checked-reading (Err e) (Ok x) h = absurd h
checked-reading (Err e) (Err f) h = ap (λ (g : Fault). checked_as (Err g)) h

module _ (k : ℕ) (ws : List ℕ) where
  pub of-kind : kind (get_or ws 0 0) ≡ k → read_as k ws ≡ reading ws
  unfolding read_as
  of-kind h = rw (eq-eqb (kind (get_or ws 0 0)) k h, read_as)

  pub other-kind : (kind (get_or ws 0 0) ≡ k → ⊥) → read_as k ws ≡ refused 1 0
  unfolding read_as
  other-kind h = rw (ne_eqb (kind (get_or ws 0 0)) k h, read_as)

  -- a table that is accepted has the kind
  pub accepted-kind : read_as k ws ≡ accepted → (kind (get_or ws 0 0) ≡ k) × (reading ws ≡ accepted)
  unfolding read_as
  accepted-kind = go (eqb (kind (get_or ws 0 0)) k) (eqb-true (kind (get_or ws 0 0)) k)
    where
      go : (b : Bool) → (b ≡ true → kind (get_or ws 0 0) ≡ k) → elim b [ true ↦ reading ws | false ↦ refused 1 0 ] ≡ accepted
          → (kind (get_or ws 0 0) ≡ k) × (reading ws ≡ accepted)
      go true f e = (f refl, e)
      go false f e = absurd (refused-not-accepted e)

pub no_word : (k : ℕ) (ws : List ℕ) → length ws ≡ 0 → read_as k ws ≡ refused 1 0
unfolding read_as reading scan missing
no_word k [] e = either (eqb (kind 0) k)
  where
    either : (b : Bool) → elim b [ true ↦ refused 1 0 | false ↦ refused 1 0 ] ≡ refused 1 0
    either true = refl
    either false = refl
no_word k (w ∷ ws) e = let n : ⊥ = omega arith in absurd n

-- ---- the first name that no narrow table has

module _ (w : ℕ) where
  pub low-name : argument w < narrow → wide_name w ≡ false
  unfolding wide_name
  low-name h = rw (lt-leb narrow (argument w) h)

  pub high-name : narrow ≤ argument w → wide_name w ≡ (eqb (kind w) 2 || eqb (kind w) 19)
  unfolding wide_name
  high-name h = rw (le-leb narrow (argument w) h)

-- the first such word decides
unfoldable pub fit_at : Option ℕ → Outcome
fit_at (Some i) = refused 56 i
fit_at None = accepted

pub fit-position : (ws : List ℕ) (at : ℕ) → fit_at (position_from wide_name at ws) ≡ names_fit ws at
unfolding names_fit fit_at
fit-position [] at = refl
fit-position (w ∷ ws) at = go (wide_name w) (fit-position ws (suc at))
  where
    go : (b : Bool) → fit_at (position_from wide_name (suc at) ws) ≡ names_fit ws (suc at)
        → fit_at (cond b (Some at) (position_from wide_name (at + 1) ws)) ≡ elim b [ true ↦ refused 56 at | false ↦ names_fit ws (suc at) ]
    go true e = refl
    go false e = rw add-one e

-- ---- a wide table that can be made narrow

module _ (ws : List ℕ) where
  pub not_wide : (n p : ℕ) → read_as 5 ws ≡ refused n p → narrowable ws ≡ refused n p
  unfolding narrowable
  not_wide n p e = rw (narrowable, e)

  module _ (e : read_as 5 ws ≡ accepted) where
    pub many-handlers : narrow < argument (get_or ws 0 0) → narrowable ws ≡ refused 55 0
    unfolding narrowable fits_narrow
    many-handlers h = rw (narrowable, e, lt-ltb narrow (argument (get_or ws 0 0)) h, fits_narrow)

    pub few-handlers : argument (get_or ws 0 0) ≤ narrow → narrowable ws ≡ names_fit ws 0
    unfolding narrowable fits_narrow
    few-handlers h = rw (narrowable, e, le-ltb narrow (argument (get_or ws 0 0)) h, fits_narrow)

-- ---- the answer and the output, by the tests before and the room

module _ (o : Outcome) (n : ℕ) (ws out : List ℕ) where
  -- what is answered and what stands in the output
  abbrev pub Given : Answer → List ℕ → Type 0
  Given a after = (answer o n (length out) ≡ a) × (out_after (answer o n (length out)) ws out ≡ after)

  given : (a : Answer) → answer o n (length out) ≡ a → Given a (out_after a ws out)
  given a e = (e, ap (λ (b : Answer). out_after b ws out) e)

  pub stopped : (k p : ℕ) → o ≡ refused k p → Given (refusal k p) out
  unfolding answer out_after
  stopped k p e = given (refusal k p) (rw (e, answer))

  pub no_room : o ≡ accepted → length out < n → Given (refusal 57 0) out
  unfolding answer out_after
  no_room e h = given (refusal 57 0) (ap (λ (x : Outcome). answer x n (length out)) e ∙ rw (lt-ltb (length out) n h, answer))

  pub all-written : o ≡ accepted → n ≤ length out → Given (written n) (ws ++ drop n out)
  unfolding answer out_after
  all-written e h = given (written n) (ap (λ (x : Outcome). answer x n (length out)) e ∙ rw (le-ltb (length out) n h, answer))

module _ (wide : Bool) (ws out : List ℕ) where
  pub halted : (k p : ℕ) → convertible wide ws ≡ refused k p → (convert_answer wide ws (length out) ≡ refusal k p) × (convert_out wide ws out ≡ out)
  unfolding convert_answer convert_out
  halted k p e = stopped (convertible wide ws) (length ws) (converted wide ws) out k p e

  pub goes-on : convertible wide ws ≡ accepted
      → (convert_answer wide ws (length out) ≡ answer accepted (length ws) (length out))
      × (convert_out wide ws out ≡ out_after (answer accepted (length ws) (length out)) (converted wide ws) out)
  unfolding convert_answer convert_out
  goes-on e = rw e (refl, refl)
