-- The reading of two tables, by what the reading of each answers.
use mathlib.Core.Path.{◌≡◌, refl, sym, ap, ◌∙◌}
use mathlib.Core.List.{List}
use Prim.Native.Nat.{ℕ, ◌+◌, ◌≤◌}
use native.Mathlib.Omega.{arith}
use Rattle.table.specs.Scan.{Outcome, accepted, refused, narrow_reading}
use Rattle.table.specs.Answer.{number, place, outcome}
use Rattle.table.specs.declared.Refusal.{Refusal}
use Rattle.table.specs.declared.Refusal.TheVariants as refusals
use Rattle.table.proofs.Stack.{refused-not-accepted}
use Rattle.std.specs.Prelude.{Result, Ok, Err}
use Rattle.std.specs.Result.{MatchResult, IsErrAnd}
use Rattle.overlay.specs.declared.Fault.{Fault}
use Rattle.overlay.specs.Lookup.{tables_read}
use Rattle.overlay.specs.Answers.{checked_as}

module _ (base overlay : List ℕ) where
  pub base-refused : (n p : ℕ) → narrow_reading base ≡ refused n p → tables_read base overlay ≡ refused n p
  unfolding tables_read
  base-refused n p e = rw (tables_read, e)

  module _ (e : narrow_reading base ≡ accepted) where
    pub overlay-refused : (n p : ℕ) → narrow_reading overlay ≡ refused n p → tables_read base overlay ≡ refused (100 + n) p
    unfolding tables_read
    overlay-refused n p f = rw (tables_read, e, f)

    pub both-accepted : narrow_reading overlay ≡ accepted → tables_read base overlay ≡ accepted
    unfolding tables_read
    both-accepted f = rw (tables_read, e, f)

  -- both are accepted where nothing is refused
  pub tables-accepted : tables_read base overlay ≡ accepted → (narrow_reading base ≡ accepted) × (narrow_reading overlay ≡ accepted)
  tables-accepted e = go (narrow_reading base) (narrow_reading overlay) refl refl
    where
      go : (b o : Outcome) → narrow_reading base ≡ b → narrow_reading overlay ≡ o → (narrow_reading base ≡ accepted) × (narrow_reading overlay ≡ accepted)
      go accepted accepted p q = (p, q)
      go accepted (refused n k) p q = absurd (refused-not-accepted (sym (overlay-refused p n k q) ∙ e))
      go (refused n k) o p q = absurd (refused-not-accepted (sym (base-refused n k p) ∙ e))

  -- where `check` answers so
  pub checked-accepted : {r : Result (Unit {0}) Fault} {u : Unit {0}} → checked_as r ≡ tables_read base overlay → r ≡ Ok u → tables_read base overlay ≡ accepted
  unfolding checked_as
  checked-accepted e h = sym e ∙ ap checked_as h

-- ---- what `map_err` makes of the reading of a table

abbrev Mapped : (Refusal → Fault) → Result (Unit {0}) Refusal → Result (Unit {0}) Fault → Type 0
Mapped wrap r m = MatchResult r (λ x. m ≡ Ok x) (λ e. IsErrAnd m (λ f. f ≡ wrap e))

pub mapped-ok : (wrap : Refusal → Fault) (r : Result (Unit {0}) Refusal) (m : Result (Unit {0}) Fault) {u : Unit {0}} → Mapped wrap r m → m ≡ Ok u
    → outcome r ≡ accepted
unfolding outcome
mapped-ok wrap (Ok x) m h e = refl
mapped-ok wrap (Err e) (Ok x) h k = absurd h
mapped-ok wrap (Err e) (Err f) h k = absurd (cc)

pub mapped-err : (wrap : Refusal → Fault) (r : Result (Unit {0}) Refusal) (m : Result (Unit {0}) Fault) {f : Fault} → Mapped wrap r m → m ≡ Err f
    → (e : Refusal) × (outcome r ≡ refused (number e) (place e)) × (f ≡ wrap e)
unfolding outcome
mapped-err wrap (Ok x) m h e = absurd (cc)
mapped-err wrap (Err e) (Ok x) h k = absurd h
mapped-err wrap (Err e) (Err f) h k = (e, refl, cc)

-- a table has the numbers up to 12
pub number_small : (r : Refusal) → number r ≤ 12
unfolding number
number_small refusals.NotTable = omega arith
number_small refusals.TooManyWords = omega arith
number_small refusals.TooManyHandlers = omega arith
number_small (refusals.NotBlock p) = omega arith
number_small (refusals.NameRange p) = omega arith
number_small (refusals.KeyUsed p) = omega arith
number_small (refusals.NotTerm p) = omega arith
number_small (refusals.NoTerm p) = omega arith
number_small (refusals.ArgumentRange p) = omega arith
number_small (refusals.NoBinder p) = omega arith
number_small (refusals.TooDeep p) = omega arith
number_small (refusals.Trailing p) = omega arith
