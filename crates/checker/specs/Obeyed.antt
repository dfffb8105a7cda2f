-- Whether the words of an estimate obey a rule, as a yes or no, and the lowest word whose rule they do not obey.
use Rattle.std.specs.Prelude.{ℕ, zero, suc, Bool, ◌&&◌, List, [], ◌∷◌}
use Rattle.std.proofs.Math.Bool.{true, false, not}
use Rattle.table.specs.Code.{Code}
use Rattle.calculus.specs.Constraint.{Rule, none, put, sub, given, some, only, each, ◌and◌}
use Rattle.calculus.specs.Layout.{span, sets}
use Rattle.calculus.specs.Estimate.{any_from}
use Rattle.calculus.specs.Rules.{rule}

-- each number of a list passes the test
unfoldable pub all_of : List ℕ → (ℕ → Bool) → Bool
all_of [] q = true
all_of (x ∷ xs) q = elim (q x) [ true ↦ all_of xs q | false ↦ false ]

-- the first of the n numbers from i on that fails the test, the number after them where none fails
unfoldable pub first_from : ℕ → ℕ → (ℕ → Bool) → ℕ
first_from zero i q = i
first_from (suc n) i q = elim (q i) [ true ↦ first_from n (suc i) q | false ↦ i ]

module _ (c : Code) where
  unfoldable pub obeys : Rule → List ℕ → Bool
  unfolding sets span any_from all_of
  obeys none ws = true
  obeys (put r v) ws = sets c ws r v
  -- no element of a is missing in b
  obeys (sub a b) ws = not (any_from (span c a) 0 (λ v. sets c ws a v && not (sets c ws b v)))
  obeys (given r v k) ws = elim (sets c ws r v) [ true ↦ obeys k ws | false ↦ true ]
  obeys (some r q k) ws = elim (any_from (span c r) 0 (λ v. q v && sets c ws r v)) [ true ↦ obeys k ws | false ↦ true ]
  obeys (only t k) ws = elim t [ true ↦ obeys k ws | false ↦ true ]
  obeys (each xs k) ws = all_of xs (λ i. obeys (k i) ws)
  obeys (k and l) ws = elim (obeys k ws) [ true ↦ obeys l ws | false ↦ false ]

-- the lowest word whose rule is not obeyed, the size of the table where there is none
unfoldable pub first_broken : Code → ℕ → List ℕ → ℕ
unfolding first_from obeys
first_broken c ρ ws = first_from c.size 0 (λ p. obeys c (rule c ρ p) ws)
