-- A step of a solver, as a rule: what a clause asks where its word is live.
use Rattle.std.specs.Prelude.{ℕ, List}
use Rattle.table.specs.Code.{code}
use Rattle.calculus.specs.Constraint.{Rule, L, given}
use Rattle.calculus.specs.Elements.{plain}
use Rattle.clauses.specs.Asks.{asks}
use Rattle.clauses.specs.Clauses.{clause_at}

-- clause k of the word p, for all its targets or (f not 0) for the target f
abbrev pub step_at : (ws links : List ℕ) → (p k f : ℕ) → Rule
step_at ws links p k f = given (L p) 0 (asks (code ws) (clause_at ws links (plain (code ws)) p k) f)
