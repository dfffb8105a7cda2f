-- What a term asks for a thing in the value set of its first part.
use Rattle.std.specs.Prelude.{ℕ, suc, ◌<◌, ◌≡◌}
use Rattle.calculus.specs.Constraint.{C, B, P, Rule, sub, ◌and◌}
use Rattle.calculus.specs.Rules.{live}
use Rattle.clauses.specs.Asks.{row_at}
use Rattle.checker.specs.declared.things.Action.{Action}
use Rattle.checker.specs.declared.things.Action.TheVariants as actions

-- apply at p, where y is the row of the argument; B(f) goes into the row y; the row y goes into B(f)
unfoldable pub asked : Action → (p y f : ℕ) → Rule
asked actions.Call p y f = live (suc f) and sub (row_at y) (B f) and sub (C (suc f)) (C p) and sub (P (suc f)) (P p)
asked actions.Take p y f = sub (B f) (row_at y)
asked actions.Hand p y f = sub (row_at y) (B f)

-- the masks that an action may go by: only functions are called
abbrev pub Suits : Action → ℕ → Type 0
Suits actions.Call m = m ≡ 0
Suits actions.Take m = m < 3
Suits actions.Hand m = m < 3
