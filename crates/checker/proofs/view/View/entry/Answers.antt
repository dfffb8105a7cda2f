-- `checker::view::View::entry` meets its contract. Assumes nothing.
use mathlib.Core.Bool.{not}
use mathlib.Core.Path.{◌≡◌, sym, ap, ◌∙◌}
use mathlib.Core.Bool.{Bool}
use Prim.Native.Nat.{ℕ}
use Rattle.permset.specs.Sets.{within}
use Rattle.table.specs.Code.{Node, block}
use Rattle.calculus.specs.Rules.{guarded, entry}
use Rattle.clauses.proofs.Sorts.{row-B}
use Rattle.checker.proofs.Laws.{both, put_is, idle, due, on-only}
use Rattle.checker.proofs.view.View.entry.Goals as goal

guard-is : {n : Node} {a b g : ℕ} (s : ℕ) {r : Bool} → r ≡ within g s → n ≡ block a b g → r ≡ guarded n s
unfolding guarded
guard-is s q i = q ∙ ap (λ (m : Node). guarded m s) (sym i)

pub returns-then-not-within : goal.returns-then-not-within
unfolding entry
returns-then-not-within c = λ k o w n. idle (on-only (guard-is c.args.rho.bits c.within.ensures n)) (ap not c.if-not-within.true)

pub returns : goal.returns
unfolding entry
returns c = λ k o w n. due (on-only (guard-is c.args.rho.bits c.within.ensures n)) (ap not c.if-not-within.false) (both (put_is (c.is_live.ensures k o)) (both (rw (row-B c.args.p) at (c.full.ensures k o w)) (put_is (c.in_value.ensures k o))))
