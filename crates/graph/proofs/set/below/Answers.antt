-- `graph::set::below` meets its contract. Assumes nothing.
use Prim.Native.Nat.{ℕ, ◌%◌, ◌^◌, ◌<◌}
use mathlib.Core.Path.{sym, ap, subst}
use native.Mathlib.Nat.{mod-eq_of_lt, le_trans}
use borrow.Author.Rules.{rules}
use lib.Pow.{pow_pos, pow_mono}
use Rattle.graph.proofs.set.below.Goals as goal

pub nonzero_rem-result : goal.nonzero_rem-result
nonzero_rem-result c = subst (λ (k : ℕ). 0 < k) (sym c.single.ensures) (pow_pos c.args.n)

pub returns-then-n-lt64 : goal.returns-then-n-lt64
returns-then-n-lt64 c = ap (λ (k : ℕ). c.args.set % k) c.single.ensures

pub returns-else-n-lt64 : goal.returns-else-n-lt64
returns-else-n-lt64 c =
    sym (mod-eq_of_lt (le_trans {m = 2 ^ 64} (search rules) (pow_mono c.if-n-lt64.false)))
