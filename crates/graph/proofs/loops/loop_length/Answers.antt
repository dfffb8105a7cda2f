use Prim.Native.Nat.{ℕ, ◌+◌}
use mathlib.Core.Path.{◌≡◌, sym, subst}
use native.Mathlib.Omega.{arith}
use lib.Dec.{leb}
use Rattle.std.specs.Bool.{then_some}
use Rattle.graph.specs.Search.{loop_length, IsBelow}
use Rattle.graph.proofs.Fewest.{Best, best-start, best-next, best-end}
use Rattle.graph.proofs.Lowest.{then-below}
use Rattle.graph.proofs.loops.loop_length.Goals as goal

pub loop-t-init : goal.loop-t-init
loop-t-init c = best-start c.args.rows.now c.args.alive c.args.n

pub closing-shortest-requires : goal.closing-shortest-requires
closing-shortest-requires c = let p = c.loop-t.invariant.positive in (omega arith, p, c.requires.2)

pub loop-t-preserved : goal.loop-t-preserved
loop-t-preserved c =
    let l = c.loop-t in
    let a = c.args in
    subst (Best a.rows.now a.alive a.n (l.t + 1)) (sym c.closing-shortest.ensures)
    (best-next a.rows.now a.alive a.n l.t l.shortest l.invariant)

pub returns : goal.returns
returns c =
    let l = c.loop-t in
    let a = c.args in
    let all : l.t ≡ a.n = omega arith in
    let best : Best a.rows.now a.alive a.n a.n l.shortest =
    subst (λ (t : ℕ). Best a.rows.now a.alive a.n t l.shortest) all l.invariant in
    subst (IsBelow (a.n + 1) (loop_length a.rows.now a.alive a.n)) (sym c.then_some.ensures)
    (subst (λ (k : ℕ). IsBelow (a.n + 1) k (then_some (leb l.shortest a.n) l.shortest)) (best-end a.rows.now a.alive a.n l.shortest best)
    (then-below a.n l.shortest))
