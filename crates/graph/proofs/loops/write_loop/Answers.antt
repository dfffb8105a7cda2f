use Prim.Native.Nat.{ℕ, ◌+◌, ◌-◌}
use mathlib.Core.Path.{◌≡◌, ap, ◌∙◌}
use native.Mathlib.Omega.{arith}
use borrow.Author.Rules.{rules}
use Rattle.graph.specs.Search.{reaching, is_next, lowest_next, follow}
use Rattle.graph.proofs.Lowest.{lowest-most}
use Rattle.graph.proofs.Walks.{follow-length}
use Rattle.graph.proofs.Writing.{partly-start, partly-on, partly-end, follow-on, follow-none}
use Rattle.graph.proofs.loops.write_loop.Goals as goal

pub loop-i-init : goal.loop-i-init
loop-i-init c =
    let a = c.args in
    let e : a.m - 0 ≡ a.m = omega arith in
    (search rules, rw e (partly-start _ _))

pub bounds-positions-i : goal.bounds-positions-i
bounds-positions-i c = omega (arith, c.loop-i.invariant.1.size)

pub loop-i-preserved : goal.loop-i-preserved
unfolding lowest_next
loop-i-preserved c =
    let l = c.loop-i in
    let a = c.args in
    let e =
    c.lowest_next-x.ensures ∙ ap (λ (s : ℕ). lowest_next a.rows.now a.n s l.x) c.reaching.ensures in
    let h = lowest-most (is_next a.rows.now (reaching a.rows.now a.alive a.t (a.m - (l.i + 1))) l.x) a.n 0 in (
      omega (arith, e, h),
      partly-on a.positions.now (follow a.rows.now a.alive a.n a.t a.m a.t) l.positions l.i l.x _ _
          (follow-on a.rows.now a.alive a.n a.t a.m l.i l.x c.lowest_next-x.result (search rules) e) l.invariant.1,
    )

pub shape_of-positions : goal.shape_of-positions
shape_of-positions c = c.loop-i.invariant.1.size

pub returns : goal.returns
returns c =
    let l = c.loop-i in
    let a = c.args in
    partly-end a.positions.now (follow a.rows.now a.alive a.n a.t a.m a.t) l.positions l.i _
    (follow-none a.rows.now a.alive a.n a.t a.m l.i l.x c.loop-i-test.false)
    (omega (arith, follow-length a.rows.now a.alive a.n a.t a.m a.t)) l.invariant.1
