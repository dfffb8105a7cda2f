use Prim.Native.Nat.{ℕ, ◌+◌, ◌-◌, ◌≤◌}
use mathlib.Core.Path.{◌≡◌, ap, ◌∙◌}
use mathlib.Core.List.{List, []}
use native.Mathlib.Nat.{zero-add}
use native.Mathlib.Omega.{arith}
use borrow.Author.Rules.{rules}
use lib.ListN.{length}
use Rattle.graph.specs.Search.{order_from}
use Rattle.graph.specs.Answer.{starting_with}
use Rattle.graph.proofs.Writing.{Partly, partly-start, partly-on, partly-end, order-on, order-stop, order-none, order-length}
use Rattle.graph.proofs.order.write_order.Goals as goal

-- where nothing is left to be written
finished : (rows : List ℕ) (n alive : ℕ) (old now : List ℕ) (left count : ℕ) → order_from rows n (n - count) left ≡ [] → n ≤ length old
    → Partly old (order_from rows n n alive) now count (order_from rows n (n - count) left)
    → count + length (order_from rows n (n - count) left) ≡ length (order_from rows n n alive)
    → (count ≡ length (order_from rows n n alive)) × (now ≡ starting_with (order_from rows n n alive) old)
finished rows n alive old now left count e h w t = (
  omega (arith, ap length e),
  partly-end old (order_from rows n n alive) now count (order_from rows n (n - count) left) e
      (let k = order-length rows n n alive in omega arith) w,
)

pub loop-count-init : goal.loop-count-init
loop-count-init c =
    let a = c.args in
    let e : a.n - 0 ≡ a.n = omega arith in
    (rw e (partly-start _ _), rw e (zero-add _))

pub returns-in_default : goal.returns-in_default
returns-in_default c =
    let l = c.loop-count in
    let a = c.args in
    let r = a.rows.now in
    let e = order-stop r a.n (a.n - l.count) l.left c.in_default.ensures in
    let all = finished r a.n a.alive a.positions.now l.positions l.left l.count e (search rules) l.invariant.0 l.invariant.1 in record {
      value = all.0;
      positions_after = all.1;
    }

pub bounds-positions-count : goal.bounds-positions-count
bounds-positions-count c = omega (arith, c.loop-count.invariant.0.size)

pub loop-count-preserved : goal.loop-count-preserved
loop-count-preserved c =
    let l = c.loop-count in
    let a = c.args in
    let e =
    order-on a.rows.now a.n l.count l.left c.in-Some.p c.without-left.result (search rules)
    c.in-Some.ensures.1 c.in-Some.ensures.0 c.without-left.ensures in (
      partly-on a.positions.now (order_from a.rows.now a.n a.n a.alive) l.positions l.count _ _ _ e l.invariant.0,
      omega (arith, ap length e, l.invariant.1),
    )

pub returns : goal.returns
returns c =
    let l = c.loop-count in
    let a = c.args in
    let e = order-none a.rows.now a.n l.count l.left c.loop-count-test.false in
    let all = finished a.rows.now a.n a.alive a.positions.now l.positions l.left l.count e (search rules) l.invariant.0 l.invariant.1 in
    let last : a.n ≡ l.count = omega arith in
    record {
      value = last ∙ all.0;
      positions_after = all.1;
    }
