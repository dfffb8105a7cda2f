-- `graph::arrange` meets its contract.
use Prim.Native.Nat.{ℕ, ◌<◌}
use mathlib.Core.Path.{refl, sym, subst}
use native.Mathlib.Omega.{arith}
use borrow.Author.Rules.{rules}
use Rattle.graph.specs.Search.{loop_length}
use Rattle.graph.proofs.Answers.{short, a-below, ordered, start-inside, looped}
use Rattle.graph.proofs.arrange.Goals as goal

pub returns-then-positions-n : goal.returns-then-positions-n
returns-then-positions-n c =
    let a = c.args in
    let all = short a.rows.now a.live c.places-n.result _ _ a.positions.now c.places-n.ensures refl refl c.if-positions-n.true in record {
      value = all.0;
      positions_after = all.1.0;
      means = all.1.1;
    }

pub loop_length-requires : goal.loop_length-requires
loop_length-requires c =
    let a = c.args in
    let p = c.places-n in (
      search rules,
      search rules,
      a-below a.rows.now a.live p.result c.below-alive.result _ a.positions.now p.ensures c.below-alive.ensures refl,
    )

pub returns-in_default : goal.returns-in_default
returns-in_default c =
    let p = c.places-n in
    let a = c.args in
    let w = c.write_order-count in
    let none : p.result < loop_length a.rows.now c.below-alive.result p.result = let l = c.in_default.ensures in omega arith in
    let all = ordered a.rows.now a.live p.result c.below-alive.result _ a.positions.now p.ensures
    c.below-alive.ensures refl (search rules) c.if-positions-n.false w.result _
    none w.ensures.value w.ensures.positions_after in record {
      value = all.0;
      positions_after = all.1.0;
      means = all.1.1;
    }

pub loop_start-t-requires : goal.loop_start-t-requires
loop_start-t-requires c =
    let p = c.places-n in
    let a = c.args in (
      search rules,
      search rules,
      a-below a.rows.now a.live p.result c.below-alive.result _ a.positions.now p.ensures c.below-alive.ensures refl,
    )

pub write_loop-requires : goal.write_loop-requires
write_loop-requires c =
    let p = c.places-n in
    let a = c.args in
    let found = c.in-Some.ensures in (
      search rules,
      subst (λ (t : ℕ). t < p.result) (sym c.loop_start-t.ensures)
          (start-inside a.rows.now a.live p.result c.below-alive.result c.in-Some.m a.positions.now
          p.ensures c.below-alive.ensures found.1 (search rules) c.if-positions-n.false
          (omega arith)),
      search rules,
      a-below a.rows.now a.live p.result c.below-alive.result _ a.positions.now p.ensures c.below-alive.ensures refl,
      omega arith,
    )

pub returns : goal.returns
returns c =
    let p = c.places-n in
    let a = c.args in
    let s = c.loop_start-t in
    let found = c.in-Some.ensures in
    let all = looped a.rows.now a.live p.result c.below-alive.result c.in-Some.m a.positions.now p.ensures
    c.below-alive.ensures found.1 (search rules) c.if-positions-n.false
    (omega arith) s.result _ s.ensures c.write_loop.ensures in record {
      value = all.0;
      positions_after = all.1.0;
      means = all.1.1;
    }
