-- `reading_order::checked` meets its contract. Assumes nothing.
use Prim.Native.Nat.{ℕ, ◌≤◌}
use mathlib.Core.Path.{sym, ap, ◌∙◌}
use native.Mathlib.Omega.{arith}
use lib.ListN.{length, take}
use lib.Seq.{take_at, length-take-le}
use Rattle.reading_order.proofs.Elements.{blocks-few}
use Rattle.reading_order.proofs.Replies.{short-in}
use Rattle.reading_order.proofs.checked.Goals as goal

pub list_firsts-n-requires : goal.list_firsts-n-requires
list_firsts-n-requires c =
    (c.requires.fit.readable, omega (arith, blocks-few c.args.words.now c.requires.fit.readable))

pub returns-then-positions-n : goal.returns-then-positions-n
returns-then-positions-n c =
    let a = c.args in
    short-in a.words.now a.rho a.ceiling a.est.now a.work.now a.positions.now c.requires (omega (arith, c.if-positions-n.true, c.list_firsts-n.ensures.0))

pub slice_bounds-blocks-end : goal.slice_bounds-blocks-end
slice_bounds-blocks-end c =
    omega (arith, c.list_firsts-n.ensures.0, c.list_firsts-n.auto.firsts, blocks-few c.args.words.now c.requires.fit.readable)

pub slice_bounds-solved-end : goal.slice_bounds-solved-end
slice_bounds-solved-end c =
    let fits : c.list_firsts-n.result ≤ length c.list_firsts-n.new.firsts =
    omega (arith, c.list_firsts-n.ensures.0, c.list_firsts-n.auto.firsts, blocks-few c.args.words.now c.requires.fit.readable) in
    sym (length-take-le _ _ fits)

pub solved-requires : goal.solved-requires
solved-requires c =
    let fits : c.list_firsts-n.result ≤ length c.list_firsts-n.new.firsts =
    omega (arith, c.list_firsts-n.ensures.0, c.list_firsts-n.auto.firsts, blocks-few c.args.words.now c.requires.fit.readable) in
    let n = c.list_firsts-n.ensures.0 in record {
      fits = c.requires;
      blocks_value = (
        ap (take {A = ℕ} c.list_firsts-n.result) c.list_firsts-n.ensures.1 ∙ take_at _ _ c.list_firsts-n.result (sym n),
        omega (arith, length-take-le c.list_firsts-n.result c.list_firsts-n.new.firsts fits, c.if-positions-n.false),
      );
    }
