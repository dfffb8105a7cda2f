-- `checker::view::View::to_block` meets its contract. Assumes nothing.
use mathlib.Core.Bool.{not}
use mathlib.Core.Path.{ap}
use Prim.Native.Nat.{ℕ, ◌+◌}
use mathlib.Core.Path.{sym, ap₂, ◌∙◌}
use Rattle.table.specs.Code.{code}
use Rattle.table.proofs.Linked.{linked}
use Rattle.calculus.specs.Constraint.{C}
use Rattle.calculus.specs.Layout.{sets}
use Rattle.clauses.specs.Asks.{sort_at}
use Rattle.clauses.proofs.Sorts.{row-C, row-B}
use Rattle.checker.specs.Sends.{to_block, to_sender}
use Rattle.checker.proofs.Laws.{both, put_is, due}
use Rattle.checker.proofs.Lowered.{lowered_none, lowered-then}
use Rattle.checker.proofs.Blocks.{name_in, unasked, on-started}
use Rattle.checker.proofs.view.View.to_block.Goals as goal

pub starts-requires : goal.starts-requires
starts-requires c = let h = c.requires.0 in (c.requires.1, c.args.self.now.sized, h.target, name_in h _ c.requires.1 c.requires.2)

pub returns-then-not-starts : goal.returns-then-not-starts
returns-then-not-starts c = lowered_none (λ q h. unasked c.requires.0 c.args.b c.requires.1 c.requires.2 (c.starts.ensures _ c.requires.0.laid) (ap not c.if-not-starts.true) q)

pub returns : goal.returns
unfolding sort_at
returns c =
    let a = c.args in let k = code a.self.now.words.now in let e = sets k a.self.now.estimate.now in let h = c.requires.0 in let o = h.laid in
    let x = c.starts.ensures k o in
    lowered-then
    (c.lowered-sent.ensures e (to_block k a.s.p a.s.d a.s.required.bits a.b) (due (on-started h a.b c.requires.1 c.requires.2 x) (ap not c.if-not-starts.false)
    (both (put_is (c.is_live.ensures k o))
    (both (rw (row-C a.s.d, row-B a.b) at (c.passed_by.ensures k (linked a.self.now.words.now h.readable) o h.well h.masked)) (c.lifted.ensures k o h.well)))))
    (c.lowered.ensures e (to_sender k a.s.p a.s.required.bits a.b) (due (on-started h a.b c.requires.1 c.requires.2 x) (ap not c.if-not-starts.false)
    (put_is (c.in_value.ensures k o ∙ ap₂ (λ (y z : ℕ). e (C a.b) (y + z)) (sym o.lead) h.home))))
