-- `senders::write_accepted` meets its contract. Assumes nothing.
use mathlib.Core.Path.{ap, ◌∙◌}
use native.Mathlib.Omega.{arith}
use lib.ListN.{length}
use Rattle.table.specs.Scan.{reading}
use Rattle.table.proofs.Limits.{size-le}
use Rattle.listing.specs.Answer.{answered, number, place}
use Rattle.text.proofs.Adding.{nothing-before}
use Rattle.deliveries.proofs.Answers.{room-lacking, room-there}
use Rattle.senders.specs.Text.{text, written}
use Rattle.senders.proofs.write_accepted.Goals as goal

pub put_blocks-n-requires : goal.put_blocks-n-requires
put_blocks-n-requires c = size-le c.args.words.now c.requires

pub returns-then-out-n : goal.returns-then-out-n
unfolding answered number place written
returns-then-out-n c =
    let a = c.args in let f = c.put_blocks-n.ensures in
    let z = nothing-before c.put_blocks-n.new.out a.out.now f.same in
    let w = room-lacking (reading a.words.now) (text a.words.now a.est.now) a.out.now c.requires _ f.ends (omega (arith, c.if-out-n.true, ap length z)) in
    record {
      answer = w.0;
      text = z ∙ w.1;
    }

pub put_blocks-requires : goal.put_blocks-requires
put_blocks-requires c = size-le c.args.words.now c.requires

pub returns : goal.returns
unfolding answered written
returns c =
    let a = c.args in let f = c.put_blocks-n.ensures in
    let z = nothing-before c.put_blocks-n.new.out a.out.now f.same in
    let all = room-there (reading a.words.now) (text a.words.now a.est.now) a.out.now c.requires _ f.ends (omega (arith, c.if-out-n.false, ap length z)) _ _ _ z c.put_blocks.ensures in record {
      answer = all.0;
      text = all.1;
    }
