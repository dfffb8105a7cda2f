-- `streams::read_rest` meets its contract. Assumes nothing.
use Rattle.std.proofs.Common.{rules, arith}
use Rattle.std.proofs.lemmas.Grind.{common_steps}
use Rattle.streams.proofs.Reading.{Loses-then, Loses-trans, LosesTo-loses}
use Rattle.streams.proofs.read_rest.Goals as goal

pub loop-preserved : goal.loop-preserved
loop-preserved g c =
    record {
      read = grind (arith, common_steps);
      lost = Loses-then _ c.loop.invariant.lost c.in_ok-read_full.ensures.bytes;
    }

pub returns-in_err-read_full-clause-broken : goal.returns-in_err-read_full-clause-broken
returns-in_err-read_full-clause-broken g c = search (rules, Loses-trans c.loop.invariant.lost (LosesTo-loses c.in_err-read_full.ensures.broken))
