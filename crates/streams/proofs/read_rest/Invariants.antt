-- `streams::read_rest` meets its contract. The loop's invariant: each turn so far read a whole buffer, or the input has ended; the input
-- has lost first bytes only. Assumes nothing.
use Rattle.std.proofs.Common.{◌*◌, length}
use Rattle.streams.specs.Failures.{Loses}
use Rattle.streams.proofs.Reading.{ReadsOn}
use Rattle.streams.proofs.read_rest.Given as goal

abbrev pub invariant-loop : goal.invariant-loop
invariant-loop g l =
    record {
      read : ReadsOn (g.R.Read.remaining l.fn.input) (g.R.Read.remaining l.input) (l.counter * length l.buffer);
      lost : Loses (g.R.Read.remaining l.fn.input) (g.R.Read.remaining l.input);
    }
