-- `streams::read_input` meets its contract. Assumes nothing.
use Rattle.streams.proofs.Reading.{Loses-read}
use Rattle.std.proofs.Common.{rules}
use Rattle.streams.proofs.read_input.Goals as goal

pub returns-in_err-read_rest-clause-broken : goal.returns-in_err-read_rest-clause-broken
returns-in_err-read_rest-clause-broken g c = search (rules, Loses-read _ c.in_ok-n.ensures.bytes c.in_err-read_rest.ensures.broken)
