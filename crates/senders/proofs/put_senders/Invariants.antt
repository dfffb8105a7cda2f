-- `senders::put_senders` meets its contract. Assumes nothing.
use Rattle.deliveries.proofs.Positions.{Filled}
use Rattle.senders.specs.Text.{sender}
use Rattle.senders.proofs.put_senders.Given as goal

abbrev pub invariant-loop-s : goal.invariant-loop-s
invariant-loop-s l = Filled (sender l.words l.est l.b) l.words 64 l.initial.out l.at l.s l.position l.out l.next
