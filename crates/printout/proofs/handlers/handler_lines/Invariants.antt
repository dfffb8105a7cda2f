-- `printout::handlers::handler_lines` meets its contract. Assumes nothing.
use Rattle.printout.specs.Handlers.{Listed}
use Rattle.printout.proofs.handlers.handler_lines.Given as goal

abbrev pub invariant-loop-p : goal.invariant-loop-p
invariant-loop-p l = Listed l.words l.rho l.est l.initial.out l.start l.p l.out l.c.at l.c.position
