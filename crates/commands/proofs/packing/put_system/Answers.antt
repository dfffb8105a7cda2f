-- `commands::packing::put_system` meets its contract. Assumes nothing.
use Rattle.text.proofs.Writing.{reworded}
use Rattle.commands.proofs.Packed.{system-long, system-packed}
use Rattle.commands.proofs.packing.put_system.Goals as goal

pub returns-then-words-gt256 : goal.returns-then-words-gt256
returns-then-words-gt256 c =
    let a = c.args in
    reworded (system-long a.rho a.words.now c.if-words-gt256.true) c.refusal_line.ensures.wrote

pub returns : goal.returns
returns c =
    let a = c.args in
    reworded (system-packed a.rho a.words.now c.if-words-gt256.false) c.put_packed.ensures
