-- `commands::packed_for` meets its contract. Assumes nothing.
use mathlib.Core.Path.{sym, ap}
use Rattle.text.proofs.Writing.{reworded}
use Rattle.std.specs.Prelude.{ℕ, Option}
use Rattle.commands.specs.Printed.{packed_for}
use Rattle.commands.proofs.packed_for.Goals as goal

pub returns-in-Some : goal.returns-in-Some
unfolding packed_for
returns-in-Some c =
    let a = c.args in
    reworded (sym (ap (λ (v : Option ℕ). packed_for v a.input.now) c.in-Some.is)) c.pack_text.ensures

pub returns-in-None : goal.returns-in-None
unfolding packed_for
returns-in-None c =
    let a = c.args in
    reworded (sym (ap (λ (v : Option ℕ). packed_for v a.input.now) c.in-None.is)) c.help.ensures
