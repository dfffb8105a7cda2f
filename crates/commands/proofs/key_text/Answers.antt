-- `commands::key_text` meets its contract. Assumes nothing.
use mathlib.Core.Path.{sym, ap, ap₂}
use Rattle.text.proofs.Writing.{reworded}
use Rattle.std.specs.Prelude.{ℕ, Option}
use Rattle.commands.specs.Printed.{key_text}
use Rattle.commands.proofs.key_text.Goals as goal

pub returns-in-Some-perms : goal.returns-in-Some-perms
unfolding key_text
returns-in-Some-perms c =
    reworded (ap₂ (λ (x y : Option ℕ). key_text x y c.args.input.now) (sym c.in-Some.is) (sym c.in-Some-perms.is)) c.found_text.ensures

pub returns-in-None-perms : goal.returns-in-None-perms
unfolding key_text
returns-in-None-perms c =
    reworded (ap₂ (λ (x y : Option ℕ). key_text x y c.args.input.now) (sym c.in-Some.is) (sym c.in-None-perms.is)) c.help.ensures

pub returns-in-None : goal.returns-in-None
unfolding key_text
returns-in-None c =
    reworded (ap (λ (x : Option ℕ). key_text x c.args.perms c.args.input.now) (sym c.in-None.is)) c.help-in-None.ensures
