-- `commands::checking::refused_text` meets its contract. Assumes nothing.
use Prim.Native.Nat.{ℕ}
use mathlib.Core.Path.{ap}
use Rattle.text.proofs.Writing.{reworded, then}
use Rattle.commands.specs.Checked.{wrong_line, checked_text}
use Rattle.commands.proofs.checking.refused_text.Goals as goal

pub returns : goal.returns
unfolding checked_text
returns c =
    let r = c.refusal_line-a.ensures.wrote in
    let l = c.line_of.ensures.0 in
    let w = c.wrong_line-b.ensures.wrote in
    then (then r (reworded (ap (λ (n : ℕ). wrong_line n c.args.text.now) l) w)) c.sentence.ensures
