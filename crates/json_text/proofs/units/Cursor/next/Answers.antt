-- `json_text::units::Cursor::next` meets its contract.
-- Assumes nothing.
use mathlib.Core.Path.{sym, ap, ◌∙◌}
use mathlib.Core.List.{◌∷◌}
use Prim.Native.Nat.{ℕ}
use Rattle.std.specs.Prelude.{Option, Some}
use lib.ListN.{drop}
use Rattle.json_text.specs.declared.Character.{Character}
use Rattle.json_text.specs.declared.units.Cursor.{Cursor}
use Rattle.json_text.specs.Strings.{character}
use Rattle.json_text.specs.Answers.{read}
use Rattle.json_text.specs.Units.{held, left}
use Rattle.json_text.proofs.Repetition.{units-fails, units-goes, units-ends}
use Rattle.json_text.proofs.Shorter.{character-narrow}
use Rattle.json_text.proofs.units.Cursor.next.Goals as goal

pub returns-in_err-unit : goal.returns-in_err-unit
returns-in_err-unit c =
    let a = c.args in
    rw c.from_residual.ensures (ap (λ (o : Option ℕ). held o (drop a.self.at a.text.now)) c.in_default.is ∙ units-fails character character-narrow (drop a.self.at a.text.now) (sym c.in_err-unit.ensures))

pub returns-in-One : goal.returns-in-One
returns-in-One c =
    let a = c.args in
    ap (λ (o : Option ℕ). held o (drop a.self.at a.text.now)) c.in_default.is
    ∙ units-goes character character-narrow (drop a.self.at a.text.now) _ _ (sym c.in_ok-unit.ensures ∙ ap (λ (x : Character). read a.text.now (Some x)) c.in-One.is)
    ∙ ap (λ (p : Cursor). c.in-One.unit ∷ left a.text.now p) (sym c.new-in-One.ensures)

pub returns-in-Two : goal.returns-in-Two
returns-in-Two c =
    let a = c.args in
    ap (λ (o : Option ℕ). held o (drop a.self.at a.text.now)) c.in_default.is
    ∙ units-goes character character-narrow (drop a.self.at a.text.now) _ _ (sym c.in_ok-unit.ensures ∙ ap (λ (x : Character). read a.text.now (Some x)) c.in-Two.is)

pub returns-in-Ends : goal.returns-in-Ends
returns-in-Ends c =
    let a = c.args in
    ap (λ (o : Option ℕ). held o (drop a.self.at a.text.now)) c.in_default.is
    ∙ units-ends character character-narrow (drop a.self.at a.text.now) _ (sym c.in_ok-unit.ensures ∙ ap (λ (x : Character). read a.text.now (Some x)) c.in-Ends.is)
