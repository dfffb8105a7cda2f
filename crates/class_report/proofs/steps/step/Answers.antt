-- `class_report::steps::step` meets its contract. Assumes nothing.
use Prim.Native.Nat.{ℕ}
use mathlib.Core.Bool.{Bool}
use mathlib.Core.List.{List}
use Rattle.class_report.specs.declared.Task.{Task}
use mathlib.Core.Path.{◌≡◌, sym, ap, ◌∙◌}
use Rattle.class_report.specs.Steps.{task_for}
use Rattle.class_report.proofs.Stepped.{more-done, stepped, system-there}
use Rattle.class_report.proofs.steps.step.Goals as goal

-- the task that is done
asked : {t : Task} (ended : Bool) (piece : List ℕ) {p q : ℕ} → t ≡ task_for p ended piece → p ≡ q → t ≡ task_for q ended piece
asked ended piece e f = e ∙ ap (λ (p : ℕ). task_for p ended piece) f

pub system_step-requires : goal.system_step-requires
system_step-requires c =
    let a = c.args in
    let z = system-there _ a.ended a.piece.now _ (sym c.task_for.ensures ∙ c.in-System.is) in
    (z.few, z.fits)

pub returns-in-More : goal.returns-in-More
returns-in-More c =
    let a = c.args in
    let all = stepped a.tally a.piece.now a.ended _ _ _ _ _ (asked a.ended a.piece.now c.task_for.ensures c.position.ensures) c.in-More.is (more-done _ _ _) in record {
      says = all.0;
      text = all.1.0;
      fits = all.1.1.0;
      used = all.1.1.1.0;
      sound = all.1.1.1.1;
    }

pub returns-in-Totals : goal.returns-in-Totals
returns-in-Totals c =
    let a = c.args in
    let all = stepped a.tally a.piece.now a.ended _ _ _ _ _ (asked a.ended a.piece.now c.task_for.ensures c.position.ensures) c.in-Totals.is c.totals_step.ensures in record {
      says = all.0;
      text = all.1.0;
      fits = all.1.1.0;
      used = all.1.1.1.0;
      sound = all.1.1.1.1;
    }

pub returns-in-Refusal : goal.returns-in-Refusal
returns-in-Refusal c =
    let a = c.args in
    let all = stepped a.tally a.piece.now a.ended _ _ _ _ _ (asked a.ended a.piece.now c.task_for.ensures c.position.ensures) c.in-Refusal.is c.refusal_step.ensures in record {
      says = all.0;
      text = all.1.0;
      fits = all.1.1.0;
      used = all.1.1.1.0;
      sound = all.1.1.1.1;
    }

pub returns-in-System : goal.returns-in-System
returns-in-System c =
    let a = c.args in
    let all = stepped a.tally a.piece.now a.ended _ _ _ _ _ (asked a.ended a.piece.now c.task_for.ensures c.position.ensures) c.in-System.is c.system_step.ensures in record {
      says = all.0;
      text = all.1.0;
      fits = all.1.1.0;
      used = all.1.1.1.0;
      sound = all.1.1.1.1;
    }
