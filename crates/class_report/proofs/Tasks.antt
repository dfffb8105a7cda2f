-- What a piece calls for, by the tests on it.
use Prim.Native.Nat.{ℕ, ◌≤◌, ◌<◌}
use mathlib.Core.Path.{◌≡◌}
use mathlib.Core.Bool.{Bool}
use mathlib.Core.List.{List}
use lib.ListN.{length}
use borrow.Author.Tests.{lt-ltb, le-ltb, eq-eqb, ne_eqb}
use Rattle.class_report.specs.declared.Fault.TheVariants.{TooMany}
use Rattle.class_report.specs.declared.Task.TheVariants as tasks
use Rattle.class_report.specs.Stream.{most_systems, front}
use Rattle.class_report.specs.Steps.{at_end, front_task, full_task, task_for}

module _ (ended : Bool) (s : List ℕ) where
  pub full-nothing : length s ≡ 0 → full_task ended s ≡ at_end ended tasks.Totals
  unfolding full_task
  full-nothing h = rw (eq-eqb (length s) 0 h, full_task)

  pub full-more : (length s ≡ 0 → ⊥) → full_task ended s ≡ tasks.Refusal TooMany
  unfolding full_task
  full-more h = rw (ne_eqb (length s) 0 h, full_task)

  module _ (p : ℕ) where
    pub task-front : p < most_systems → task_for p ended s ≡ front_task ended (front s)
    unfolding task_for
    task-front h = rw (lt-ltb p most_systems h, task_for)

    pub task-full : most_systems ≤ p → task_for p ended s ≡ full_task ended s
    unfolding task_for
    task-full h = rw (le-ltb p most_systems h, task_for)
