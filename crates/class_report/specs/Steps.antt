-- One step of the report on a stream that comes in pieces: what is written for the bytes at its front, and what a caller prints who steps through it.
use Rattle.std.specs.Prelude.{ℕ, zero, suc, ◌+◌, ◌≤◌, ◌≡◌, Bool, true, false, List, [], ◌∷◌, ◌++◌, eqb, ltb, drop, Result, Option, Ok, Err, Some, None}
use Rattle.std.proofs.Math.ListN.{length}
use Rattle.table.specs.Code.{code}
use Rattle.calculus.specs.Estimate.{estimate}
use Rattle.calculus.specs.Guarantee.{Covers}
use Rattle.calculus.specs.Correct.{Least}
use Rattle.little_endian.specs.LittleEndian.{words_of}
use Rattle.fingerprint.specs.Fnv.{fnv1a}
use Rattle.report.specs.Lines.{refusal_line}
use Rattle.class_report.specs.Outcome.{Outcome}
use Rattle.class_report.specs.declared.Fault.{Fault}
use Rattle.class_report.specs.declared.Fault.TheVariants.{TooMany, TooLong, CutShort}
use Rattle.class_report.specs.declared.Tally.{Tally}
use Rattle.class_report.specs.declared.Task.{Task}
use Rattle.class_report.specs.declared.Task.TheVariants as tasks
use Rattle.class_report.specs.declared.Status.TheVariants as statuses
use Rattle.class_report.specs.declared.Step.{Step}
use Rattle.class_report.specs.Stream.{System, most_systems, number, span, front, system_at}
use Rattle.class_report.specs.Report.{outcome, line, totals}
use Rattle.class_report.specs.Tally.{fresh, position, tallied}
use Rattle.class_report.specs.Writing.{count_in}

-- ---- what a piece calls for: the bytes at the front of a stream, all that are left of it where it has ended

-- what is known only where the stream has ended
unfoldable pub at_end : Bool → Task → Task
at_end true t = t
at_end false t = tasks.More

unfoldable pub broken_task : (ended : Bool) → Fault → Task
unfolding at_end
broken_task ended TooMany = tasks.Refusal TooMany
broken_task ended TooLong = tasks.Refusal TooLong
broken_task ended CutShort = at_end ended (tasks.Refusal CutShort)

unfoldable pub front_task : (ended : Bool) → Result (Option ℕ) Fault → Task
unfolding at_end broken_task
front_task ended (Ok None) = at_end ended tasks.Totals
front_task ended (Err f) = broken_task ended f
front_task ended (Ok (Some size)) = tasks.System size

-- after the last system that a stream may have
unfoldable pub full_task : (ended : Bool) → List ℕ → Task
unfolding at_end
full_task ended piece = elim (eqb (length piece) 0) [ true ↦ at_end ended tasks.Totals | false ↦ tasks.Refusal TooMany ]

unfoldable pub task_for : (position : ℕ) (ended : Bool) → List ℕ → Task
unfolding front_task front full_task
task_for p ended piece = elim (ltb p most_systems) [ true ↦ front_task ended (front piece) | false ↦ full_task ended piece ]

-- ---- a step

module _ (t : Tally) (piece : List ℕ) where
  unfoldable pub text_for : Task → List ℕ
  text_for tasks.More = []
  text_for tasks.Totals = totals t.accepted t.refused (count_in t.leaks)
  text_for (tasks.Refusal f) = refusal_line (number f) (position t)
  text_for (tasks.System size) = line (position t) (fnv1a (system_at piece size).bytes) (outcome (system_at piece size))

  unfoldable pub step_for : Task → Step
  unfolding text_for
  step_for tasks.More = record { status = statuses.More; tally = t; used = 0; size = 0 }
  step_for tasks.Totals = record { status = statuses.Done; tally = t; used = 0; size = length (text_for tasks.Totals) }
  step_for (tasks.Refusal f) = record { status = statuses.Done; tally = t; used = 0; size = length (text_for (tasks.Refusal f)) }
  step_for (tasks.System size) =
      record {
        status = statuses.Line;
        tally = tallied t (outcome (system_at piece size));
        used = span size;
        size = length (text_for (tasks.System size));
      }

  unfoldable pub text : (ended : Bool) → List ℕ
  unfolding task_for text_for
  text ended = text_for (task_for (position t) ended piece)

  unfoldable pub step : (ended : Bool) → Step
  unfolding task_for step_for
  step ended = step_for (task_for (position t) ended piece)

-- room for the text of every step: 25 lines of at most 96 bytes
abbrev pub room : ℕ
room = 2400

-- the bytes of the output after a text was written to its start
abbrev pub out_after : (text before : List ℕ) → List ℕ
out_after text before = text ++ drop (length text) before

-- what was asked for is done: what the step says, and the bytes of the output from those before
pub record Done (t : Tally) (piece : List ℕ) (k : Task) (before : List ℕ) (r : Step) (after : List ℕ) : Type 0 where
  pub says : r ≡ step_for t piece k
  pub bytes : after ≡ out_after (text_for t piece k) before
  pub fits : r.size ≤ room

-- ---- what a leak means

-- demands 2 and 3 of an outcome: the leak is that of the least estimate, and covers every run
unfoldable pub Sound : System → Outcome → Type 0
Sound s (Err r) = Unit {0}
Sound s (Ok l) =
    Least (code (words_of s.bytes)) s.rho (estimate (code (words_of s.bytes)) s.rho) l.bits
    × Covers (code (words_of s.bytes)) s.rho l.bits

-- of the system at the front of a piece
abbrev pub SoundFor : List ℕ → Type 0
SoundFor piece = (size : ℕ) → front piece ≡ Ok (Some size) → Sound (system_at piece size) (outcome (system_at piece size))

-- ---- a caller

-- the stream has ended where no piece is to come
abbrev pub last : List (List ℕ) → Bool
last [] = true
last (p ∷ ps) = false

-- what is printed in so many steps by a caller that holds these bytes while these pieces are to come: the next piece is put behind them where a
-- step asks for more
unfoldable pub run : (steps : ℕ) → Tally → (held : List ℕ) → (pieces : List (List ℕ)) → List ℕ
unfolding step text
run zero t held pieces = []
run (suc n) t held pieces =
    elim (step t held (last pieces)).status [
      | statuses.More ↦ elim pieces [ [] ↦ [] | p ∷ ps ↦ run n t (held ++ p) ps ]
      | statuses.Line ↦ text t held (last pieces)
          ++ run n (step t held (last pieces)).tally (drop (step t held (last pieces)).used held) pieces
      | statuses.Done ↦ text t held (last pieces)
    ]

-- a step for each system, one for each piece, and one for the end
unfoldable pub printed : (pieces : List (List ℕ)) → List ℕ
unfolding run
printed pieces = run (suc (most_systems + length pieces)) fresh [] pieces

-- the stream that comes in these pieces
unfoldable pub joined : List (List ℕ) → List ℕ
joined [] = []
joined (p ∷ ps) = p ++ joined ps
