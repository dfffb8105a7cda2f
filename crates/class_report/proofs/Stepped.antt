-- A step does what the piece calls for.
use Prim.Native.Nat.{ℕ, ◌-◌, ◌*◌, ◌≤◌}
use mathlib.Core.Path.{◌≡◌, refl, sym, ap, ap₂, subst, ◌∙◌}
use mathlib.Core.Bool.{Bool, true, false}
use mathlib.Core.List.{List, ◌++◌}
use native.Mathlib.Omega.{arith}
use lib.Dec.{eqb, ltb}
use lib.ListN.{length, take, drop}
use borrow.Author.Tests.{ltb-true, ltb-false}
use Rattle.fingerprint.specs.Fnv.{fnv1a}
use Rattle.text.specs.Writing.{Wrote}
use Rattle.report.specs.Lines.{refusal_line}
use Rattle.class_report.specs.Outcome.{Outcome}
use Rattle.class_report.specs.declared.Fault.{Fault}
use Rattle.class_report.specs.declared.Fault.TheVariants.{TooMany, TooLong, CutShort}
use Rattle.class_report.specs.declared.Tally.{Tally}
use Rattle.class_report.specs.declared.Task.{Task}
use Rattle.class_report.specs.declared.Task.TheVariants as tasks
use Rattle.class_report.specs.declared.Status.TheVariants as statuses
use Rattle.class_report.specs.declared.Step.{Step}
use Rattle.class_report.specs.Stream.{System, most_systems, number, word_at, span, front, system_at}
use Rattle.class_report.specs.Report.{outcome, line, totals}
use Rattle.class_report.specs.Tally.{position, tallied}
use Rattle.class_report.specs.Writing.{count_in}
use Rattle.class_report.specs.Steps.{at_end, broken_task, front_task, full_task, task_for, text_for, step_for, text, step, room, Done, SoundFor}
use Rattle.class_report.proofs.Judged.{outcome-sound}
use Rattle.class_report.proofs.Prefixes.{Sized, by_tests}
use Rattle.class_report.proofs.Tasks.{task-front, task-full}

module _ (t : Tally) (piece before after : List ℕ) (n : ℕ) (fits : n ≤ room) where
  -- a step that writes the text of its task
  done-by : (k : Task) (f : ℕ → Step) → step_for t piece k ≡ f (length (text_for t piece k)) → (f n).size ≡ n → Wrote before 0 (text_for t piece k) after n
      → Done t piece k before (f n) after
  done-by k f e z w =
      let m : n ≡ length (text_for t piece k) = omega (arith, w.ends) in
      record {
        says = ap f m ∙ sym e;
        bytes = w.bytes ∙ ap (λ (i : ℕ). text_for t piece k ++ drop i before) m;
        fits = omega arith;
      }

  pub totals-done : Wrote before 0 (totals t.accepted t.refused (count_in t.leaks)) after n
      → Done t piece tasks.Totals before (record { status = statuses.Done; tally = t; used = 0; size = n }) after
  unfolding text_for step_for
  totals-done w = done-by tasks.Totals (λ m. record { status = statuses.Done; tally = t; used = 0; size = m }) refl refl w

  pub refusal-done : (f : Fault) (m p : ℕ) → m ≡ number f → p ≡ position t → Wrote before 0 (refusal_line m p) after n
      → Done t piece (tasks.Refusal f) before (record { status = statuses.Done; tally = t; used = 0; size = n }) after
  unfolding text_for step_for
  refusal-done f m p e q w =
      done-by (tasks.Refusal f) (λ i. record { status = statuses.Done; tally = t; used = 0; size = i }) refl refl
      (subst (λ (l : List ℕ). Wrote before 0 l after n) (ap₂ refusal_line e q) w)

  -- the system that the code takes out of the piece
  system-is : (words r : ℕ) → r ≡ word_at 4 piece → record { rho = r; bytes = take (span words - 8) (drop 8 piece) } ≡ system_at piece words
  unfolding system_at
  system-is words r e =
      let m : span words - 8 ≡ 4 * words = omega arith in
      ap₂ (λ (x i : ℕ). record { rho = x; bytes = take i (drop 8 piece) }) e m

  pub system-done : (words p h r : ℕ) (o : Outcome) (u : Tally) → p ≡ position t → h ≡ fnv1a (take (span words - 8) (drop 8 piece)) → r ≡ word_at 4 piece
      → o ≡ outcome (record { rho = r; bytes = take (span words - 8) (drop 8 piece) }) → u ≡ tallied t o → Wrote before 0 (line p h o) after n
      → Done t piece (tasks.System words) before (record { status = statuses.Line; tally = u; used = span words; size = n }) after
  unfolding text_for step_for
  system-done words p h r o u a b c d e w =
      let s : System = system_at piece words in
      let i : record { rho = r; bytes = take (span words - 8) (drop 8 piece) } ≡ s = system-is words r c in
      let q : o ≡ outcome s = d ∙ ap outcome i in
      let b' : h ≡ fnv1a s.bytes = b ∙ ap (λ (x : System). fnv1a x.bytes) i in
      let v : u ≡ tallied t (outcome s) = e ∙ ap (tallied t) q in
      subst (λ (x : Tally). Done t piece (tasks.System words) before (record { status = statuses.Line; tally = x; used = span words; size = n }) after) (sym v)
      (done-by (tasks.System words) (λ m. record { status = statuses.Line; tally = tallied t (outcome s); used = span words; size = m }) refl refl
      (subst (λ (l : List ℕ). Wrote before 0 l after n) (ap₂ (λ (x y : ℕ). line x y o) a b' ∙ ap (line (position t) (fnv1a s.bytes)) q) w))

pub more-done : (t : Tally) (piece before : List ℕ) → Done t piece tasks.More before (record { status = statuses.More; tally = t; used = 0; size = 0 }) before
unfolding text_for step_for
more-done t piece before = record { says = refl; bytes = refl; fits = omega arith }

-- ---- a system that a piece calls for is there whole

known : Task → ℕ
known tasks.More = 0
known tasks.Totals = 0
known (tasks.Refusal f) = 0
known (tasks.System n) = 1

no-system : (k : Task) (n : ℕ) → known k ≡ 0 → k ≡ tasks.System n → ⊥
unfolding known
no-system k n h e = let z : 0 ≡ known (tasks.System n) = sym h ∙ ap known e in omega arith

at-end-known : (b : Bool) (k : Task) → known k ≡ 0 → known (at_end b k) ≡ 0
unfolding at_end known
at-end-known true k h = h
at-end-known false k h = refl

pub system-there : (p : ℕ) (ended : Bool) (s : List ℕ) (n : ℕ) → task_for p ended s ≡ tasks.System n → Sized s n
unfolding front_task full_task broken_task known
system-there p ended s n e = here (ltb p most_systems) refl
  where
    there : front_task ended (front s) ≡ tasks.System n → Sized s n
    there =
        by_tests s (λ f. front_task ended f ≡ tasks.System n → Sized s n)
        (λ z q. absurd (no-system _ n (at-end-known ended tasks.Totals refl) q))
        (λ z q. absurd (no-system _ n (at-end-known ended (tasks.Refusal CutShort) refl) q))
        (λ z q. absurd (no-system (tasks.Refusal TooLong) n refl q))
        (λ z q. absurd (no-system _ n (at-end-known ended (tasks.Refusal CutShort) refl) q))
        (λ m z q. let i : m ≡ n = cc in subst (Sized s) i z)

    beyond : (b : Bool) → (elim b as (λ c. Task) [ true ↦ at_end ended tasks.Totals | false ↦ tasks.Refusal TooMany ]) ≡ tasks.System n → Sized s n
    beyond true q = absurd (no-system _ n (at-end-known ended tasks.Totals refl) q)
    beyond false q = absurd (no-system (tasks.Refusal TooMany) n refl q)

    here : (b : Bool) → ltb p most_systems ≡ b → Sized s n
    here true h = there (sym (task-front ended s p (ltb-true p most_systems h)) ∙ e)
    here false h = beyond (eqb (length s) 0) (sym (task-full ended s p (ltb-false p most_systems h)) ∙ e)

used-fits : (t : Tally) (piece : List ℕ) (ended : Bool) (k : Task) → task_for (position t) ended piece ≡ k → (step_for t piece k).used ≤ length piece
unfolding step_for
used-fits t piece ended tasks.More e = omega arith
used-fits t piece ended tasks.Totals e = omega arith
used-fits t piece ended (tasks.Refusal f) e = omega arith
used-fits t piece ended (tasks.System n) e = (system-there (position t) ended piece n e).fits

-- ---- what a step promises

pub stepped : (t : Tally) (piece : List ℕ) (ended : Bool) (k j : Task) (before after : List ℕ) (r : Step) → k ≡ task_for (position t) ended piece → k ≡ j
    → Done t piece j before r after
    → (r ≡ step t piece ended) × ((after ≡ text t piece ended ++ drop (length (text t piece ended)) before) × ((r.size ≤ room) × ((r.used ≤ length piece) × SoundFor piece)))
unfolding step text
stepped t piece ended k j before after r e f d =
    let q : j ≡ task_for (position t) ended piece = sym f ∙ e in (
      d.says ∙ ap (step_for t piece) q,
      (
        d.bytes ∙ ap (λ (x : Task). text_for t piece x ++ drop (length (text_for t piece x)) before) q,
        (d.fits, (subst (λ (x : Step). x.used ≤ length piece) (sym d.says) (used-fits t piece ended j (sym q)), λ size w. outcome-sound (system_at piece size))),
      ),
    )
