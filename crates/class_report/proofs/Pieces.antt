-- However a stream is cut into pieces, a caller who steps through it prints the report.
use Rattle.std.specs.Prelude.{Ok, Err, Some, None}
use Prim.Native.Nat.{ℕ, zero, suc, ◌+◌, ◌-◌, ◌≤◌, ◌<◌}
use mathlib.Core.Path.{◌≡◌, refl, sym, ap, ap₂, ◌∙◌}
use mathlib.Core.Bool.{Bool, true, false}
use mathlib.Core.List.{List, [], ◌∷◌, ◌++◌, map, append-nil, append_assoc}
use native.Mathlib.Nat.{zero-add, add-zero}
use native.Mathlib.Omega.{arith}
use lib.Dec.{eqb, ltb}
use lib.ListN.{length, drop, length-append}
use lib.Seq.{append_snoc}
use borrow.Author.Tests.{eq-eqb, ne_eqb, ltb-true, ltb-false, eqb-true, eqb-false}
use Rattle.fingerprint.specs.Fnv.{fnv1a}
use Rattle.report.specs.Lines.{refusal_line}
use Rattle.class_report.specs.Outcome.{Outcome}
use Rattle.class_report.specs.declared.Fault.{Fault}
use Rattle.class_report.specs.declared.Fault.TheVariants.{TooMany, TooLong, CutShort}
use Rattle.class_report.specs.declared.Tally.{Tally}
use Rattle.class_report.specs.declared.Task.{Task}
use Rattle.class_report.specs.declared.Task.TheVariants as tasks
use Rattle.class_report.specs.declared.Status.TheVariants as statuses
use Rattle.class_report.specs.Stream.{System, Ending, whole, broken, Cut, further, most_systems, number, span, front, system_at, after, full, cut}
use Rattle.class_report.specs.Report.{outcome, line, lines, totals_of, conclusion, report}
use Rattle.class_report.specs.Tally.{fresh, position, tallied}
use Rattle.class_report.specs.Steps.{at_end, broken_task, front_task, full_task, task_for, text_for, step_for, text, step, last, run, printed, joined}
use Rattle.class_report.proofs.Prefixes.{Sized, by_tests, whole-kept, long_kept, system-kept, after_kept}
use Rattle.class_report.proofs.Tallies.{Counts, counts-fresh, counts-position, counts-more, counts-totals}
use Rattle.class_report.proofs.Tasks.{full-nothing, full-more, task-front, task-full}

-- ---- the report from a system on

-- what follows the lines of the systems ss, after those with the outcomes os
finish : List Outcome → List System → Ending → List ℕ
finish os ss whole = totals_of (os ++ map outcome ss)
finish os ss (broken f) = refusal_line (number f) (length os + length ss)

cut_rest : List Outcome → Cut → List ℕ
cut_rest os c = lines (length os) c.systems ++ finish os c.systems c.ending

-- the rest of the report, after systems with the outcomes os
rest : List Outcome → List ℕ → List ℕ
rest os stream = cut_rest os (cut (most_systems - length os) stream)

from_start : (ss : List System) (e : Ending) → finish [] ss e ≡ conclusion ss e
unfolding finish conclusion
from_start ss whole = refl
from_start ss (broken f) = ap (refusal_line (number f)) (zero-add (length ss))

rest-report : (stream : List ℕ) → rest [] stream ≡ report stream
unfolding rest cut_rest report
rest-report stream =
    ap (λ (l : List ℕ). lines 0 (cut most_systems stream).systems ++ l)
    (from_start (cut most_systems stream).systems (cut most_systems stream).ending)

-- one system is done
finish-more : (os : List Outcome) (s : System) (ss : List System) (e : Ending) → finish os (s ∷ ss) e ≡ finish (os ++ outcome s ∷ []) ss e
unfolding finish
finish-more os s ss whole = ap totals_of (sym (append_snoc os (outcome s) (map outcome ss)))
finish-more os s ss (broken f) = ap (refusal_line (number f)) (omega (arith, length-append os (outcome s ∷ [])))

-- the line of a system
line_of : ℕ → System → List ℕ
line_of p s = line p (fnv1a s.bytes) (outcome s)

module _ (left : ℕ) (stream : List ℕ) where
  cut-nothing : front stream ≡ Ok None → cut (suc left) stream ≡ record { systems = []; ending = whole }
  unfolding cut
  cut-nothing e = rw (e, cut)

  cut-broken : (f : Fault) → front stream ≡ Err f → cut (suc left) stream ≡ record { systems = []; ending = broken f }
  unfolding cut
  cut-broken f e = rw (e, cut)

  cut-whole : (n : ℕ) → front stream ≡ Ok (Some n) → cut (suc left) stream ≡ further (system_at stream n) (cut left (after stream n))
  unfolding cut
  cut-whole n e = rw (e, cut)

-- no system follows
ends-whole : (os : List Outcome) → cut_rest os (record { systems = []; ending = whole }) ≡ totals_of os
unfolding cut_rest finish lines
ends-whole os = ap totals_of (append-nil os)

ends-broken : (os : List Outcome) (f : Fault) → cut_rest os (record { systems = []; ending = broken f }) ≡ refusal_line (number f) (length os)
unfolding cut_rest finish lines
ends-broken os f = ap (refusal_line (number f)) (add-zero (length os))

module _ (os : List Outcome) (stream : List ℕ) where
  module _ (few : length os < most_systems) where
    left : most_systems - length os ≡ suc (most_systems - suc (length os))
    left = omega arith

    rest-nothing : front stream ≡ Ok None → rest os stream ≡ totals_of os
    unfolding rest
    rest-nothing e = ap (λ (k : ℕ). cut_rest os (cut k stream)) left ∙ ap (cut_rest os) (cut-nothing (most_systems - suc (length os)) stream e) ∙ ends-whole os

    rest-broken : (f : Fault) → front stream ≡ Err f → rest os stream ≡ refusal_line (number f) (length os)
    unfolding rest
    rest-broken f e =
        ap (λ (k : ℕ). cut_rest os (cut k stream)) left ∙ ap (cut_rest os) (cut-broken (most_systems - suc (length os)) stream f e) ∙ ends-broken os f

    rest-whole : (n : ℕ) → front stream ≡ Ok (Some n)
        → rest os stream ≡ line_of (length os) (system_at stream n) ++ rest (os ++ outcome (system_at stream n) ∷ []) (after stream n)
    unfolding rest cut_rest lines line_of
    rest-whole n e =
        let s : System = system_at stream n in
        let c : Cut = cut (most_systems - suc (length os)) (after stream n) in
        let m : length (os ++ outcome s ∷ []) ≡ suc (length os) = omega (arith, length-append os (outcome s ∷ [])) in
        ap (λ (k : ℕ). cut_rest os (cut k stream)) left
        ∙ ap (cut_rest os) (cut-whole (most_systems - suc (length os)) stream n e)
        ∙ append_assoc (line_of (length os) s) (lines (suc (length os)) c.systems) (finish os (s ∷ c.systems) c.ending)
        ∙ ap (λ (l : List ℕ). line_of (length os) s ++ (lines (suc (length os)) c.systems ++ l)) (finish-more os s c.systems c.ending)
        ∙ ap (λ (k : ℕ). line_of (length os) s ++ (lines k c.systems ++ finish (os ++ outcome s ∷ []) c.systems c.ending)) (sym m)
        ∙ ap (λ (k : ℕ). line_of (length os) s ++ cut_rest (os ++ outcome s ∷ []) (cut (most_systems - k) (after stream n))) (sym m)

  module _ (many : most_systems ≤ length os) where
    none : most_systems - length os ≡ 0
    none = omega arith

    rest-empty : length stream ≡ 0 → rest os stream ≡ totals_of os
    unfolding rest cut full
    rest-empty h =
        ap (λ (k : ℕ). cut_rest os (cut k stream)) none
        ∙ ap (λ (b : Bool). cut_rest os (record { systems = []; ending = elim b [ true ↦ whole | false ↦ broken TooMany ] })) (eq-eqb (length stream) 0 h)
        ∙ ends-whole os

    rest-beyond : (length stream ≡ 0 → ⊥) → rest os stream ≡ refusal_line (number TooMany) (length os)
    unfolding rest cut full
    rest-beyond h =
        ap (λ (k : ℕ). cut_rest os (cut k stream)) none
        ∙ ap (λ (b : Bool). cut_rest os (record { systems = []; ending = elim b [ true ↦ whole | false ↦ broken TooMany ] })) (ne_eqb (length stream) 0 h)
        ∙ ends-broken os TooMany

-- ---- one step of the caller

-- what is printed from a step on, by what the piece calls for
on_task : ℕ → Tally → List ℕ → List (List ℕ) → Task → List ℕ
on_task n t held [] tasks.More = []
on_task n t held (p ∷ ps) tasks.More = run n t (held ++ p) ps
on_task n t held pieces tasks.Totals = text_for t held tasks.Totals
on_task n t held pieces (tasks.Refusal f) = text_for t held (tasks.Refusal f)
on_task n t held pieces (tasks.System size) =
    text_for t held (tasks.System size) ++ run n (tallied t (outcome (system_at held size))) (drop (span size) held) pieces

step_on : ℕ → Tally → List ℕ → List (List ℕ) → Task → List ℕ
step_on n t held pieces k =
    elim (step_for t held k).status [
      | statuses.More ↦ elim pieces [ [] ↦ [] | p ∷ ps ↦ run n t (held ++ p) ps ]
      | statuses.Line ↦ text_for t held k ++ run n (step_for t held k).tally (drop (step_for t held k).used held) pieces
      | statuses.Done ↦ text_for t held k
    ]

step-on : (n : ℕ) (t : Tally) (held : List ℕ) (pieces : List (List ℕ)) (k : Task) → step_on n t held pieces k ≡ on_task n t held pieces k
unfolding step_on on_task step_for
step-on n t held [] tasks.More = refl
step-on n t held (p ∷ ps) tasks.More = refl
step-on n t held pieces tasks.Totals = refl
step-on n t held pieces (tasks.Refusal f) = refl
step-on n t held pieces (tasks.System size) = refl

run-task : (n : ℕ) (t : Tally) (held : List ℕ) (pieces : List (List ℕ)) (k : Task) → task_for (position t) (last pieces) held ≡ k
    → run (suc n) t held pieces ≡ on_task n t held pieces k
unfolding run step text step_on
run-task n t held pieces k e = ap (step_on n t held pieces) e ∙ step-on n t held pieces k

-- ---- all steps

-- in n steps, a caller prints the rest of the report
Follows : ℕ → Type 0
Follows n =
    (t : Tally) (held : List ℕ) (pieces : List (List ℕ)) (os : List Outcome) → Counts t os → length os ≤ most_systems
    → most_systems - length os + length pieces < n → run n t held pieces ≡ rest os (held ++ joined pieces)

module _ (n : ℕ) (ih : Follows n) (t : Tally) (held : List ℕ) (os : List Outcome) (k : Counts t os) (most : length os ≤ most_systems) where
  -- what is printed at the end of a stream
  end-totals : text_for t held tasks.Totals ≡ totals_of os
  unfolding text_for
  end-totals = counts-totals t os k

  end-refusal : (f : Fault) → text_for t held (tasks.Refusal f) ≡ refusal_line (number f) (length os)
  unfolding text_for
  end-refusal f = ap (refusal_line (number f)) (counts-position t os k)

  module _ (pieces : List (List ℕ)) (h : most_systems - length os + length pieces < suc n) where
    Goal : Type 0
    Goal = run (suc n) t held pieces ≡ rest os (held ++ joined pieces)

  -- what is known only at the end: until then the next piece is put behind
  waits : (pieces : List (List ℕ)) (h : most_systems - length os + length pieces < suc n) (j : Task)
      → task_for (position t) (last pieces) held ≡ at_end (last pieces) j → on_task n t held [] j ≡ rest os held → Goal pieces h
  unfolding Follows Goal at_end on_task joined
  waits [] h j e r = run-task n t held [] j e ∙ r ∙ ap (rest os) (sym (append-nil held))
  waits (p ∷ ps) h j e r =
      run-task n t held (p ∷ ps) tasks.More e ∙ ih t (held ++ p) ps os k most (omega arith) ∙ ap (rest os) (append_assoc held p (joined ps))

  module _ (pieces : List (List ℕ)) (h : most_systems - length os + length pieces < suc n) where
    -- a fault that is seen at once
    refuses : (f : Fault) → task_for (position t) (last pieces) held ≡ tasks.Refusal f
        → rest os (held ++ joined pieces) ≡ refusal_line (number f) (length os) → Goal pieces h
    unfolding Goal on_task
    refuses f e r = run-task n t held pieces (tasks.Refusal f) e ∙ end-refusal f ∙ sym r

    module _ (few : length os < most_systems) where
      by_front : task_for (position t) (last pieces) held ≡ front_task (last pieces) (front held)
      by_front = task-front (last pieces) held (position t) (omega (arith, counts-position t os k))

      -- a whole system
      advances : (m : ℕ) → Sized held m → front held ≡ Ok (Some m) → Goal pieces h
      unfolding Follows Goal on_task front_task text_for line_of
      advances m z e =
          let x : List ℕ = joined pieces in
          let s : System = system_at held m in
          let o : Outcome = outcome s in
          let c : Counts (tallied t o) (os ++ o ∷ []) = counts-more t os o k few in
          let l : length (os ++ o ∷ []) ≡ suc (length os) = omega (arith, length-append os (o ∷ [])) in
          run-task n t held pieces (tasks.System m) (by_front ∙ ap (front_task (last pieces)) e)
          ∙ ap₂ (λ (p : ℕ) (r : List ℕ). line_of p s ++ r) (counts-position t os k)
          (ih (tallied t o) (drop (span m) held) pieces (os ++ o ∷ []) c (omega arith) (omega arith))
          ∙ ap₂ (λ (y : System) (r : List ℕ). line_of (length os) y ++ rest (os ++ outcome y ∷ []) r) (sym (system-kept held x m z.fits)) (sym (after_kept held x m z.fits))
          ∙ sym (rest-whole os (held ++ x) few m (whole-kept held x m z))

      lacks : front held ≡ Err CutShort → Goal pieces h
      unfolding on_task front_task broken_task
      lacks e = waits pieces h (tasks.Refusal CutShort) (by_front ∙ ap (front_task (last pieces)) e) (end-refusal CutShort ∙ sym (rest-broken os held few CutShort e))

      goes : Goal pieces h
      unfolding on_task front_task broken_task
      goes =
          by_tests held (λ f. front held ≡ f → Goal pieces h)
          (λ z e. waits pieces h tasks.Totals (by_front ∙ ap (front_task (last pieces)) e) (end-totals ∙ sym (rest-nothing os held few e)))
          (λ z e. lacks e)
          (λ z e. refuses TooLong (by_front ∙ ap (front_task (last pieces)) e) (rest-broken os (held ++ joined pieces) few TooLong (long_kept held (joined pieces) z)))
          (λ z e. lacks e)
          (λ m z e. advances m z e)
          refl

    module _ (many : most_systems ≤ length os) where
      by-full : task_for (position t) (last pieces) held ≡ full_task (last pieces) held
      by-full = task-full (last pieces) held (position t) (omega (arith, counts-position t os k))

      stops : (b : Bool) → eqb (length held) 0 ≡ b → Goal pieces h
      unfolding on_task
      stops true e =
          let z : length held ≡ 0 = eqb-true (length held) 0 e in
          waits pieces h tasks.Totals (by-full ∙ full-nothing (last pieces) held z) (end-totals ∙ sym (rest-empty os held many z))
      stops false e =
          let z : length held ≡ 0 → ⊥ = eqb-false (length held) 0 e in
          refuses TooMany (by-full ∙ full-more (last pieces) held z)
          (rest-beyond os (held ++ joined pieces) many (λ y. z (omega (arith, length-append held (joined pieces)))))

    here : (b : Bool) → ltb (length os) most_systems ≡ b → Goal pieces h
    here true e = goes (ltb-true (length os) most_systems e)
    here false e = stops (ltb-false (length os) most_systems e) (eqb (length held) 0) refl

follows : (n : ℕ) → Follows n
unfolding Follows Goal
follows zero t held pieces os k m h = absurd (omega arith)
follows (suc n) t held pieces os k m h = here n (follows n) t held os k m pieces h (ltb (length os) most_systems) refl

-- whatever the pieces are
pub pieces-reported : (pieces : List (List ℕ)) → printed pieces ≡ report (joined pieces)
unfolding printed Follows
pieces-reported pieces = follows (suc (most_systems + length pieces)) fresh [] pieces [] counts-fresh (omega arith) (omega arith) ∙ rest-report (joined pieces)
