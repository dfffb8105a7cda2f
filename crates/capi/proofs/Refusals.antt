-- The answer taken apart: the place of a refusal, and the room that a verdict tells of.
use Prim.Native.Nat.{ℕ, zero, suc, ◌^◌, ◌<◌, ◌≤◌}
use mathlib.Core.Path.{◌≡◌, refl, sym, ◌∙◌}
use mathlib.Core.Bool.{Bool, true, false}
use mathlib.Core.List.{List, [], ◌∷◌}
use native.Mathlib.Omega.{arith}
use lib.Dec.{leb, ltb}
use lib.ListN.{length}
use borrow.Author.Tests.{ltb-false}
use Rattle.permset.specs.Sets.{width}
use Rattle.table.specs.Scan.{Outcome, accepted, refused as unreadable, first_of, reading}
use Rattle.table.specs.Code.{code}
use Rattle.table.proofs.Refusals.{reading-bounded, bounded-place}
use Rattle.calculus.specs.Layout.{estimate_words}
use Rattle.calculus.specs.Estimate.{whole, estimate}
use Rattle.calculus.specs.Answer.{Verdict, Answer, refused, verdict, work_words, caller_tests, judge, analysis, answer}
use Rattle.calculus.proofs.Firing.{whole_is}
use Rattle.std.specs.Prelude.{Result, Ok, Err}
use Rattle.calls.specs.declared.Fault.{Fault}
use Rattle.calls.specs.Faults.{fault_number, fault_place}
use Rattle.calls.specs.Calls.{Fit}
use Rattle.comparison.specs.declared.Verdict.{Verdict as Declared-as-Verdict}
use Rattle.comparison.specs.Values.{answer_of}
use Rattle.interface.specs.Places.{PlaceFits}

-- the last two of four tests do not hold where none does
none-holds : (a b d e : Bool) → first_of ((a, 20) ∷ (b, 20) ∷ (d, 21) ∷ (e, 22) ∷ []) ≡ 0 → (d ≡ false) × (e ≡ false)
unfolding first_of
none-holds true b d e h = absurd (omega arith)
none-holds false true d e h = absurd (omega arith)
none-holds false false true e h = absurd (omega arith)
none-holds false false false true h = absurd (omega arith)
none-holds false false false false h = (refl, refl)

module _ (ws : List ℕ) (ρ bound est work : ℕ) where
  abbrev found : ℕ
  found = first_of (caller_tests (code ws) ρ bound est work)

  -- the answer of an accepted table, by the number of the caller's first fault
  abbrev called : ℕ → Answer
  called n =
      elim n [ zero ↦ whole (estimate (code ws) ρ) (λ us. verdict (judge (code ws) ρ bound us)) | suc m ↦ refused (suc m) 0 ]

  room : reading ws ≡ accepted → found ≡ 0 → Fit ws est work
  unfolding caller_tests code
  room r e =
      let t = none-holds (leb (2 ^ width) ρ) _ (ltb est (estimate_words (code ws))) (ltb work (work_words (length ws))) e in
      record { readable = r; long = ltb-false est (estimate_words (code ws)) t.0; room = ltb-false work (work_words (length ws)) t.1 }

  pub verdict-fit : (v : Verdict) → answer ws ρ bound est work ≡ verdict v → Fit ws est work
  unfolding answer analysis
  verdict-fit v e = go (reading ws) refl e
    where
      none : (n : ℕ) → called n ≡ verdict v → n ≡ 0
      none zero h = refl
      none (suc n) h = let z : ◌≡◌ {A = ℕ} 0 1 = cc in absurd (omega arith)

      go : (o : Outcome) → reading ws ≡ o
          → (elim o as (λ u. Answer) [ accepted ↦ analysis (code ws) ρ bound est work | unreadable m q ↦ refused m q ]) ≡ verdict v → Fit ws est work
      go accepted r h = room r (none found h)
      go (unreadable m q) r h = let z : ◌≡◌ {A = ℕ} 0 1 = cc in absurd (omega arith)

  answer-place : (n p : ℕ) → answer ws ρ bound est work ≡ refused n p → p ≤ length ws
  unfolding answer analysis
  answer-place n p e = go (reading ws) refl e
    where
      start : (m : ℕ) → called m ≡ refused n p → p ≤ length ws
      start zero h =
          let w = sym (whole_is (estimate (code ws) ρ) (λ us. verdict (judge (code ws) ρ bound us))) ∙ h in
          let z : ◌≡◌ {A = ℕ} 0 1 = cc in
          absurd (omega arith)
      start (suc m) h = let q : 0 ≡ p = cc in omega arith

      go : (o : Outcome) → reading ws ≡ o
          → (elim o as (λ u. Answer) [ accepted ↦ analysis (code ws) ρ bound est work | unreadable m q ↦ refused m q ]) ≡ refused n p → p ≤ length ws
      go accepted r h = start found h
      go (unreadable m q) r h =
          let same : q ≡ p = cc in
          omega (arith, bounded-place (length ws) (reading ws) m q (reading-bounded ws) r)

  pub place-fits : (v : Result Declared-as-Verdict Fault) → answer_of v ≡ answer ws ρ bound est work → length ws < 65536 → PlaceFits v
  unfolding answer_of
  place-fits (Err f) e h = omega (arith, answer-place (fault_number f) (fault_place f) (sym e))
  place-fits (Ok v) e h = tt
