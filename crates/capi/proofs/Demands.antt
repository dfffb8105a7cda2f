-- Demands 2 and 3 of the number that a call answers.
use Prim.Native.Nat.{ℕ, zero, suc, ◌+◌, ◌*◌, ◌/◌, ◌^◌, ◌<◌}
use mathlib.Core.Path.{◌≡◌, sym, ap, ◌∙◌, subst, subst₂}
use mathlib.Core.Bool.{Bool, true, false}
use mathlib.Core.List.{List, ◌++◌}
use native.Mathlib.Omega.{arith}
use lib.Dec.{leb}
use lib.ListN.{length, take, drop}
use lib.Seq.{take_at}
use borrow.Author.Tests.{le-leb, lt-leb}
use Rattle.permset.specs.Sets.{width}
use Rattle.table.specs.Scan.{accepted, reading, first_of}
use Rattle.table.specs.Code.{code}
use Rattle.table.proofs.Linked.{linked}
use Rattle.calculus.specs.Layout.{estimate_words}
use Rattle.calculus.specs.Estimate.{estimate, leak}
use Rattle.calculus.specs.Answer.{Verdict, Answer, refused, verdict, bound_used, judge, answer}
use Rattle.calculus.specs.Guarantee.{Covers}
use Rattle.calculus.specs.Correct.{Least, Compared, Correct, Guaranteed}
use Rattle.calculus.proofs.Least.{estimate-well}
use Rattle.calculus.proofs.Leak.{leak-lt}
use Rattle.calculus.proofs.Covers.{answer-judged, answer-guaranteed}
use Rattle.calculus.proofs.Correct.{answer-correct}
use Rattle.little_endian.specs.LittleEndian.{words_of, bytes_of}
use Rattle.little_endian.proofs.Laws.{words_of-append}
use Rattle.interface.specs.Numbers.{over_part, answer_number, system_tests}
use Rattle.interface.proofs.Numbers.{refusal-large, verdict-leak}
use Rattle.capi.specs.Interface.{bytes_answer, estimate_bytes, CorrectNumber, GuaranteedNumber}

-- the digit above the permissions
over-digit : (leak : ℕ) (over : Bool) → leak < 2 ^ width → leb (2 ^ width) (leak + over_part over) ≡ over
over-digit leak true h = le-leb (2 ^ width) (leak + 2 ^ 24) (omega arith)
over-digit leak false h = lt-leb (2 ^ width) (leak + 0) (omega arith)

over-number : (v : Verdict) → v.leak < 2 ^ width → leb (2 ^ width) (answer_number (verdict v)) ≡ v.over
unfolding answer_number
over-number v k = over-digit v.leak v.over k

-- the least estimate in the bytes of a slice, as words
first-words : (ws : List ℕ) (ρ : ℕ) (bs : List ℕ) → reading ws ≡ accepted
    → take (estimate_words (code ws)) (words_of (bytes_of (estimate (code ws) ρ) ++ bs)) ≡ estimate (code ws) ρ
first-words ws ρ bs a =
    let w = estimate-well (code ws) (linked ws a) ρ in
    ap (take (estimate_words (code ws))) (words_of-append (estimate (code ws) ρ) bs w.words)
    ∙ take_at (estimate (code ws) ρ) (words_of bs) (estimate_words (code ws)) w.long

-- a verdict's leak is a set
leak-small : (ws : List ℕ) (ρ bound est work : ℕ) (v : Verdict) → answer ws ρ bound est work ≡ verdict v → v.leak < 2 ^ width
unfolding judge
leak-small ws ρ bound est work v e =
    subst (λ (u : Verdict). u.leak < 2 ^ width) (answer-judged ws ρ bound est work v e).1 (leak-lt (code ws) ρ (estimate (code ws) ρ))

module _ (ws : List ℕ) (ρ bound est work : ℕ) (bs : List ℕ) where
  -- a refusal's number is no smaller than 2^32
  large : {A : Type 0} (n p : ℕ) → answer_number (refused n p) < 2 ^ 32 → A
  large n p h = absurd (omega (arith, refusal-large n p))

  correct-number : (a : Answer) → a ≡ answer ws ρ bound est work → CorrectNumber ws ρ bound (estimate_bytes ws ρ a bs) (answer_number a)
  unfolding CorrectNumber estimate_bytes Correct
  correct-number (refused n p) e = λ h. large n p h
  correct-number (verdict v) e =
      let us = words_of (bytes_of (estimate (code ws) ρ) ++ drop (4 * estimate_words (code ws)) bs) in
      let k = leak-small ws ρ bound est work v (sym e) in
      let d =
      answer-correct ws ρ bound est work us (verdict v) e
      (λ u q. first-words ws ρ (drop (4 * estimate_words (code ws)) bs) (answer-judged ws ρ bound est work u q).0) in
      λ h. subst₂ (λ (s : ℕ) (o : Bool). Least (code ws) ρ (take (estimate_words (code ws)) us) s × ((first : ℕ) × Compared s (bound_used bound) o first))
      (sym (verdict-leak v k)) (sym (over-number v k)) (d.0, (v.first, d.1))

  guaranteed-number : (a : Answer) → a ≡ answer ws ρ bound est work → GuaranteedNumber ws ρ (answer_number a)
  unfolding GuaranteedNumber Guaranteed
  guaranteed-number (refused n p) e = λ h. large n p h
  guaranteed-number (verdict v) e =
      λ h. subst (Covers (code ws) ρ) (sym (verdict-leak v (leak-small ws ρ bound est work v (sym e))))
      (answer-guaranteed ws ρ bound est work (verdict v) e)

-- both, of a call on the bytes of a system
pub demands : (system : List ℕ) (ρ bound est work : ℕ) (bs : List ℕ) (a : Answer) → a ≡ bytes_answer system ρ bound est work
    → CorrectNumber (words_of system) ρ bound (estimate_bytes (words_of system) ρ a bs) (answer_number a)
    × GuaranteedNumber (words_of system) ρ (answer_number a)
unfolding bytes_answer CorrectNumber GuaranteedNumber
demands system ρ bound est work bs a e = go (first_of (system_tests (length system))) a e
  where
    go : (n : ℕ) (a : Answer)
        → a ≡ (elim n as (λ k. Answer) [ zero ↦ answer (words_of system) ρ bound (est / 4) (work / 4) | suc k ↦ refused (suc k) 0 ])
        → CorrectNumber (words_of system) ρ bound (estimate_bytes (words_of system) ρ a bs) (answer_number a)
        × GuaranteedNumber (words_of system) ρ (answer_number a)
    go zero a e =
        (correct-number (words_of system) ρ bound (est / 4) (work / 4) bs a e, guaranteed-number (words_of system) ρ bound (est / 4) (work / 4) bs a e)
    go (suc n) a e =
        subst
        (λ (b : Answer). CorrectNumber (words_of system) ρ bound (estimate_bytes (words_of system) ρ b bs) (answer_number b)
        × GuaranteedNumber (words_of system) ρ (answer_number b)) (sym e)
        (λ h. large (words_of system) ρ bound est work bs (suc n) 0 h, λ h. large (words_of system) ρ bound est work bs (suc n) 0 h)
