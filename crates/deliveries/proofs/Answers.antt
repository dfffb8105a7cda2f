-- The answer of a call that writes the text of a table: the table's refusal, no room, or the text.
use Prim.Native.Nat.{ℕ, ◌+◌, ◌≤◌, ◌<◌}
use mathlib.Core.Path.{◌≡◌, sym, ap, ◌∙◌}
use mathlib.Core.List.{List, ◌++◌}
use native.Mathlib.Omega.{arith}
use borrow.Author.Tests.{lt-ltb, le-ltb}
use lib.ListN.{length, drop}
use Rattle.table.specs.Scan.{Outcome, accepted, refused}
use Rattle.listing.specs.Listing.{Answered, done, refusal, left}
use Rattle.text.specs.Added.{Added}
use Rattle.text.proofs.Adding.{added-whole}
use Rattle.deliveries.specs.Answers.{answer_for, bytes_after}

module _ (o : Outcome) (text out : List ℕ) where
  pub refused-table : (n p : ℕ) → o ≡ refused n p → (refusal n p ≡ answer_for o text (length out)) × (out ≡ bytes_after o text out)
  unfolding answer_for left
  refused-table n p e =
      let w : answer_for o text (length out) ≡ refusal n p = ap (λ (x : Outcome). answer_for x text (length out)) e in
      (sym w, sym (ap (λ (a : Answered). left a text out) w))

  module _ (e : o ≡ accepted) (n : ℕ) (m : n ≡ 0 + length text) where
    pub room-lacking : length out < n → (refusal 42 0 ≡ answer_for o text (length out)) × (out ≡ bytes_after o text out)
    unfolding answer_for left
    room-lacking h =
        let w : answer_for o text (length out) ≡ refusal 42 0 = rw (e, answer_for, lt-ltb (length out) (length text) (omega arith)) in
        (sym w, sym (ap (λ (a : Answered). left a text out) w))

    pub room-there : n ≤ length out → (mid last : List ℕ) (k : ℕ) → mid ≡ out → Added mid 0 text last k
        → (done n ≡ answer_for o text (length out)) × (last ≡ bytes_after o text out)
    unfolding answer_for left
    room-there h mid last k q a =
        let w : answer_for o text (length out) ≡ done (length text) = rw (e, answer_for, le-ltb (length out) (length text) (omega arith)) in
        let count : n ≡ length text = omega arith in (
          ap done count ∙ sym w,
          added-whole a (omega (arith, ap length q)) ∙ ap (λ (l : List ℕ). text ++ drop (length text) l) q ∙ sym (ap (λ (x : Answered). left x text out) w),
        )
