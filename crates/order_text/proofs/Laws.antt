-- Positions written one after the other, and the lines of replies.
use Prim.Native.Nat.{ℕ, ◌+◌, ◌-◌, ◌*◌, ◌/◌, ◌≤◌, ◌<◌}
use mathlib.Core.Path.{◌≡◌, refl, sym, ap, ◌∙◌}
use mathlib.Core.Bool.{true, false}
use mathlib.Core.List.{List, [], ◌++◌, append-nil, append_assoc}
use native.Mathlib.Numerals.{add-one}
use native.Mathlib.Decide.{dec_lt}
use native.Mathlib.Omega.{arith}
use borrow.Author.Tests.{lt-ltb, le-ltb}
use lib.Dec.{ltb}
use lib.ListN.{length, get_or, drop, drop_of_length-le}
use lib.Seq.{drop-cons}
use Rattle.text.specs.Text.{bytes, decimal}
use Rattle.text.specs.Writing.{Wrote}
use Rattle.text.proofs.Writing.{wrote_nothing, reworded, then}
use Rattle.order_text.specs.Text.{spaced, room, text_size, text_after}

-- ---- the loop over positions

-- i positions are written, from `at` up to `next`
pub record Spaced (ps before : List ℕ) (at i : ℕ) (after : List ℕ) (next : ℕ) : Type 0 where
  pub done : List ℕ
  pub wrote : Wrote before at done after next
  pub rest : done ++ spaced (drop i ps) ≡ spaced ps
  pub near : next ≤ at + 21 * i
  pub inside : i ≤ length ps

module _ {ps before : List ℕ} {at : ℕ} where
  pub spaced-start : at ≤ length before → Spaced ps before at 0 before at
  spaced-start h = record { done = []; wrote = wrote_nothing before at h; rest = refl; near = omega arith; inside = omega arith }

  module _ {i next : ℕ} {after : List ℕ} (d : Spaced ps before at i after next) where
    pub spaced-step : i < length ps → {new : List ℕ} {end : ℕ} → Wrote after next (bytes " " ++ decimal (get_or ps i 0)) new end → end ≤ next + 1 + 20
        → Spaced ps before at (i + 1) new end
    unfolding spaced
    spaced-step h w n =
        let x = bytes " " ++ decimal (get_or ps i 0) in
        let e : spaced (drop i ps) ≡ x ++ spaced (drop (i + 1) ps) =
        ap spaced (drop-cons ps i 0 h) ∙ ap (λ (k : ℕ). x ++ spaced (drop k ps)) (sym (add-one i)) in
        record {
          done = d.done ++ x;
          wrote = then d.wrote w;
          rest = append_assoc d.done x (spaced (drop (i + 1) ps)) ∙ ap (λ (l : List ℕ). d.done ++ l) (sym e) ∙ d.rest;
          near = omega (arith, d.near);
          inside = omega arith;
        }

    pub spaced-end : length ps ≤ i → Wrote before at (spaced ps) after next × (next ≤ at + 21 * length ps)
    unfolding spaced
    spaced-end h =
        let e : d.done ≡ spaced ps =
        sym (append-nil d.done) ∙ ap (λ (l : List ℕ). d.done ++ spaced l) (sym (drop_of_length-le ps {i = i} h)) ∙ d.rest in
        (reworded e d.wrote, omega (arith, d.near, d.inside))

-- ---- room

-- a test without a product
pub divided : (size n : ℕ) → 96 ≤ size → ltb ((size - 96) / 21) n ≡ ltb size (room n)
divided size n h = go (dec_lt size (room n))
  where
    go : Dec (size < room n) → ltb ((size - 96) / 21) n ≡ ltb size (room n)
    go (yes l) = lt-ltb ((size - 96) / 21) n (omega arith) ∙ sym (lt-ltb size (room n) l)
    go (no l) = le-ltb ((size - 96) / 21) n (omega arith) ∙ sym (le-ltb size (room n) (omega arith))

-- what a call answers and leaves
abbrev pub Printed : (n : ℕ) (text out new : List ℕ) (size : ℕ) → Type 0
Printed n text out new size =
    (size ≡ text_size n text (length out)) × ((new ≡ text_after n text out) × (size ≤ length out))

module _ (n : ℕ) (text out : List ℕ) where
  pub unwritten : ltb (length out) (room n) ≡ true → Printed n text out out 0
  unfolding text_size text_after
  unwritten t = (sym (rw (t, text_size)), (sym (rw (t, text_after)), omega arith))

  pub written : ltb (length out) (room n) ≡ false → (new : List ℕ) (size : ℕ) → Wrote out 0 text new size → Printed n text out new size
  unfolding text_size text_after
  written t new size w =
      let e : size ≡ length text = omega (arith, w.ends) in (
        e ∙ sym (rw (t, text_size)),
        (w.bytes ∙ ap (λ (k : ℕ). text ++ drop k out) e ∙ sym (rw (t, text_after)), w.fits),
      )
