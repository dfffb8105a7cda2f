-- Laws of the program: the test of a command, and the room.
use Prim.Native.Nat.{ℕ, ◌+◌, ◌<◌, ◌≤◌}
use mathlib.Core.Path.{◌≡◌, refl, ap, ap₂, ◌∙◌, subst}
use mathlib.Core.Bool.{Bool, true, false, ◌&&◌, false≢true}
use mathlib.Core.List.{List, [], ◌∷◌, ◌++◌}
use native.Mathlib.Omega.{arith}
use borrow.Author.Tests.{eqb-true, eq-eqb, le-leb, lt-leb}
use lib.Dec.{eqb}
use lib.ListN.{length, drop}
use Rattle.text.specs.Text.{bytes}
use Rattle.text.specs.Writing.{Wrote}
use Rattle.commands.specs.Printed.{text_text, words_text, join_text, block_text, manifest_text, explain_text, other_text, room, same, printed, fits, printed_size, out_after}
use Rattle.commands.specs.Checked.{check_text}

same_refl : (l : List ℕ) → same l l ≡ true
unfolding same
same_refl [] = refl
same_refl (b ∷ bs) = rw (eq-eqb b b refl) (same_refl bs)

and-true : (a b : Bool) → (a && b) ≡ true → (a ≡ true) × (b ≡ true)
and-true true b e = (refl, e)
and-true false b e = absurd (false≢true e)

same-is : (l m : List ℕ) → same l m ≡ true → l ≡ m
unfolding same
same-is [] [] e = refl
same-is [] (b ∷ bs) e = absurd (false≢true e)
same-is (a ∷ l) [] e = absurd (false≢true e)
same-is (a ∷ l) (b ∷ m) e =
    let p = and-true (eqb a b) (same l m) e in
    ap₂ (λ (x : ℕ) (xs : List ℕ). x ∷ xs) (eqb-true a b p.0) (same-is l m p.1)

-- an answer that is yes exactly where two lists are equal
pub decided : (l m : List ℕ) (r : Bool) → (r ≡ true → l ≡ m) × (l ≡ m → r ≡ true) → same l m ≡ r
decided l m true h = subst (λ (x : List ℕ). same l x ≡ true) (h.0 refl) (same_refl l)
decided l m false h = go (same l m) refl
  where
    go : (b : Bool) → same l m ≡ b → same l m ≡ false
    go false e = e
    go true e = absurd (false≢true (h.1 (same-is l m e)))

module _ (text : List ℕ) (input : ℕ) (out : List ℕ) where
  pub run-written : room + input ≤ length out → (after : List ℕ) (n : ℕ) → Wrote out 0 text after n
      → (n ≡ printed_size text input (length out)) × (after ≡ out_after text input out) × (n ≤ length out)
  unfolding printed_size out_after fits
  run-written h after n w =
      let e : fits input (length out) ≡ true = le-leb (room + input) (length out) h in
      let k : n ≡ length text = omega (arith, w.ends) in
      (k ∙ rw (printed_size, e), w.bytes ∙ ap (λ (i : ℕ). text ++ drop i out) k ∙ rw (out_after, e), w.fits)

  pub run_short : length out < room + input → (0 ≡ printed_size text input (length out)) × (out ≡ out_after text input out) × (0 ≤ length out)
  unfolding printed_size out_after fits
  run_short h = let e : fits input (length out) ≡ false = lt-leb (room + input) (length out) h in (rw (printed_size, e), rw (out_after, e), omega arith)

-- the text of each command
module _ (command first second input : List ℕ) where
  pub printed-text : same command (bytes "text") ≡ true → text_text input ≡ printed command first second input
  unfolding printed
  printed-text e = rw (printed, e)

  module _ (not-text : same command (bytes "text") ≡ false) where
    pub printed-words : same command (bytes "words") ≡ true → words_text input ≡ printed command first second input
    unfolding printed
    printed-words e = rw (printed, not-text, e)

    module _ (not-words : same command (bytes "words") ≡ false) where
      pub printed-join : same command (bytes "join") ≡ true → join_text input ≡ printed command first second input
      unfolding printed
      printed-join e = rw (printed, not-text, not-words, e)

      module _ (not-join : same command (bytes "join") ≡ false) where
        pub printed-block : same command (bytes "block") ≡ true → block_text first second input ≡ printed command first second input
        unfolding printed
        printed-block e = rw (printed, not-text, not-words, not-join, e)

        module _ (not-block : same command (bytes "block") ≡ false) where
          pub printed-manifest : same command (bytes "manifest") ≡ true → manifest_text input ≡ printed command first second input
          unfolding printed
          printed-manifest e = rw (printed, not-text, not-words, not-join, not-block, e)

          module _ (not-manifest : same command (bytes "manifest") ≡ false) where
            pub printed-explain : same command (bytes "explain") ≡ true → explain_text first ≡ printed command first second input
            unfolding printed
            printed-explain e = rw (printed, not-text, not-words, not-join, not-block, not-manifest, e)

            module _ (not-explain : same command (bytes "explain") ≡ false) where
              pub printed-check : same command (bytes "check") ≡ true → check_text input ≡ printed command first second input
              unfolding printed
              printed-check e = rw (printed, not-text, not-words, not-join, not-block, not-manifest, not-explain, e)

              pub printed-other : same command (bytes "check") ≡ false → other_text command first input ≡ printed command first second input
              unfolding printed
              printed-other e = rw (printed, not-text, not-words, not-join, not-block, not-manifest, not-explain, e)
