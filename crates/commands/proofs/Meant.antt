-- Laws of lines, of the place of a number in a list, and of the two cases of a sentence.
use Prim.Native.Nat.{ℕ, zero, suc, ◌+◌, ◌-◌, ◌<◌, ◌≤◌}
use mathlib.Core.Path.{◌≡◌, refl, ap, ◌∙◌}
use mathlib.Core.List.{List, ◌++◌}
use native.Mathlib.Numerals.{add-one}
use native.Mathlib.Omega.{arith}
use borrow.Author.Tests.{lt-ltb, le-ltb, eq-eqb, ne_eqb}
use lib.ListN.{length, get_or, take, drop, drop_of_length-le, length-drop}
use lib.Seq.{drop-cons, drop-drop}
use Rattle.text.specs.Text.{bytes}
use Rattle.listing.specs.Decoding.{line_size}
use Rattle.commands.specs.Meanings.{from_line, line_at, lines_at, numbers, position, meaning, sentence}

pub from_next : (text : List ℕ) (at left : ℕ) → 0 < left
    → from_line left (drop at text) ≡ from_line (left - 1) (drop (at + line_size (drop at text)) text)
unfolding from_line
from_next text at zero h = absurd (omega arith)
from_next text at (suc m) h =
    let e : m ≡ suc m - 1 = omega arith in
    ap (from_line m) (drop-drop (line_size (drop at text)) at text) ∙ ap (λ (k : ℕ). from_line k (drop (at + line_size (drop at text)) text)) e

pub part-line : (text : List ℕ) (start end k : ℕ) → drop start text ≡ from_line k text → end ≡ start + line_size (drop start text)
    → take (end - start) (drop start text) ≡ line_at k text
unfolding line_at
part-line text start end k e f =
    let n : end - start ≡ line_size (drop start text) = omega arith in
    ap (λ (m : ℕ). take m (drop start text)) n ∙ ap (λ (l : List ℕ). take (line_size l) l) e

pub part-lines : (text : List ℕ) (start end k count : ℕ) → drop start text ≡ from_line k text → drop end text ≡ from_line count (drop start text)
    → start ≤ end → end ≤ length text → take (end - start) (drop start text) ≡ lines_at k count text
unfolding lines_at
part-lines text start end k count e f g h =
    let x = ap length f in
    let n : end - start ≡ length (drop start text) - length (from_line count (drop start text)) =
    omega (arith, ap length f, length-drop start text, length-drop end text) in
    ap (λ (m : ℕ). take m (drop start text)) n ∙ ap (λ (l : List ℕ). take (length l - length (from_line count l)) l) e

pub numbers-long : length numbers ≡ 39
unfolding numbers
numbers-long = refl

module _ (n : ℕ) (l : List ℕ) (i : ℕ) where
  pub position-there : i < length l → get_or l i 0 ≡ n → position n (drop i l) ≡ 0
  unfolding position
  position-there h e = rw (drop-cons l i 0 h, position, eq-eqb (get_or l i 0) n e)

  pub position-more : i < length l → (get_or l i 0 ≡ n → ⊥) → position n (drop i l) ≡ suc (position n (drop (i + 1) l))
  unfolding position
  position-more h e = rw (add-one, drop-cons l i 0 h, position, ne_eqb (get_or l i 0) n e)

  pub position-end : length l ≤ i → position n (drop i l) ≡ 0
  unfolding position
  position-end h = rw (drop_of_length-le l h, position)

pub sentence-second : (n : ℕ) → 100 < n → (bytes "In the second system: " ++ meaning (n - 100)) ≡ sentence n
unfolding sentence
sentence-second n h = rw (sentence, lt-ltb 100 n h)

pub sentence-first : (n : ℕ) → n ≤ 100 → meaning n ≡ sentence n
unfolding sentence
sentence-first n h = rw (sentence, le-ltb 100 n h)
