-- Rows of words: what they have in common and where, whether one lacks something of another, and what it is to or words into a list and count what that added.
use Rattle.std.specs.Prelude.{ℕ, ◌+◌, ◌≤◌, ◌<◌, max, ◌≡◌, Bool, false, not, ◌||◌, List, [], ◌∷◌, eqb, length, get_or}
use Rattle.std.specs.Int.Bits.{bit_and}
use Rattle.calculus.specs.Layout.{pour}
use Rattle.calculus.specs.Estimate.{facts}

-- some digit is in both
unfoldable pub meets : List ℕ → List ℕ → Bool
meets [] xs = false
meets (m ∷ ms) [] = false
meets (m ∷ ms) (x ∷ xs) = not (eqb (bit_and m x) 0) || meets ms xs

-- r is the first word from `from` on that two rows have something in common in, and their end where there is none
pub record NextCommon (xs ys : List ℕ) (from r : ℕ) : Type 0 where
  pub later : from ≤ r
  pub none : (k : ℕ) → from ≤ k → k < r → bit_and (get_or xs k 0) (get_or ys k 0) ≡ 0
  pub found : r < length xs → bit_and (get_or xs r 0) (get_or ys r 0) ≡ 0 → ⊥
  pub inside : r ≤ max from (length xs)

-- xs has a digit that ys has not
unfoldable pub lacking : List ℕ → List ℕ → Bool
lacking [] ys = false
lacking (x ∷ xs) [] = false
lacking (x ∷ xs) (y ∷ ys) = not (eqb (bit_and x y) x) || lacking xs ys

-- new is old with the words xs or-ed in from the place `at` on, and that added so many digits
pub record Poured (old new : List ℕ) (at : ℕ) (xs : List ℕ) (added : ℕ) : Type 0 where
  pub words : new ≡ pour old at xs
  pub count : facts new ≡ facts old + added

-- ws is what counts of each word of xs, by the word's place
pub record Sifted (counts : ℕ → ℕ → ℕ → Type 0) (xs ws : List ℕ) : Type 0 where
  pub long : length ws ≡ length xs
  pub word : (k : ℕ) → k < length xs → counts k (get_or xs k 0) (get_or ws k 0)
