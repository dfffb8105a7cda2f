-- A list that is written from a place on: one word more, and the end.
use Prim.Native.Nat.{ℕ, zero, suc, ◌+◌, ◌-◌, ◌≤◌, ◌<◌}
use mathlib.Core.Path.{◌≡◌, refl, ap}
use mathlib.Core.List.{List, [], ◌∷◌}
use native.Mathlib.Numerals.{add-one}
use native.Mathlib.Omega.{arith}
use lib.ListN.{length, get_or, take, drop, set, drop_of_length-le}
use lib.Seq.{sets, set_out, drop-drop, drop-cons}
use Rattle.test_tables.specs.Tables.{numbered}

-- ---- words by their numbers

pub numbered_done : (f : ℕ → ℕ) (n : ℕ) (ws : List ℕ) (i : ℕ) → length ws ≤ i → numbered f n ws i ≡ ws
unfolding numbered
numbered_done f n [] i h = refl
numbered_done f n (w ∷ ws) zero h = absurd (omega arith)
numbered_done f n (w ∷ ws) (suc i) h = ap (λ (xs : List ℕ). w ∷ xs) (numbered_done f n ws i (omega arith))

one_more : (f : ℕ → ℕ) (n : ℕ) (ws : List ℕ) (i : ℕ) → numbered f (suc n) (set ws i (f n)) (suc i) ≡ numbered f n ws i
unfolding numbered
one_more f n [] i = refl
one_more f n (w ∷ ws) zero = refl
one_more f n (w ∷ ws) (suc i) = ap (λ (xs : List ℕ). w ∷ xs) (one_more f n ws i)

pub numbered_more : (f : ℕ → ℕ) (ws : List ℕ) (at i w : ℕ) → at ≤ i → w ≡ f (i - at)
    → numbered f (i + 1 - at) (set ws i w) (i + 1) ≡ numbered f (i - at) ws i
numbered_more f ws at i w h e =
    let k : i + 1 - at ≡ suc (i - at) = omega arith in
    rw (k, add-one, e) (one_more f (i - at) ws i)

-- ---- words of another list

pub sets_done : (ws : List ℕ) (i : ℕ) (xs : List ℕ) → length ws ≤ i → sets ws i xs ≡ ws
sets_done ws i [] h = refl
sets_done ws i (x ∷ xs) h = rw (set_out ws i x h) (sets_done ws (suc i) xs (omega arith))

module _ (ws : List ℕ) (i : ℕ) (xs : List ℕ) (k : ℕ) where
  pub one_stored : k < length xs → set ws i (get_or xs k 0) ≡ sets ws i (take 1 (drop k xs))
  one_stored h = rw (drop-cons xs k 0)

  pub none_stored : length xs ≤ k → ws ≡ sets ws i (take 1 (drop k xs))
  none_stored h = rw (drop_of_length-le xs {i = k})

first-and-rest : (ws : List ℕ) (i : ℕ) (xs : List ℕ) → sets (sets ws i (take 1 xs)) (suc i) (drop 1 xs) ≡ sets ws i xs
first-and-rest ws i [] = refl
first-and-rest ws i (x ∷ xs) = refl

pub sets_more : (ws : List ℕ) (at i : ℕ) (xs : List ℕ) → at ≤ i
    → sets (sets ws i (take 1 (drop (i - at) xs))) (i + 1) (drop (i + 1 - at) xs) ≡ sets ws i (drop (i - at) xs)
sets_more ws at i xs h =
    let k : i + 1 - at ≡ i - at + 1 = omega arith in
    rw (k, ← drop-drop 1 (i - at) xs, add-one) (first-and-rest ws i (drop (i - at) xs))
