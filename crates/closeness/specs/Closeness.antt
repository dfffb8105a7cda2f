-- When two words are close: one letter changed, left out or added, or two neighbours exchanged.
use Rattle.std.specs.Prelude.{ℕ, suc, ◌+◌, Bool, true, false, ◌&&◌, ◌||◌, List, [], ◌∷◌, eqb, drop, get_or}

-- the same letters
unfoldable pub same : List ℕ → List ℕ → Bool
same [] [] = true
same [] (b ∷ y) = false
same (a ∷ x) [] = false
same (a ∷ x) (b ∷ y) = elim (eqb a b) [ true ↦ same x y | false ↦ false ]

-- how many letters they share at their start
unfoldable pub shared : List ℕ → List ℕ → ℕ
shared [] y = 0
shared (a ∷ x) [] = 0
shared (a ∷ x) (b ∷ y) = elim (eqb a b) [ true ↦ suc (shared x y) | false ↦ 0 ]

-- x from i on is y from j on
unfoldable pub agree : (x : List ℕ) (i : ℕ) (y : List ℕ) (j : ℕ) → Bool
unfolding same
agree x i y j = same (drop i x) (drop j y)

-- the letters at i and i + 1 are exchanged, and those behind them agree
unfoldable pub exchanged : (x y : List ℕ) (i : ℕ) → Bool
unfolding agree
exchanged x y i = eqb (get_or x i 0) (get_or y (i + 1) 0) && (eqb (get_or x (i + 1) 0) (get_or y i 0) && agree x (i + 2) y (i + 2))

-- words that agree up to i: behind it a letter is changed, is missing in x, or is missing in y, or two are exchanged
unfoldable pub close_from : (x y : List ℕ) (i : ℕ) → Bool
unfolding agree exchanged
close_from x y i = agree x (i + 1) y (i + 1) || (agree x i y (i + 1) || (agree x (i + 1) y i || exchanged x y i))

unfoldable pub close : (x y : List ℕ) → Bool
unfolding shared close_from
close x y = close_from x y (shared x y)
