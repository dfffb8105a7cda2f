-- The words of an estimate (document 01, "Estimate"): where each row stands, and which sets a list of words holds.
use Rattle.std.specs.Prelude.{ℕ, zero, suc, ◌+◌, ◌*◌, ◌/◌, ◌%◌, ◌^◌, ◌<◌, ◌≡◌, Bool, ◌&&◌, ◌||◌, drop, length, T}
use mathlib.Core.List.{List, [], ◌∷◌}
use Rattle.std.proofs.Math.ListN.{get_or, take}
use Rattle.std.proofs.Math.Dec.{leb, ltb}
use Rattle.std.specs.Int.Bits.{bit_and, bit_or}
use Rattle.permset.specs.Sets.{width, member}
use Rattle.table.specs.Code.{Code}
use Rattle.calculus.specs.Elements.{elements}
use Rattle.calculus.specs.Constraint.{Row, C, B, P, L, Sets}

-- binary digit n of a list of 32-bit words, low digit first
unfoldable pub bit : List ℕ → ℕ → Bool
bit ws n = member (get_or ws (n / 32) 0) (n % 32)

-- the words xs or-ed into ws, from the place `at` on
unfoldable pub pour : List ℕ → ℕ → List ℕ → List ℕ
pour [] at xs = []
pour (w ∷ ws) zero [] = w ∷ ws
pour (w ∷ ws) zero (x ∷ xs) = bit_or w x ∷ pour ws zero xs
pour (w ∷ ws) (suc at) xs = w ∷ pour ws at xs

-- digit n set
unfoldable pub mark : List ℕ → ℕ → List ℕ
unfolding pour
mark ws n = pour ws (n / 32) (2 ^ (n % 32) ∷ [])

-- what two lists of words have in common, word by word
unfoldable pub masked : List ℕ → List ℕ → List ℕ
masked [] ys = []
masked (x ∷ xs) [] = []
masked (x ∷ xs) (y ∷ ys) = bit_and x y ∷ masked xs ys

-- the word that a row belongs to
unfoldable pub owner : Row → ℕ
owner (C i) = i
owner (B i) = i
owner (P i) = i
owner (L i) = i

module _ (c : Code) where
  -- R, the words of a value set or a held set
  unfoldable pub row_words : ℕ
  row_words = (elements c + 31) / 32

  -- 2WR+W, the words of an estimate
  unfoldable pub estimate_words : ℕ
  unfolding row_words
  estimate_words = 2 * c.size * row_words + c.size

  -- the first word of a row
  unfoldable pub base : Row → ℕ
  unfolding row_words
  base (C i) = 2 * i * row_words
  base (B i) = 2 * i * row_words + row_words
  base (P i) = 2 * c.size * row_words + i
  base (L i) = 2 * c.size * row_words + i

  -- the digit of its first element in that word: the flag stands above the permissions
  unfoldable pub shift : Row → ℕ
  shift (C i) = 0
  shift (B i) = 0
  shift (P i) = 0
  shift (L i) = width

  -- how many elements a row may hold
  unfoldable pub span : Row → ℕ
  span (C i) = elements c
  span (B i) = elements c
  span (P i) = width
  span (L i) = 1

  -- the digit of element v of a row
  unfoldable pub place : Row → ℕ → ℕ
  unfolding base shift
  place r v = 32 * base r + shift r + v

  -- v may be in the row r
  unfoldable pub allowed : Row → ℕ → Bool
  unfolding owner span
  allowed r v = ltb (owner r) c.size && ltb v (span r)

  -- the sets that a list of words holds
  unfoldable pub sets : List ℕ → Sets
  unfolding allowed place bit
  sets ws r v = allowed r v && bit ws (place r v)

  -- the words of a set that may be passed on to another, its digits from 0 on; a flag is not
  unfoldable pub content : List ℕ → Row → List ℕ
  unfolding row_words base
  content ws (C i) = take row_words (drop (base (C i)) ws)
  content ws (B i) = take row_words (drop (base (B i)) ws)
  content ws (P i) = get_or ws (base (P i)) 0 % 2 ^ width ∷ []
  content ws (L i) = []

  -- digit n is that of an element of a row: "other bits are zero"
  unfoldable pub used : ℕ → Bool
  unfolding row_words
  used n =
      ltb n (32 * (2 * c.size * row_words)) && ltb (n % (32 * row_words)) (elements c)
      || leb (32 * (2 * c.size * row_words)) n && ltb (n % 32) (suc width)

-- every word has 32 digits
abbrev pub Words : List ℕ → Type 0
Words ws = (k : ℕ) → get_or ws k 0 < 2 ^ 32

-- the words of an estimate: as many as there are to be, and no stray bit
pub record WellFormed (c : Code) (ws : List ℕ) : Type 0 where
  pub long : length ws ≡ estimate_words c
  pub words : Words ws
  pub clean : (n : ℕ) → T (bit ws n) → T (used c n)

-- the sets of ws lie inside those of e
abbrev pub LiesIn : Code → List ℕ → Sets → Type 0
LiesIn c ws e = (r : Row) (v : ℕ) → T (sets c ws r v) → T (e r v)
