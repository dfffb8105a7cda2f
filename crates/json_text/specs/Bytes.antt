-- What the productions of the grammar (RFC 8259) are made of: bytes, what follows a production, and repetition.
use Rattle.std.specs.Prelude.{ℕ, zero, suc, Bool, true, false, ◌&&◌, ◌||◌, List, [], ◌∷◌, ◌++◌, eqb, leb, length}

-- the first byte; 256, which is no byte, where there is none
unfoldable pub head : List ℕ → ℕ
head [] = 256
head (b ∷ bs) = b

unfoldable pub tail : List ℕ → List ℕ
tail [] = []
tail (b ∷ bs) = bs

abbrev pub within : ℕ → ℕ → ℕ → Bool
within a e b = leb a b && leb b e

-- the bytes behind a production, or that none of it starts here
pub data Rest : Type 0 where
  nothing : Rest
  rest : List ℕ → Rest

-- one production behind another
unfoldable pub then : Rest → (List ℕ → Rest) → Rest
then nothing k = nothing
then (rest bs) k = k bs

-- one step of a repetition: it fails, goes on, or was the last. `units` are those of a character (section 7), and none otherwise.
pub data Step : Type 0 where
  fails : Step
  goes : (units : List ℕ) (rest : List ℕ) → Step
  ends : (rest : List ℕ) → Step

-- the bytes behind the last of at most n steps
unfoldable pub after_by : (List ℕ → Step) → ℕ → List ℕ → Rest
after_by f zero bs = nothing
after_by f (suc n) bs = elim (f bs) [ fails ↦ nothing | goes us cs ↦ after_by f n cs | ends cs ↦ rest cs ]

-- where each of at most n steps starts
unfoldable pub starts_by : (List ℕ → Step) → ℕ → List ℕ → List (List ℕ)
starts_by f zero bs = []
starts_by f (suc n) bs = bs ∷ elim (f bs) [ fails ↦ [] | goes us cs ↦ starts_by f n cs | ends cs ↦ [] ]

-- the units of at most n steps
unfoldable pub units_by : (List ℕ → Step) → ℕ → List ℕ → List ℕ
units_by f zero bs = []
units_by f (suc n) bs = elim (f bs) [ fails ↦ [] | goes us cs ↦ us ++ units_by f n cs | ends cs ↦ [] ]

-- A step that goes on takes a byte or more, so the number of bytes bounds the steps (proofs/Repetition.antt).
abbrev pub after : (List ℕ → Step) → List ℕ → Rest
after f bs = after_by f (suc (length bs)) bs

abbrev pub starts : (List ℕ → Step) → List ℕ → List (List ℕ)
starts f bs = starts_by f (suc (length bs)) bs

-- white space (section 2): space, tab, line feed, carriage return
abbrev pub is_space : ℕ → Bool
is_space b = (eqb b 0x20 || eqb b 0x09) || (eqb b 0x0a || eqb b 0x0d)

-- the bytes behind the white space at the start
unfoldable pub space : List ℕ → List ℕ
space [] = []
space (b ∷ bs) = elim (is_space b) [ true ↦ space bs | false ↦ b ∷ bs ]
