-- Conditional constraints on the sets of an estimate, and what it is to obey one.
use Rattle.std.specs.Prelude.{ℕ, zero, suc, Bool, T}
use mathlib.Core.List.{List, [], ◌∷◌, Memᴰ}

-- the rows of word i: its value set, its held set, its permission set, and its live flag as the set that may hold element 0
pub data Row : Type 0 where
  C B P L : (i : ℕ) → Row

-- an estimate, whatever it is kept in: which elements each row holds
abbrev pub Sets : Type 0
Sets = Row → ℕ → Bool

-- Nothing; element v is in r; all of a is in b; k where v is in r; k where r has an element with the property q; k where the test holds;
-- k at each of a list of numbers; both.
pub data Rule : Type 0 where
  none : Rule
  put : Row → (v : ℕ) → Rule
  sub : (a b : Row) → Rule
  given : Row → (v : ℕ) → Rule → Rule
  some : Row → (q : ℕ → Bool) → Rule → Rule
  only : Bool → Rule → Rule
  each : List ℕ → (ℕ → Rule) → Rule
  ◌and◌ : Rule → Rule → Rule

infixr 40 ◌and◌
abbrev pub Obeys : Sets → Rule → Type 0
Obeys e none = Unit {0}
Obeys e (put r v) = T (e r v)
Obeys e (sub a b) = (v : ℕ) → T (e a v) → T (e b v)
Obeys e (given r v k) = T (e r v) → Obeys e k
Obeys e (some r q k) = (v : ℕ) → T (q v) → T (e r v) → Obeys e k
Obeys e (only t k) = T t → Obeys e k
Obeys e (each xs k) = (i : ℕ) → Memᴰ i xs → Obeys e (k i)
Obeys e (k and l) = Obeys e k × Obeys e l

-- the n numbers from i on
unfoldable pub range : ℕ → ℕ → List ℕ
range zero i = []
range (suc n) i = i ∷ range n (suc i)

-- k at each number below n
abbrev pub every : ℕ → (ℕ → Rule) → Rule
every n k = each (range n 0) k
