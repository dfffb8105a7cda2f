-- Laws of words: a word is its kind and its argument, the rows of the kinds, and words and terms correspond where both are in range.
use mathlib.Core.Path.{◌≡◌, refl, sym, ap, ◌∙◌, subst}
use mathlib.Core.List.{List, [], ◌∷◌}
use mathlib.Core.Bool.{Bool}
use Prim.Native.Nat.{ℕ, zero, suc, ◌+◌, ◌-◌, ◌^◌, ◌≤◌, ◌<◌}
use native.Mathlib.Nat.{le_of_suc-le-suc, not-suc-le-zero, add-zero}
use native.Mathlib.Omega.{arith}
use lib.ListN.{length, get_or}
use Rattle.table.specs.declared.Constant.TheVariants as constants
use Rattle.table.specs.declared.Operation.TheVariants as operations
use Rattle.table.specs.declared.Term.{Term}
use Rattle.table.specs.declared.Term.TheVariants as terms
use Rattle.table.specs.Words.{kind, argument, word_of, first_kind, parts_by_kind, limits_by_kind, parts, limit, constant_number}
use Rattle.table.specs.Words.{operation_number, word, constant_of, operation_of, terms_by_kind, term_of}

-- ---- kind and argument

pub kind-word_of : (k a : ℕ) → a < 2 ^ 24 → kind (word_of k a) ≡ k
kind-word_of k a h = omega arith

pub argument-word_of : (k a : ℕ) → a < 2 ^ 24 → argument (word_of k a) ≡ a
argument-word_of k a h = omega arith

pub word_of-parts : (w : ℕ) → word_of (kind w) (argument w) ≡ w
word_of-parts w = omega arith

pub argument-lt : (w : ℕ) → argument w < 2 ^ 24
argument-lt w = omega arith

-- two words are equal only where kind and argument are
pub word_of-injective : (k l a b : ℕ) → a < 2 ^ 24 → b < 2 ^ 24 → word_of k a ≡ word_of l b → (k ≡ l) × (a ≡ b)
word_of-injective k l a b ha hb e = (omega arith, omega arith)

-- ---- the kinds in order: a fact of the kind, its term, its limit and its parts, proved for each row of the three tables

infixr 40 ◌▸◌
pub data Rows (P : ℕ → Term → ℕ → List Bool → Type 0) : ℕ → List Term → List ℕ → List (List Bool) → Type 0 where
  done : {k : ℕ} → Rows P k [] [] []
  ◌▸◌ : {k : ℕ} {t : Term} {ts : List Term} {l : ℕ} {ls : List ℕ} {b : List Bool} {bs : List (List Bool)}
      → P k t l b → Rows P (suc k) ts ls bs → Rows P k (t ∷ ts) (l ∷ ls) (b ∷ bs)

row : (P : ℕ → Term → ℕ → List Bool → Type 0) (k : ℕ) (ts : List Term) (ls : List ℕ) (bs : List (List Bool)) → Rows P k ts ls bs
    → (j : ℕ) → j < length ts → P (k + j) (get_or ts j terms.Record) (get_or ls j 0) (get_or bs j [])
row P k ts ls bs done j h = absurd (not-suc-le-zero h)
row P k ts ls bs (◌▸◌ {t} {l} {b} p r) zero h = subst (λ (n : ℕ). P n t l b) (sym (add-zero k)) p
row P k ts ls bs (◌▸◌ {ts = ts'} {ls = ls'} {bs = bs'} p r) (suc j) h =
    subst (λ (n : ℕ). P n (get_or ts' j terms.Record) (get_or ls' j 0) (get_or bs' j [])) (let e : suc k + j ≡ k + suc j = omega arith in e)
    (row P (suc k) ts' ls' bs' r j (le_of_suc-le-suc h))

pub by_kind : (P : ℕ → Term → ℕ → List Bool → Type 0) (w : ℕ) → 16 ≤ kind w → kind w ≤ 36
    → Rows P first_kind (terms_by_kind (argument w)) limits_by_kind parts_by_kind → P (kind w) (term_of w) (limit w) (parts w)
unfolding term_of limit parts terms_by_kind
by_kind P w low high rows =
    subst (λ (n : ℕ). P n (term_of w) (limit w) (parts w)) (let e : 16 + (kind w - 16) ≡ kind w = omega arith in e)
    (row P first_kind (terms_by_kind (argument w)) limits_by_kind parts_by_kind rows (kind w - 16) (omega arith))

-- ---- from a word to its term and back

pub constant_number_lem : (a : ℕ) → a < 4 → constant_number (constant_of a) ≡ a
unfolding constant_number constant_of
constant_number_lem zero h = refl
constant_number_lem (suc zero) h = refl
constant_number_lem (suc (suc zero)) h = refl
constant_number_lem (suc (suc (suc zero))) h = refl
constant_number_lem (suc (suc (suc (suc a)))) h = let n : ⊥ = omega arith in absurd n

pub operation-number : (a : ℕ) → a < 3 → operation_number (operation_of a) ≡ a
unfolding operation_number operation_of
operation-number zero h = refl
operation-number (suc zero) h = refl
operation-number (suc (suc zero)) h = refl
operation-number (suc (suc (suc a))) h = let n : ⊥ = omega arith in absurd n

-- the word of a term's row
Worded : ℕ → ℕ → Term → ℕ → List Bool → Type 0
Worded a k t l b = a < l → word t ≡ word_of k a

only_zero : (k a : ℕ) → a < 1 → word_of k 0 ≡ word_of k a
only_zero k a h = omega arith

worded : (a : ℕ) → Rows (Worded a) first_kind (terms_by_kind a) limits_by_kind parts_by_kind
unfolding Worded terms_by_kind limits_by_kind parts_by_kind word
worded a =
    (λ h. ap (word_of 16) (constant_number_lem a h))
    ▸ (λ h. refl)
    ▸ (λ h. refl)
    ▸ (λ h. refl)
    ▸ (λ h. refl)
    ▸ only_zero 21 a
    ▸ only_zero 22 a
    ▸ only_zero 23 a
    ▸ only_zero 24 a
    ▸ only_zero 25 a
    ▸ only_zero 26 a
    ▸ (λ h. ap (word_of 27) (operation-number a h))
    ▸ only_zero 28 a
    ▸ only_zero 29 a
    ▸ only_zero 30 a
    ▸ only_zero 31 a
    ▸ only_zero 32 a
    ▸ only_zero 33 a
    ▸ only_zero 34 a
    ▸ (λ h. refl)
    ▸ (λ h. refl)
    ▸ done

pub word-term_of : (w : ℕ) → 16 ≤ kind w → kind w ≤ 36 → argument w < limit w → word (term_of w) ≡ w
unfolding Worded
word-term_of w low high h = by_kind (Worded (argument w)) w low high (worded (argument w)) h ∙ word_of-parts w

-- the term of a kind and an argument
pub term_of-word_of : (k a : ℕ) → a < 2 ^ 24 → term_of (word_of k a) ≡ get_or (terms_by_kind a) (k - first_kind) terms.Record
unfolding term_of
term_of-word_of k a h = rw (kind-word_of k a h, argument-word_of k a h) refl

-- a term's argument is one of 24 bits
abbrev pub Fits : Term → Type 0
Fits (terms.Constant c) = Unit {0}
Fits (terms.Number n) = n < 2 ^ 24
Fits (terms.Literal n) = n < 2 ^ 24
Fits (terms.Name n) = n < 2 ^ 24
Fits (terms.Variable n) = n < 2 ^ 24
Fits terms.Function = Unit {0}
Fits terms.Apply = Unit {0}
Fits terms.Let = Unit {0}
Fits terms.Sequence = Unit {0}
Fits terms.If = Unit {0}
Fits terms.While = Unit {0}
Fits (terms.Operation o) = Unit {0}
Fits terms.Record = Unit {0}
Fits terms.Get = Unit {0}
Fits terms.Set = Unit {0}
Fits terms.Delete = Unit {0}
Fits terms.Cell = Unit {0}
Fits terms.Read = Unit {0}
Fits terms.Assign = Unit {0}
Fits (terms.Send s) = s.bits < 2 ^ 24
Fits (terms.Exercise s) = s.bits < 2 ^ 24

pub term_of-word : (t : Term) → Fits t → term_of (word t) ≡ t
unfolding word term_of terms_by_kind constant_number constant_of operation_number operation_of
term_of-word (terms.Constant constants.Undefined) h = refl
term_of-word (terms.Constant constants.Unit) h = refl
term_of-word (terms.Constant constants.True) h = refl
term_of-word (terms.Constant constants.False) h = refl
term_of-word (terms.Number n) h = term_of-word_of 17 n h
term_of-word (terms.Literal n) h = term_of-word_of 18 n h
term_of-word (terms.Name n) h = term_of-word_of 19 n h
term_of-word (terms.Variable n) h = term_of-word_of 20 n h
term_of-word terms.Function h = refl
term_of-word terms.Apply h = refl
term_of-word terms.Let h = refl
term_of-word terms.Sequence h = refl
term_of-word terms.If h = refl
term_of-word terms.While h = refl
term_of-word (terms.Operation operations.Add) h = refl
term_of-word (terms.Operation operations.Less) h = refl
term_of-word (terms.Operation operations.Equal) h = refl
term_of-word terms.Record h = refl
term_of-word terms.Get h = refl
term_of-word terms.Set h = refl
term_of-word terms.Delete h = refl
term_of-word terms.Cell h = refl
term_of-word terms.Read h = refl
term_of-word terms.Assign h = refl
term_of-word (terms.Send s) h = term_of-word_of 35 s.bits h
term_of-word (terms.Exercise s) h = term_of-word_of 36 s.bits h
