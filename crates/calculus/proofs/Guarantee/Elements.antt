-- The elements of the table's literals, and the one element that stands for a value.
use Prim.Native.Nat.{ℕ, zero, suc, ◌<◌, ◌+◌, ◌-◌, ◌^◌}
use native.Mathlib.Omega.{arith}
use mathlib.Core.Path.{◌≡◌, refl, subst}
use mathlib.Core.Logic.{inl, inr}
use mathlib.Core.Bool.{Bool, true, false, not, cond, ◌&&◌, ◌||◌}
use mathlib.Core.List.{List}
use lib.Dec.{T, eqb, leb, ltb, le→leb, ltb→lt, lt→ltb, eqb-suc-zero}
use lib.IntN.{pos, negsuc}
use Rattle.table.specs.Words.{literals}
use Rattle.table.specs.Code.{Code}
use Rattle.calculus.specs.Constraint.{Sets}
use Rattle.calculus.specs.Elements as E
use Rattle.calculus.specs.Elements.{sign, is_string, any_record, is_function, is_record, is_cell, makes, sendable, making}
use Rattle.calculus.specs.Values.{Value, atom, function, fields, cell, whole, plain}
use Rattle.calculus.proofs.Digits.{T_and, T-or-left, T-or-right}
use Rattle.calculus.proofs.Guarantee.Relation.{sign_of, string_element, text_element, element, In}
use Rattle.calculus.proofs.Guarantee.Values.{below}

-- ---- literals of the table

-- the sign of a number's argument is that of its whole number
pub whole-sign : (n : ℕ) → n < 2 ^ 24 → sign_of (whole n) ≡ sign n
unfolding whole sign
whole-sign zero l = refl
whole-sign (suc n) l =
    go (eqb (suc n) 0) (ltb (suc n) (2 ^ 23)) (ltb (suc n) (2 ^ 24)) (eqb-suc-zero n) (lt→ltb (suc n) (2 ^ 24) l)
  where
    go : (z t u : Bool) → z ≡ false → T u
        → sign_of (elim t [ true ↦ pos (suc n) | false ↦ cond u (negsuc (2 ^ 24 - suc (suc n))) (pos (suc n - 2 ^ 24)) ])
        ≡ (elim z as (λ b. ℕ) [ true ↦ E.nought | false ↦ elim t as (λ b. ℕ) [ true ↦ E.positive | false ↦ E.negative ] ])
    go z true true q k = rw q
    go z false true q k = rw q
    go z t false q k = absurd k

pub text-literal : (n : ℕ) → n < literals → text_element n ≡ E.literal_element n
text-literal n l = go (ltb n literals) (lt→ltb n literals l)
  where
    go : (t : Bool) → T t → string_element t n ≡ E.literal_element n
    go true k = refl
    go false k = absurd k

-- ---- elements

made-back : (c : Code) (q : ℕ) → q ≡ E.made c q - E.plain c
made-back c q = omega arith

-- every text is a string, and every record made at a word a record
pub text-string : (n : ℕ) → T (is_string (text_element n))
unfolding is_string
text-string n = go (ltb n literals) (ltb→lt n literals)
  where
    go : (t : Bool) → (T t → n < literals) → T (leb E.other_string (string_element t n) && ltb (string_element t n) 32)
    go true f =
        T_and (leb E.other_string (9 + n)) (ltb (9 + n) 32) (le→leb E.other_string (9 + n) (omega arith))
        (lt→ltb (9 + n) 32 (omega (arith, f tt)))
    go false f = tt

pub made-record : (c : Code) (q : ℕ) → T (is_record (makes (c.node q))) → T (any_record c (E.made c q))
unfolding any_record making
made-record c q r =
    T-or-right (eqb (E.made c q) E.opponent_record) (leb (E.plain c) (E.made c q) && is_record (making c (E.made c q)))
    (T_and (leb (E.plain c) (E.made c q)) (is_record (making c (E.made c q))) (le→leb (E.plain c) (E.made c q) (omega arith))
    (subst (λ (x : ℕ). T (is_record (makes (c.node x)))) (made-back c q) r))

-- the element that stands for a value of S: wherever it is, the value is
abbrev pub Stands : Code → Sets → ℕ → List ℕ → Value → (ℕ → Bool) → Type 0
Stands c e h ty v S =
    (x : ℕ) × (x < E.elements c) × T (S x) × (T (plain v) → T (sendable c x)) × ((U : ℕ → Bool) → T (U x) → In c e h ty v U)

below-sendable : (c : Code) (x : ℕ) → x < E.plain c → T (sendable c x)
unfolding sendable
below-sendable c x l =
    T-or-left (ltb x (E.plain c)) (not (is_function (making c x) || is_cell (making c x))) (lt→ltb x (E.plain c) l)

neither : (m : E.Making) → T (is_record m) → T (not (is_function m || is_cell m))
unfolding is_record is_function is_cell
neither E.nothing r = absurd r
neither E.a_function r = absurd r
neither E.a_record r = tt
neither E.a_cell r = absurd r

record-sendable : (c : Code) (q : ℕ) → T (is_record (makes (c.node q))) → T (sendable c (E.made c q))
unfolding sendable making
record-sendable c q r =
    T-or-right (ltb (E.made c q) (E.plain c)) (not (is_function (making c (E.made c q)) || is_cell (making c (E.made c q))))
    (subst (λ (x : ℕ). T (not (is_function (makes (c.node x)) || is_cell (makes (c.node x))))) (made-back c q) (neither (makes (c.node q)) r))

pub stands : (c : Code) (e : Sets) (h : ℕ) (ty : List ℕ) (v : Value) (S : ℕ → Bool) → In c e h ty v S → Stands c e h ty v S
unfolding plain
stands c e h ty (atom a) S i =
    (element a, omega (arith, below c a i.0), i.1, λ p. below-sendable c (element a) (below c a i.0), λ U t. (i.0, t))
stands c e h ty (function f vs) S i = (E.made c f, omega (arith, i.0), i.3, λ p. absurd p, λ U t. (i.0, i.1, i.2, t, i.4))
stands c e h ty (fields r) S (inl i) =
    (E.opponent_record, omega arith, i.1, λ p. below-sendable c E.opponent_record (omega arith), λ U t. inl (i.0, t))
stands c e h ty (fields r) S (inr i) =
    (E.made c i.0, omega (arith, i.1.0), i.2, λ p. record-sendable c i.0 i.1.1, λ U t. inr (i.0, i.1, t, i.3))
stands c e h ty (cell j) S i = (E.made c i.0, omega (arith, i.1.0), i.2, λ p. absurd p, λ U t. (i.0, i.1, t, i.3))
