-- The operations against their results on elements: signs for add and less, elements for equal.
use Prim.Native.Nat.{ℕ, zero, suc, ◌<◌, ◌≤◌, ◌+◌, ◌-◌}
use native.Mathlib.Omega.{arith}
use native.Mathlib.Nat.{zero-add, suc-add}
use mathlib.Core.Path.{◌≡◌, refl, subst, ap}
use mathlib.Core.Bool.{Bool, true, false, not, cond, ◌&&◌}
use mathlib.Core.List.{List, [], ◌∷◌, Memᴰ}
use lib.Dec.{T, T_not, not_T, eqb, ltb, eqb→eq, eqb_refl, ltb→lt, lt→ltb, leb-zero, leb-suc-suc, leb-suc-zero}
use lib.IntN.{ℤ, pos, negsuc, sub_ℕ, ◌+ℤ◌}
use lib.Signed.{lt_z}
use Rattle.table.specs.declared.Constant.TheVariants as constants
use Rattle.table.specs.declared.Operation.{Operation}
use Rattle.table.specs.declared.Operation.TheVariants as operations
use Rattle.table.specs.Words.{literals, constant_number}
use Rattle.table.specs.Code.{Code}
use Rattle.calculus.specs.Constraint.{Sets}
use Rattle.calculus.specs.Elements as E
use Rattle.calculus.specs.Elements.{constant_element, is_sign, sign_place, sum_signs, less_signs, by_signs, comparable, is_many}
use Rattle.calculus.specs.Elements.{equal_results, results}
use Rattle.calculus.specs.Values.{Atom, constant, number, text, named, known, truth}
use Rattle.calculus.specs.Values.{on_number, same_number, same, operate}
use Rattle.calculus.proofs.Digits.{T_and}
use Rattle.calculus.proofs.Guarantee.Relation.{sign_of, string_element, text_element, element, In, Found}
use Rattle.calculus.proofs.Guarantee.Values.{below}

abbrev truth_element : Bool → ℕ
truth_element true = E.truth
truth_element false = E.falsehood

-- ---- signs

any_sign : (z : ℤ) → Memᴰ (sign_of z) (E.negative ∷ E.nought ∷ E.positive ∷ [])
any_sign (pos zero) = Memᴰ.tail (Memᴰ.head refl)
any_sign (pos (suc n)) = Memᴰ.tail (Memᴰ.tail (Memᴰ.head refl))
any_sign (negsuc n) = Memᴰ.head refl

any-truth : (t : Bool) → Memᴰ (truth_element t) (E.truth ∷ E.falsehood ∷ [])
any-truth true = Memᴰ.head refl
any-truth false = Memᴰ.tail (Memᴰ.head refl)

zero-less : (n : ℕ) → ltb zero (suc n) ≡ true
zero-less n = rw (leb-suc-suc zero n, leb-zero n)

sum-sign : (y z : ℤ) → Memᴰ (sign_of (y +ℤ z)) (by_signs sum_signs (sign_of y) (sign_of z))
unfolding by_signs sum_signs is_sign sign_place
sum-sign (pos zero) (pos zero) = Memᴰ.head refl
sum-sign (pos zero) (pos (suc n)) = Memᴰ.head (ap (λ (k : ℕ). sign_of (pos k)) (zero-add (suc n)))
sum-sign (pos zero) (negsuc n) = Memᴰ.head (ap (λ (t : Bool). sign_of (cond t (negsuc (suc n - 1)) (pos (0 - suc n)))) (zero-less n))
sum-sign (pos (suc m)) (pos zero) = Memᴰ.head (ap (λ (k : ℕ). sign_of (pos k)) (suc-add m zero))
sum-sign (pos (suc m)) (pos (suc n)) = Memᴰ.head (ap (λ (k : ℕ). sign_of (pos k)) (suc-add m (suc n)))
sum-sign (pos (suc m)) (negsuc n) = any_sign (sub_ℕ (suc m) (suc n))
sum-sign (negsuc m) (pos zero) = Memᴰ.head (ap (λ (t : Bool). sign_of (cond t (negsuc (suc m - 1)) (pos (0 - suc m)))) (zero-less m))
sum-sign (negsuc m) (pos (suc n)) = any_sign (sub_ℕ (suc n) (suc m))
sum-sign (negsuc m) (negsuc n) = Memᴰ.head refl

less-sign : (y z : ℤ) → Memᴰ (truth_element (lt_z y z)) (by_signs less_signs (sign_of y) (sign_of z))
unfolding by_signs less_signs is_sign sign_place
less-sign (pos zero) (pos zero) = Memᴰ.head refl
less-sign (pos zero) (pos (suc n)) = Memᴰ.head (ap truth_element (zero-less n))
less-sign (pos zero) (negsuc n) = Memᴰ.head refl
less-sign (pos (suc m)) (pos zero) = Memᴰ.head (ap truth_element (leb-suc-zero (suc m)))
less-sign (pos (suc m)) (pos (suc n)) = any-truth (ltb (suc m) (suc n))
less-sign (pos (suc m)) (negsuc n) = Memᴰ.head refl
less-sign (negsuc m) (pos zero) = Memᴰ.head refl
less-sign (negsuc m) (pos (suc n)) = Memᴰ.head refl
less-sign (negsuc m) (negsuc n) = any-truth (ltb n m)

-- ---- equal

-- where the elements of a sort lie
abbrev low : Atom → ℕ
low (constant k) = 0
low (number z) = 4
low (text n) = 8
low (named n) = 32 + n

abbrev high : Atom → ℕ
high (constant k) = 3
high (number z) = 6
high (text n) = 31
high (named n) = 32 + n

bounds : (a : Atom) → (low a ≤ element a) × (element a ≤ high a)
unfolding constant_element constant_number
bounds (constant constants.Undefined) = omega arith
bounds (constant constants.Unit) = omega arith
bounds (constant constants.True) = omega arith
bounds (constant constants.False) = omega arith
bounds (number (pos zero)) = omega arith
bounds (number (pos (suc n))) = omega arith
bounds (number (negsuc n)) = omega arith
bounds (text n) = go (ltb n literals) (ltb→lt n literals)
  where
    go : (t : Bool) → (T t → n < literals)
        → (8 ≤ string_element t n) × (string_element t n ≤ 31)
    go true f = omega (arith, f tt)
    go false f = omega arith
bounds (named n) = omega arith

same_number_lem : (y z : ℤ) → T (same_number y z) → y ≡ z
unfolding same_number
same_number_lem (pos m) (pos n) s = ap pos (eqb→eq m n s)
same_number_lem (pos m) (negsuc n) s = absurd s
same_number_lem (negsuc m) (pos n) s = absurd s
same_number_lem (negsuc m) (negsuc n) s = ap negsuc (eqb→eq m n s)

same-element : (a b : Atom) → T (same a b) → element a ≡ element b
unfolding same constant_element
same-element (constant j) (constant k) s = eqb→eq (constant_number j) (constant_number k) s
same-element (constant j) (number z) s = absurd s
same-element (constant j) (text n) s = absurd s
same-element (constant j) (named n) s = absurd s
same-element (number y) (constant k) s = absurd s
same-element (number y) (number z) s = ap sign_of (same_number_lem y z s)
same-element (number y) (text n) s = absurd s
same-element (number y) (named n) s = absurd s
same-element (text m) (constant k) s = absurd s
same-element (text m) (number z) s = absurd s
same-element (text m) (text n) s = ap text_element (eqb→eq m n s)
same-element (text m) (named n) s = absurd s
same-element (named m) (constant k) s = absurd s
same-element (named m) (number z) s = absurd s
same-element (named m) (text n) s = absurd s
same-element (named m) (named n) s = ap E.name_element (eqb→eq m n s)

apart : (m n : ℕ) → T (not (eqb m n)) → m ≡ n → ⊥
apart m n d q = T_not (eqb m n) d (subst (λ (x : ℕ). T (eqb m x)) q (eqb_refl m))

many-numbers : (y z : ℤ) → T (not (same_number y z)) → sign_of y ≡ sign_of z → T (is_many (sign_of y))
unfolding same_number is_many
many-numbers (pos zero) (pos zero) d q = absurd d
many-numbers (pos zero) (pos (suc n)) d q = absurd (omega arith)
many-numbers (pos zero) (negsuc n) d q = absurd (omega arith)
many-numbers (pos (suc m)) z d q = tt
many-numbers (negsuc m) z d q = tt

many-texts : (m n : ℕ) → T (not (eqb m n)) → text_element m ≡ text_element n → T (is_many (text_element m))
unfolding is_many
many-texts m n d = go (ltb m literals) (ltb n literals)
  where
    go : (s t : Bool) → string_element s m ≡ string_element t n
        → T (is_many (string_element s m))
    go true true q = absurd (apart m n d (omega arith))
    go true false q = absurd (omega arith)
    go false t q = tt

-- different values with one element: the element stands for many
many : (a b : Atom) → T (not (same a b)) → element a ≡ element b → T (is_many (element a))
unfolding same constant_element
many (constant j) (constant k) d q = absurd (apart (constant_number j) (constant_number k) d q)
many (constant j) (number z) d q = absurd (omega (arith, bounds (constant j), bounds (number z)))
many (constant j) (text n) d q = absurd (omega (arith, bounds (constant j), bounds (text n)))
many (constant j) (named n) d q = absurd (omega (arith, bounds (constant j)))
many (number y) (constant k) d q = absurd (omega (arith, bounds (constant k), bounds (number y)))
many (number y) (number z) d q = many-numbers y z d q
many (number y) (text n) d q = absurd (omega (arith, bounds (number y), bounds (text n)))
many (number y) (named n) d q = absurd (omega (arith, bounds (number y)))
many (text m) (constant k) d q = absurd (omega (arith, bounds (constant k), bounds (text m)))
many (text m) (number z) d q = absurd (omega (arith, bounds (number z), bounds (text m)))
many (text m) (text n) d q = many-texts m n d q
many (text m) (named n) d q = absurd (omega (arith, bounds (text m)))
many (named m) (constant k) d q = absurd (omega (arith, bounds (constant k)))
many (named m) (number z) d q = absurd (omega (arith, bounds (number z)))
many (named m) (text n) d q = absurd (omega (arith, bounds (text n)))
many (named m) (named n) d q = absurd (apart m n d (omega arith))

seven : (a : Atom) → element a ≡ E.opponent_record → ⊥
seven (constant k) q = omega (arith, bounds (constant k))
seven (number z) q = omega (arith, bounds (number z))
seven (text n) q = omega (arith, bounds (text n))
seven (named n) q = omega arith

compares : (c : Code) (a : Atom) → T (known a c.names) → T (comparable c (element a))
unfolding comparable
compares c a k =
    T_and (ltb (element a) (E.plain c)) (not (eqb (element a) E.opponent_record)) (lt→ltb (element a) (E.plain c) (below c a k))
    (not_T (eqb (element a) E.opponent_record) (λ t. seven a (eqb→eq (element a) E.opponent_record t)))

equal-element : (c : Code) (a b : Atom) → T (known a c.names) → T (known b c.names)
    → Memᴰ (truth_element (same a b)) (equal_results c (element a) (element b))
unfolding equal_results
equal-element c a b k l =
    go (same a b) (comparable c (element a) && comparable c (element b)) (eqb (element a) (element b)) (is_many (element a))
    (T_and (comparable c (element a)) (comparable c (element b)) (compares c a k) (compares c b l))
    (λ s. subst (λ (x : ℕ). T (eqb (element a) x)) (same-element a b s) (eqb_refl (element a)))
    (λ d q. many a b d (eqb→eq (element a) (element b) q))
  where
    go : (s t q m : Bool) → T t → (T s → T q) → (T (not s) → T q → T m)
        → Memᴰ (truth_element s)
        (elim t [
          | true ↦ elim q [ true ↦ elim m [ true ↦ E.truth ∷ E.falsehood ∷ [] | false ↦ E.truth ∷ [] ] | false ↦ E.falsehood ∷ [] ]
          | false ↦ []
        ])
    go s false q m t f g = absurd t
    go true true true true t f g = any-truth true
    go true true true false t f g = Memᴰ.head refl
    go true true false m t f g = absurd (f tt)
    go false true true true t f g = any-truth false
    go false true true false t f g = absurd (g tt tt)
    go false true false m t f g = Memᴰ.head refl

-- ---- all three

truth-in : (c : Code) (e : Sets) (h : ℕ) (ty : List ℕ) (t : Bool) (S : ℕ → Bool) → T (S (truth_element t)) → In c e h ty (truth t) S
unfolding known constant_element constant_number
truth-in c e h ty true S i = (tt, i)
truth-in c e h ty false S i = (tt, i)

module _ (c : Code) (e : Sets) (h : ℕ) (ty : List ℕ) (S : ℕ → Bool) where
  abbrev Gives : Operation → Atom → Atom → Type 0
  Gives o a b = (z : ℕ) → Memᴰ z (results c o (element a) (element b)) → T (S z)

  -- where S has each element that the operation gives on those of a and b, it has the result
  pub operate-in : (o : Operation) (a b : Atom) → T (known a c.names) → T (known b c.names) → Gives o a b → Found c e h ty (operate o a b) S
  unfolding operate results on_number known
  operate-in operations.Add (constant j) b k l g = tt
  operate-in operations.Add (text m) b k l g = tt
  operate-in operations.Add (named m) b k l g = tt
  operate-in operations.Add (number y) (constant j) k l g = tt
  operate-in operations.Add (number y) (text n) k l g = tt
  operate-in operations.Add (number y) (named n) k l g = tt
  operate-in operations.Add (number y) (number z) k l g = (tt, g (sign_of (y +ℤ z)) (sum-sign y z))
  operate-in operations.Less (constant j) b k l g = tt
  operate-in operations.Less (text m) b k l g = tt
  operate-in operations.Less (named m) b k l g = tt
  operate-in operations.Less (number y) (constant j) k l g = tt
  operate-in operations.Less (number y) (text n) k l g = tt
  operate-in operations.Less (number y) (named n) k l g = tt
  operate-in operations.Less (number y) (number z) k l g = truth-in c e h ty (lt_z y z) S (g (truth_element (lt_z y z)) (less-sign y z))
  operate-in operations.Equal a b k l g = truth-in c e h ty (same a b) S (g (truth_element (same a b)) (equal-element c a b k l))
