-- How values lie in sets: larger sets, more cells, other instances, the opponent's data, and the fields of records.
use Prim.Native.Nat.{ℕ, zero, suc, ◌<◌}
use native.Mathlib.Omega.{arith}
use mathlib.Core.Path.{◌≡◌, refl, sym, subst}
use mathlib.Core.Logic.{inl, inr}
use mathlib.Core.Bool.{Bool, true, false, ◌&&◌}
use mathlib.Core.Option.{some}
use mathlib.Core.List.{List, [], ◌∷◌, ◌++◌}
use lib.ListN.{length, get_or, get_elem?, set}
use lib.Dec.{T, ltb, ltb→lt, eqb}
use lib.IntN.{ℤ, pos, negsuc}
use Rattle.table.specs.declared.Constant.TheVariants as constants
use Rattle.table.specs.Words.{literals, constant_number}
use Rattle.table.specs.Code.{Code}
use Rattle.calculus.specs.Constraint.{B, Sets}
use Rattle.calculus.specs.Elements as E
use Rattle.calculus.specs.Elements.{constant_element}
use Rattle.calculus.specs.Values.{Atom, constant, number, text, named, known, datum, data_fields, plain, plain_fields}
use Rattle.calculus.specs.Values.{Value, atom, function, fields, cell, Environment, closed, bound, Fields, empty, field}
use Rattle.calculus.specs.Values.{look, get_field, delete_field}
use Rattle.calculus.proofs.Digits.{T_and, T-fst, T-snd}
use Rattle.calculus.proofs.Guarantee.Relation.{Sub, sign_of, string_element, text_element, element, In, Bound, FieldsIn, Found, Cells}

pub both : (a b : Bool) → T (a && b) → T a × T b
both a b h = (T-fst a b h, T-snd a b h)

module _ (c : Code) (e : Sets) (h : ℕ) (ty : List ℕ) where
  pub mono : (v : Value) (S U : ℕ → Bool) → Sub S U → In c e h ty v S → In c e h ty v U
  mono (atom a) S U s i = (i.0, s _ i.1)
  mono (function f vs) S U s i = (i.0, i.1, i.2, s _ i.3, i.4)
  mono (fields r) S U s (inl i) = inl (i.0, s _ i.1)
  mono (fields r) S U s (inr i) = inr (i.0, i.1, s _ i.2, i.3)
  mono (cell j) S U s i = (i.0, i.1, s _ i.2, i.3)

  pub mono-fields : (r : Fields) (S U : ℕ → Bool) → Sub S U → FieldsIn c e h ty r S → FieldsIn c e h ty r U
  mono-fields empty S U s i = tt
  mono-fields (field k v r) S U s i = (mono v S U s i.0, mono-fields r S U s i.1)

-- ---- one cell more

pub get-append : (xs ys : List ℕ) (i q : ℕ) → get_elem? xs i ≡ some q → get_elem? (xs ++ ys) i ≡ some q
get-append [] ys i q g = cc
get-append (x ∷ xs) ys zero q g = g
get-append (x ∷ xs) ys (suc i) q g = get-append xs ys i q g

module _ (c : Code) (e : Sets) (h : ℕ) (ty more : List ℕ) where
  mutual
    pub weaken : (v : Value) (S : ℕ → Bool) → In c e h ty v S → In c e h (ty ++ more) v S
    weaken (atom a) S i = i
    weaken (function f vs) S i = (i.0, i.1, i.2, i.3, weaken-bound vs (c.scope f) i.4)
    weaken (fields r) S (inl i) = inl i
    weaken (fields r) S (inr i) = inr (i.0, i.1, i.2, weaken-fields r (e (B i.0)) i.3)
    weaken (cell j) S i = (i.0, i.1, i.2, get-append ty more j i.0 i.3)

    pub weaken-bound : (vs : Environment) (s : List ℕ) → Bound c e h ty vs s → Bound c e h (ty ++ more) vs s
    weaken-bound closed [] b = tt
    weaken-bound closed (q ∷ s) b = b
    weaken-bound (bound v vs) [] b = b
    weaken-bound (bound v vs) (q ∷ s) b = (weaken v (e (B q)) b.0, weaken-bound vs s b.1)

    pub weaken-fields : (r : Fields) (S : ℕ → Bool) → FieldsIn c e h ty r S → FieldsIn c e h (ty ++ more) r S
    weaken-fields empty S i = tt
    weaken-fields (field k v r) S i = (weaken v S i.0, weaken-fields r S i.1)

-- ---- plain values keep their element in any instance

module _ (c : Code) (e : Sets) (h : ℕ) (ty : List ℕ) (g : ℕ) (uy : List ℕ) where
  mutual
    unfolding plain

    pub moved : (v : Value) (S : ℕ → Bool) → T (plain v) → In c e h ty v S → In c e g uy v S
    moved (atom a) S p i = i
    moved (function f vs) S p i = absurd p
    moved (fields r) S p (inl i) = inl i
    moved (fields r) S p (inr i) = inr (i.0, i.1, i.2, moved-fields r (e (B i.0)) p i.3)
    moved (cell j) S p i = absurd p

    pub moved-fields : (r : Fields) (S : ℕ → Bool) → T (plain_fields r) → FieldsIn c e h ty r S → FieldsIn c e g uy r S
    moved-fields empty S p i = tt
    moved-fields (field k v r) S p i =
        (moved v S (both (plain v) (plain_fields r) p).0 i.0, moved-fields r S (both (plain v) (plain_fields r) p).1 i.1)

-- ---- the opponent's data

below-text : (n : ℕ) → text_element n < 32
below-text n = go (ltb n literals) (ltb→lt n literals)
  where
    go : (t : Bool) → (T t → n < literals) → string_element t n < 32
    go true f = omega (arith, f tt)
    go false f = omega arith

below-sign : (z : ℤ) → sign_of z < 32
below-sign (pos zero) = omega arith
below-sign (pos (suc n)) = omega arith
below-sign (negsuc n) = omega arith

pub below : (c : Code) (a : Atom) → T (known a c.names) → element a < E.plain c
unfolding known constant_element constant_number
below c (constant constants.Undefined) k = omega arith
below c (constant constants.Unit) k = omega arith
below c (constant constants.True) k = omega arith
below c (constant constants.False) k = omega arith
below c (number z) k = omega (arith, below-sign z)
below c (text n) k = omega (arith, below-text n)
below c (named n) k = omega (arith, ltb→lt n c.names k)

module _ (c : Code) (e : Sets) (h : ℕ) (ty : List ℕ) (S : ℕ → Bool) (all : (x : ℕ) → x < E.plain c → T (S x)) where
  pub datum-in : (v : Value) → T (datum v c.names) → In c e h ty v S
  unfolding datum
  datum-in (atom a) d = (d, all (element a) (below c a d))
  datum-in (function f vs) d = absurd d
  datum-in (fields r) d = inl (d, all E.opponent_record (omega arith))
  datum-in (cell i) d = absurd d

  pub data-in : (r : Fields) → T (data_fields r c.names) → FieldsIn c e h ty r S
  unfolding datum
  data-in empty d = tt
  data-in (field k v r) d =
      (datum-in v (both (datum v c.names) (data_fields r c.names) d).0, data-in r (both (datum v c.names) (data_fields r c.names) d).1)

-- ---- fields

module _ (c : Code) (e : Sets) (h : ℕ) (ty : List ℕ) where
  pub get_in : (r : Fields) (k : ℕ) (S U : ℕ → Bool) → Sub S U → T (U E.undefined) → FieldsIn c e h ty r S → In c e h ty (get_field r k) U
  unfolding get_field known constant_element constant_number
  get_in empty k S U s u i = (tt, u)
  get_in (field j v r) k S U s u i = go (eqb j k) (get_in r k S U s u i.1)
    where
      go : (t : Bool) → In c e h ty (get_field r k) U → In c e h ty (elim t [ true ↦ v | false ↦ get_field r k ]) U
      go true g = mono c e h ty v S U s i.0
      go false g = g

  pub delete-in : (r : Fields) (k : ℕ) (S : ℕ → Bool) → FieldsIn c e h ty r S → FieldsIn c e h ty (delete_field r k) S
  unfolding delete_field
  delete-in empty k S i = tt
  delete-in (field j v r) k S i = go (eqb j k) (delete-in r k S i.1)
    where
      go : (t : Bool) → FieldsIn c e h ty (delete_field r k) S
          → FieldsIn c e h ty (elim t [ true ↦ delete_field r k | false ↦ field j v (delete_field r k) ]) S
      go true g = g
      go false g = (i.0, g)

pub get-data : (r : Fields) (k n : ℕ) → T (data_fields r n) → T (datum (get_field r k) n)
unfolding get_field datum known
get-data empty k n d = tt
get-data (field j v r) k n d = go (eqb j k) (get-data r k n (both (datum v n) (data_fields r n) d).1)
  where
    go : (t : Bool) → T (datum (get_field r k) n) → T (datum (elim t [ true ↦ v | false ↦ get_field r k ]) n)
    go true g = (both (datum v n) (data_fields r n) d).0
    go false g = g

pub delete-data : (r : Fields) (k n : ℕ) → T (data_fields r n) → T (data_fields (delete_field r k) n)
unfolding delete_field datum
delete-data empty k n d = tt
delete-data (field j v r) k n d = go (eqb j k) (delete-data r k n (both (datum v n) (data_fields r n) d).1)
  where
    go : (t : Bool) → T (data_fields (delete_field r k) n)
        → T (data_fields (elim t [ true ↦ delete_field r k | false ↦ field j v (delete_field r k) ]) n)
    go true g = g
    go false g = T_and (datum v n) (data_fields (delete_field r k) n) (both (datum v n) (data_fields r n) d).0 g

-- ---- variables and cells

same_some : (p q : ℕ) → some p ≡ some q → p ≡ q
same_some p q g = cc

module _ (c : Code) (e : Sets) (h : ℕ) (ty : List ℕ) where
  pub look_in : (vs : Environment) (s : List ℕ) (n : ℕ) → Bound c e h ty vs s → Found c e h ty (look vs n) (e (B (get_or s n 0)))
  unfolding look
  look_in closed s n b = tt
  look_in (bound v vs) [] n b = absurd b
  look_in (bound v vs) (q ∷ s) zero b = b.0
  look_in (bound v vs) (q ∷ s) (suc n) b = look_in vs s n b.1

  pub read-in : (cs : List Value) (qs : List ℕ) (i q : ℕ) → get_elem? qs i ≡ some q → Cells c e h ty cs qs
      → Found c e h ty (get_elem? cs i) (e (B q))
  read-in [] qs i q g k = tt
  read-in (v ∷ cs) [] i q g k = absurd k
  read-in (v ∷ cs) (p ∷ qs) zero q g k = subst (λ (x : ℕ). In c e h ty v (e (B x))) (same_some p q g) k.0
  read-in (v ∷ cs) (p ∷ qs) (suc i) q g k = read-in cs qs i q g k.1

  pub write-in : (cs : List Value) (qs : List ℕ) (i q : ℕ) (w : Value) → get_elem? qs i ≡ some q → In c e h ty w (e (B q))
      → Cells c e h ty cs qs → Cells c e h ty (set cs i w) qs
  write-in [] qs i q w g j k = k
  write-in (v ∷ cs) [] i q w g j k = absurd k
  write-in (v ∷ cs) (p ∷ qs) zero q w g j k = (subst (λ (x : ℕ). In c e h ty w (e (B x))) (sym (same_some p q g)) j, k.1)
  write-in (v ∷ cs) (p ∷ qs) (suc i) q w g j k = (k.0, write-in cs qs i q w g j k.1)

  pub append-in : (cs : List Value) (qs : List ℕ) (v : Value) (q : ℕ) → In c e h ty v (e (B q)) → Cells c e h ty cs qs
      → Cells c e h ty (cs ++ (v ∷ [])) (qs ++ (q ∷ []))
  append-in [] [] v q i k = (i, tt)
  append-in [] (p ∷ qs) v q i k = absurd k
  append-in (u ∷ cs) [] v q i k = absurd k
  append-in (u ∷ cs) (p ∷ qs) v q i k = (k.0, append-in cs qs v q i k.1)

  pub last-at : (cs : List Value) (qs : List ℕ) (q : ℕ) → Cells c e h ty cs qs → get_elem? (qs ++ (q ∷ [])) (length cs) ≡ some q
  last-at [] [] q k = refl
  last-at [] (p ∷ qs) q k = absurd k
  last-at (u ∷ cs) [] q k = absurd k
  last-at (u ∷ cs) (p ∷ qs) q k = last-at cs qs q k.1

pub weaken-cells : (c : Code) (e : Sets) (h : ℕ) (ty more : List ℕ) (cs : List Value) (qs : List ℕ) → Cells c e h ty cs qs
    → Cells c e h (ty ++ more) cs qs
weaken-cells c e h ty more [] [] k = tt
weaken-cells c e h ty more [] (q ∷ qs) k = k
weaken-cells c e h ty more (v ∷ cs) [] k = k
weaken-cells c e h ty more (v ∷ cs) (q ∷ qs) k =
    (weaken c e h ty more v (e (B q)) k.0, weaken-cells c e h ty more cs qs k.1)
