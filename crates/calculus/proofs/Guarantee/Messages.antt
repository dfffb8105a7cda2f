-- What is sent of a value: how its fields read, and that it lies where the value does.
use Prim.Native.Nat.{ℕ}
use mathlib.Core.Path.{◌≡◌, refl, sym, ap, ◌∙◌}
use mathlib.Core.Logic.{inl, inr}
use mathlib.Core.Bool.{Bool, true, false}
use mathlib.Core.List.{List}
use lib.Dec.{T, eqb}
use borrow.Author.Tests.{eqb-true}
use Rattle.table.specs.Words.{constant_number}
use Rattle.table.specs.Code.{Code}
use Rattle.calculus.specs.Constraint.{B, Sets}
use Rattle.calculus.specs.Values.{Value, atom, function, fields, cell, Fields, empty, field, undefined, get_field, delete_field}
use Rattle.calculus.specs.Values.{datum, data_fields, same, left_out, kept, sent_as, sent_fields}
use Rattle.calculus.proofs.Digits.{T_and}
use Rattle.calculus.proofs.Guarantee.Relation.{In, FieldsIn}
use Rattle.calculus.proofs.Guarantee.Values.{both, delete-in, delete-data}

-- ---- what a field of it reads

-- a key that was deleted is missing, and every other one reads as before
deleted-same : (fs : Fields) (k : ℕ) → get_field (delete_field fs k) k ≡ undefined
unfolding get_field delete_field
deleted-same empty k = refl
deleted-same (field i v fs) k = go (eqb i k) refl (deleted-same fs k)
  where
    go : (t : Bool) → eqb i k ≡ t → get_field (delete_field fs k) k ≡ undefined
        → get_field (elim t [ true ↦ delete_field fs k | false ↦ field i v (delete_field fs k) ]) k ≡ undefined
    go true e u = u
    go false e u = rw (e, get_field) u

deleted-other : (fs : Fields) (j k : ℕ) → eqb j k ≡ false → get_field (delete_field fs j) k ≡ get_field fs k
unfolding get_field delete_field
deleted-other empty j k n = refl
deleted-other (field i v fs) j k n = go (eqb i j) refl (deleted-other fs j k n)
  where
    go : (t : Bool) → eqb i j ≡ t → get_field (delete_field fs j) k ≡ get_field fs k
        → get_field (elim t [ true ↦ delete_field fs j | false ↦ field i v (delete_field fs j) ]) k ≡ elim (eqb i k) [ true ↦ v | false ↦ get_field fs k ]
    go true e o = o ∙ sym (ap (λ (t : Bool). elim t [ true ↦ v | false ↦ get_field fs k ]) (ap (λ (m : ℕ). eqb m k) (eqb-true i j e) ∙ n))
    go false e o = ap (λ (w : Value). elim (eqb i k) [ true ↦ v | false ↦ w ]) o

-- the field before others reads first
kept-first : (t : Bool) (j k : ℕ) (v : Value) (r : Fields) → eqb j k ≡ true → get_field r k ≡ undefined
    → get_field (kept t j v r) k ≡ elim t [ true ↦ undefined | false ↦ v ]
unfolding kept get_field
kept-first true j k v r e u = u
kept-first false j k v r e u = rw (e, get_field)

kept-later : (t : Bool) (j k : ℕ) (v : Value) (r : Fields) → eqb j k ≡ false → get_field (kept t j v r) k ≡ get_field r k
unfolding kept get_field
kept-later true j k v r n = refl
kept-later false j k v r n = rw (n, get_field)

-- The first field of a key decides: left out it reads undefined, as a missing one does, and else what is sent of it.
pub sent-get : (fs : Fields) (k : ℕ)
    → get_field (sent_fields fs) k ≡ elim (left_out (get_field fs k)) [ true ↦ undefined | false ↦ sent_as (get_field fs k) ]
unfolding get_field sent_as left_out same constant_number
sent-get empty k = refl
sent-get (field j v fs) k = go (eqb j k) refl (sent-get fs k)
  where
    go : (t : Bool) → eqb j k ≡ t
        → get_field (sent_fields fs) k ≡ elim (left_out (get_field fs k)) [ true ↦ undefined | false ↦ sent_as (get_field fs k) ]
        → get_field (kept (left_out v) j (sent_as v) (delete_field (sent_fields fs) j)) k
        ≡ elim (left_out (elim t [ true ↦ v | false ↦ get_field fs k ])) [
          | true ↦ undefined
          | false ↦ sent_as (elim t [ true ↦ v | false ↦ get_field fs k ])
        ]
    go true e i =
        kept-first (left_out v) j k (sent_as v) _ e
        (ap (λ (m : ℕ). get_field (delete_field (sent_fields fs) m) k) (eqb-true j k e) ∙ deleted-same (sent_fields fs) k)
    go false e i = kept-later (left_out v) j k (sent_as v) _ e ∙ deleted-other (sent_fields fs) j k e ∙ i

-- ---- it is data where the value is

kept-data : (t : Bool) (k n : ℕ) (v : Value) (r : Fields) → T (datum v n) → T (data_fields r n) → T (data_fields (kept t k v r) n)
unfolding kept datum
kept-data true k n v r d e = e
kept-data false k n v r d e = T_and (datum v n) (data_fields r n) d e

mutual
  unfolding sent_as datum

  pub sent-datum : (v : Value) (n : ℕ) → T (datum v n) → T (datum (sent_as v) n)
  sent-datum (atom a) n d = d
  sent-datum (function f vs) n d = absurd d
  sent-datum (fields r) n d = sent-data r n d
  sent-datum (cell i) n d = absurd d

  pub sent-data : (r : Fields) (n : ℕ) → T (data_fields r n) → T (data_fields (sent_fields r) n)
  sent-data empty n d = tt
  sent-data (field k v r) n d =
      let p = both (datum v n) (data_fields r n) d in
      kept-data (left_out v) _ n (sent_as v) _ (sent-datum v n p.0) (delete-data (sent_fields r) _ n (sent-data r n p.1))

-- ---- it lies where the value does: no element is asked for

module _ (c : Code) (e : Sets) (h : ℕ) (ty : List ℕ) where
  kept_in : (t : Bool) (k : ℕ) (v : Value) (r : Fields) (S : ℕ → Bool) → In c e h ty v S → FieldsIn c e h ty r S
      → FieldsIn c e h ty (kept t k v r) S
  unfolding kept
  kept_in true k v r S i j = j
  kept_in false k v r S i j = (i, j)

  mutual
    unfolding sent_as

    pub sent-in : (v : Value) (S : ℕ → Bool) → In c e h ty v S → In c e h ty (sent_as v) S
    sent-in (atom a) S i = i
    sent-in (function f vs) S i = i
    sent-in (fields r) S (inl i) = inl (sent-data r c.names i.0, i.1)
    sent-in (fields r) S (inr i) = inr (i.0, i.1, i.2, sent-fields r (e (B i.0)) i.3)
    sent-in (cell j) S i = i

    pub sent-fields : (r : Fields) (S : ℕ → Bool) → FieldsIn c e h ty r S → FieldsIn c e h ty (sent_fields r) S
    sent-fields empty S i = tt
    sent-fields (field k v r) S i =
        kept_in (left_out v) _ (sent_as v) _ S (sent-in v S i.0) (delete-in c e h ty (sent_fields r) _ S (sent-fields r S i.1))
