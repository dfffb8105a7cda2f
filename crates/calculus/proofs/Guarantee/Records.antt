-- What get, delete and set give on a record that lies in a set: the opponent's, or one made at a word.
use Prim.Native.Nat.{ℕ, ◌<◌}
use native.Mathlib.Omega.{arith}
use mathlib.Core.Path.{◌≡◌, sym, subst}
use mathlib.Core.Logic.{inl, inr}
use mathlib.Core.Bool.{Bool}
use mathlib.Core.List.{List}
use lib.Dec.{T}
use Rattle.table.specs.Code.{Code, Node, Two}
use Rattle.calculus.specs.Constraint.{C, B, Sets, Obeys}
use Rattle.calculus.specs.Elements as E
use Rattle.calculus.specs.Elements.{is_record, makes, any_record}
use Rattle.calculus.specs.Rules.{flow, two_rule}
use Rattle.calculus.specs.Values.{Value, fields, Fields, get_field, set_field, delete_field}
use Rattle.calculus.proofs.Ranges.{below_in}
use Rattle.calculus.proofs.Guarantee.Relation.{text_element, In}
use Rattle.calculus.proofs.Guarantee.Values.{mono, mono-fields, datum-in, data-in, get_in, delete-in, get-data, delete-data}
use Rattle.calculus.proofs.Guarantee.Elements.{text-string, made-record}

-- Of an instance of the block h with cells made at ty, where get, delete or set stands at the word p.
module _ (c : Code) (e : Sets) (h : ℕ) (ty : List ℕ) (p : ℕ) where
  abbrev Has : Value → (ℕ → Bool) → Type 0
  Has v S = In c e h ty v S

  -- each record of a part, read at any field, gives what p holds
  pub get-good : (a d k : ℕ) (r : Fields) → Obeys e (two_rule c p Two.get a d) → Has (fields r) (e (C a)) → T (e (C d) (text_element k))
      → Has (get_field r k) (e (C p))
  unfolding two_rule
  get-good a d k r o (inl i) t =
      let g = (o (text_element k) (text-string k) t).1 i.1 in
      datum-in c e h ty (e (C p)) (λ x l. g x (below_in l)) (get_field r k) (get-data r k c.names i.0)
  get-good a d k r o (inr i) t =
      let g = (o (text_element k) (text-string k) t).0 i.0 (below_in i.1.0) i.1.1 i.2 in
      get_in c e h ty r k (e (B i.0)) (e (C p)) g.0 g.1 i.3

  pub delete-good : (a d k : ℕ) (r : Fields) → Obeys e (two_rule c p Two.delete a d) → Has (fields r) (e (C a))
      → T (e (C d) (text_element k))
      → Has (fields (delete_field r k)) (e (C p))
  unfolding two_rule any_record
  delete-good a d k r o (inl i) t =
      inl (
        delete-data r k c.names i.0,
        o (text_element k) (text-string k) t E.opponent_record (below_in (omega arith)) tt i.1,
      )
  delete-good a d k r o (inr i) t =
      inr (
        i.0,
        i.1,
        o (text_element k) (text-string k) t (E.made c i.0) (below_in (omega (arith, i.1.0)))
            (made-record c i.0 i.1.1)
            i.2,
        delete-in c e h ty r k (e (B i.0)) i.3,
      )

  -- the new record holds the value and what the old one held
  pub set-good : (a b d k : ℕ) (r : Fields) (u : Value) → p < c.size → c.node p ≡ Node.update a b d → Obeys e (flow c p (Node.update a b d))
      → Has (fields r) (e (C a))
      → T (e (C b) (text_element k))
      → Has u (e (C d))
      → Has (fields (set_field r k u)) (e (C p))
  unfolding flow set_field is_record makes any_record
  set-good a b d k r u l q o (inl i) t j =
      let f = o.1.1.1 (text_element k) (text-string k) t in
      let g = f.0 E.opponent_record tt i.1 in
      inr (
        p,
        (l, subst (λ (n : Node). T (is_record (makes n))) (sym q) tt),
        g.0,
        (
          mono c e h ty u (e (C d)) (e (B p)) g.1 j,
          data-in c e h ty (e (B p)) (λ x l. f.1.1 i.1 x (below_in l)) (delete_field r k) (delete-data r k c.names i.0),
        ),
      )
  set-good a b d k r u l q o (inr i) t j =
      let f = o.1.1.1 (text_element k) (text-string k) t in
      let g = f.0 (E.made c i.0) (made-record c i.0 i.1.1) i.2 in
      inr (
        p,
        (l, subst (λ (n : Node). T (is_record (makes n))) (sym q) tt),
        g.0,
        (
          mono c e h ty u (e (C d)) (e (B p)) g.1 j,
          delete-in c e h ty r k (e (B p))
              (mono-fields c e h ty r (e (B i.0)) (e (B p)) (f.1.0 i.0 (below_in i.1.0) i.1.1 i.2) i.3),
        ),
      )
