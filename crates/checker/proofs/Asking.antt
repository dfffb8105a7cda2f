-- What the terms ask, put together from what their tests decide.
use Prim.Native.Nat.{ℕ, ◌+◌, ◌*◌}
use mathlib.Core.Path.{◌≡◌, sym, ap, ◌∙◌, subst}
use mathlib.Core.Logic.{⊎_elim}
use mathlib.Core.Bool.{Bool}
use native.Mathlib.Omega.{arith}
use lib.Dec.{T}
use Rattle.table.specs.Code.{Code, Linked}
use Rattle.calculus.specs.Elements.{made, undefined, opponent_record, is_record, is_cell, any_record}
use Rattle.calculus.specs.Constraint.{C, B, Sets, put, sub, given, some, ◌and◌}
use Rattle.calculus.specs.Rules.{fill, each_made}
use Rattle.calculus.proofs.Ranges.{below_in}
use Rattle.rows.specs.declared.layout.Layout.{Layout}
use Rattle.rows.specs.Laid.{LaidOut}
use Rattle.rows.specs.Mask.{made_as}
use Rattle.clauses.proofs.Sorts.{record-by, cell-by, is_made_lem, is-record}
use Rattle.checker.specs.Decides.{Decides}
use Rattle.checker.proofs.Laws.{put_is, same-rule}

-- ---- things, and what is asked once for all of them

module _ (c : Code) (k : Linked c) {e : Sets} {a p : ℕ} {r : Bool} where
  -- get: where 7 is there undefined is in all plain elements
  pub get-is : Decides e (given (C a) opponent_record (fill c (C p))
      and some (C a) (any_record c) (put (C p) undefined and each_made c is_record (C a) (λ q. sub (B q) (C p)))) r
      → Decides e (each_made c is_record (C a) (λ q. sub (B q) (C p) and put (C p) undefined) and given (C a) opponent_record (fill c (C p))) r
  get-is =
      same-rule
      (λ o. ((λ q m t i. let z = o.1 (made c q) (is-record c k q t) i in (z.1 q m t i, z.0)), o.0))
      (λ o. (
        o.1,
        λ v t i. (
          ⊎_elim (λ z. o.1 (subst (λ (n : ℕ). T (e (C a) n)) z i) 0 (below_in (omega arith)))
              (λ b. (o.0 b.word (below_in b.inside) b.makes-it (subst (λ (n : ℕ). T (e (C a) n)) b.element i)).1) (record-by c k v t),
          λ q m u j. (o.0 q m u j).0,
        ),
      ))

  -- set: a record that is there is one of those that the mask has
  pub set_is : {n : ℕ} → Decides e (given (C a) opponent_record (fill c (B p))
      and some (C a) (any_record c) (put (C p) (made c p) and sub (C n) (B p) and each_made c is_record (C a) (λ q. sub (B q) (B p)))) r
      → Decides e (some (C a) (any_record c) (put (C p) (made c p) and sub (C n) (B p)) and each_made c is_record (C a) (λ q. sub (B q) (B p))
      and given (C a) opponent_record (fill c (B p))) r
  set_is =
      same-rule
      (λ o. ((λ v t i. let z = o.1 v t i in (z.0, z.1.0)), ((λ q m t i. (o.1 (made c q) (is-record c k q t) i).1.1 q m t i), o.0)))
      (λ o. (o.1.1, λ v t i. let z = o.0 v t i in (z.0, (z.1, o.1.0))))

  -- assign: what is in C(p) is asked once
  pub assign-is : {d : ℕ} → Decides e (some (C a) (made_as c is_cell) (sub (C d) (C p)) and each_made c is_cell (C a) (λ q. sub (C d) (B q))) r
      → Decides e (each_made c is_cell (C a) (λ q. sub (C d) (C p) and sub (C d) (B q))) r
  assign-is =
      same-rule
      (λ o q m t i. (o.0 (made c q) (is_made_lem c k is_cell q t) i, o.1 q m t i))
      (λ o. (
        (λ v t i. let b = cell-by c k v t in (o b.word (below_in b.inside) b.makes-it (subst (λ (n : ℕ). T (e (C a) n)) b.element i)).0),
        λ q m t i. (o q m t i).1,
      ))

-- the element that p makes
pub own_is : {c : Code} {l : Layout} → LaidOut c l → {e : Sets} {p : ℕ} {r : Bool} → r ≡ e (C p) (32 * l.lead + p) → Decides e (put (C p) (made c p)) r
own_is o {e} {p} q = put_is (q ∙ ap (λ (x : ℕ). e (C p) (x + p)) (sym o.lead))
