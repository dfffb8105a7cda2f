-- No word has more than five clauses.
use Prim.Native.Nat.{ℕ, ◌≤◌}
use mathlib.Core.Path.{◌≡◌}
use mathlib.Core.Bool.{Bool, true, false}
use mathlib.Core.List.{List, []}
use native.Mathlib.Omega.{arith}
use lib.Dec.{lit≤}
use lib.ListN.{length, get_or-eq_default}
use Rattle.permset.specs.Sets.{within}
use Rattle.table.specs.declared.Item.{Item}
use Rattle.table.specs.declared.Item.TheVariants as items
use Rattle.table.specs.declared.Term.{Term}
use Rattle.table.specs.declared.Term.TheVariants as terms
use Rattle.table.specs.Item.{item_at}
use Rattle.clauses.specs.declared.Clause.{Clause}
use Rattle.clauses.specs.Clauses.{never, Site, of_value, of_variable, of_permitted, of_exercise, of_apply, of_let, of_sequence, of_if, of_while, of_operation}
use Rattle.clauses.specs.Clauses.{of_get, of_set, of_delete, of_cell, of_read, of_assign, of_send, of_block, of_term, of_item, clauses_at, clause_at}

few-permitted : (p set : ℕ) (t : Bool) → length {A = Clause} (elim t [ true ↦ of_permitted p set | false ↦ [] ]) ≤ 5
unfolding of_permitted
few-permitted p set true = lit≤ tt
few-permitted p set false = lit≤ tt

few-term : (p : ℕ) (t : Term) (s : Site) → length (of_term p t s) ≤ 5
unfolding of_term of_value of_variable of_exercise of_apply of_let of_sequence of_if of_while of_operation of_get of_set of_delete of_cell of_read of_assign of_send
few-term p (terms.Constant k) s = lit≤ tt
few-term p (terms.Number n) s = lit≤ tt
few-term p (terms.Literal n) s = lit≤ tt
few-term p (terms.Name n) s = lit≤ tt
few-term p (terms.Variable n) s = lit≤ tt
few-term p terms.Function s = lit≤ tt
few-term p terms.Apply s = lit≤ tt
few-term p terms.Let s = lit≤ tt
few-term p terms.Sequence s = lit≤ tt
few-term p terms.If s = lit≤ tt
few-term p terms.While s = lit≤ tt
few-term p (terms.Operation o) s = lit≤ tt
few-term p terms.Record s = lit≤ tt
few-term p terms.Get s = lit≤ tt
few-term p terms.Set s = lit≤ tt
few-term p terms.Delete s = lit≤ tt
few-term p terms.Cell s = lit≤ tt
few-term p terms.Read s = lit≤ tt
few-term p terms.Assign s = lit≤ tt
few-term p (terms.Send r) s = lit≤ tt
few-term p (terms.Exercise r) s = few-permitted p r.bits (within r.bits s.perms)

module _ (ws links : List ℕ) (plain p : ℕ) where
  few-item : (x : Item) → length (of_item ws links plain p x) ≤ 5
  unfolding of_item of_block
  few-item items.Gap = lit≤ tt
  few-item (items.Block h) = lit≤ tt
  few-item (items.Term t) = few-term p t _

  -- clause 5 and those after it ask nothing
  pub few-clauses : (k : ℕ) → 5 ≤ k → clause_at ws links plain p k ≡ never
  unfolding clause_at clauses_at
  few-clauses k h = get_or-eq_default (clauses_at ws links plain p) never {n = k} (omega (arith, few-item (item_at ws p)))
