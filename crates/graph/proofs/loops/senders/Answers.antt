use Prim.Native.Nat.{ℕ, ◌^◌, ◌≤◌, ◌<◌}
use mathlib.Core.List.{List}
use mathlib.Core.Path.{◌≡◌, refl, sym, ap, ◌∙◌, subst}
use native.Mathlib.Nat.{lt_of_le_of_lt}
use native.Mathlib.Omega.{arith}
use borrow.Author.Rules.{rules}
use lib.Bits.{or_zero_r}
use lib.Count.{count_trailing_zeros}
use lib.Dec.{T}
use lib.ListN.{length, get_or}
use Rattle.permset.specs.Sets.{member, union, difference}
use Rattle.permset.proofs.Digits.{member-single, member-lt}
use Rattle.permset.proofs.Laws.{within-le, difference-within, difference-second}
use Rattle.graph.specs.Search.{senders}
use Rattle.graph.proofs.Digits.{lowest-in, union_assoc}
use Rattle.graph.proofs.Walks.{senders-none, senders-less}
use Rattle.graph.proofs.loops.senders.Goals as goal

-- a turn at the lowest member p of what is left
module _ (rows : List ℕ) (set left : ℕ) (fits : set < 2 ^ 64) (low : set < 2 ^ length rows) (le : left ≤ set) (ne : left ≡ 0 → ⊥) where
  abbrev p : ℕ
  p = count_trailing_zeros 64 left

  here : T (member left p)
  here = lowest-in left (lt_of_le_of_lt le fits) ne

  p-bit : p < 64
  p-bit = member-lt 64 left p (lt_of_le_of_lt le fits) here

  p-row : p < length rows
  p-row = member-lt (length rows) left p (lt_of_le_of_lt le low) here

  falls : difference left (2 ^ p) < left
  falls =
      let w = within-le (difference left (2 ^ p)) left (difference-within left (2 ^ p)) in
      let f : difference left (2 ^ p) ≡ left → ⊥ =
      λ e. difference-second left (2 ^ p) p (subst (λ (s : ℕ). T (member s p)) (sym e) here) (member-single p) in
      omega arith

  keeps : (found rest : ℕ) → rest ≡ difference left (2 ^ p) → union found (senders rows left) ≡ senders rows set
      → union (union found (get_or rows p 0)) (senders rows rest) ≡ senders rows set
  keeps found rest d e =
      ap (λ (s : ℕ). union (union found (get_or rows p 0)) (senders rows s)) d ∙ union_assoc found (get_or rows p 0) (senders rows (difference left (2 ^ p))) ∙ ap (union found) (senders-less rows left p p-row here) ∙ e

pub loop-left-init : goal.loop-left-init
unfolding union
loop-left-init c = (search rules, refl)

pub overflow_cast-p : goal.overflow_cast-p
overflow_cast-p c = omega (arith, p-bit c.args.rows.now c.args.set c.loop-left.left (search rules) (search rules) (search rules) c.loop-left-test.true)

pub offset_bounds-rows-p : goal.offset_bounds-rows-p
offset_bounds-rows-p c = omega (arith, p-bit c.args.rows.now c.args.set c.loop-left.left (search rules) (search rules) (search rules) c.loop-left-test.true)

pub bounds-rows-p : goal.bounds-rows-p
bounds-rows-p c =
    let a = c.args in
    p-row a.rows.now a.set c.loop-left.left (search rules) (search rules) (search rules) c.loop-left-test.true

pub without-left-requires : goal.without-left-requires
without-left-requires c =
    let a = c.args in
    p-bit a.rows.now a.set c.loop-left.left (search rules) (search rules) (search rules) c.loop-left-test.true

pub loop-left-smaller : goal.loop-left-smaller
loop-left-smaller c =
    let a = c.args in
    let l = c.loop-left in
    subst (λ (s : ℕ). s < l.left) (sym c.without-left.ensures)
    (falls a.rows.now a.set l.left (search rules) (search rules) (search rules) c.loop-left-test.true)

pub loop-left-preserved : goal.loop-left-preserved
unfolding union
loop-left-preserved c =
    let a = c.args in
    let l = c.loop-left in
    let t = c.loop-left-test.true in (
      omega (arith, c.without-left.ensures, falls a.rows.now a.set l.left (search rules) (search rules) (search rules) t),
      keeps a.rows.now a.set l.left (search rules) (search rules) (search rules) t l.found c.without-left.result
          c.without-left.ensures l.invariant.1,
    )

pub returns : goal.returns
unfolding union
returns c =
    let a = c.args in
    let l = c.loop-left in
    sym (or_zero_r l.found) ∙ ap (union l.found) (sym (ap (senders a.rows.now) c.loop-left-test.false ∙ senders-none a.rows.now))
    ∙ l.invariant.1
