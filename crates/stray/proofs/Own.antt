-- The least estimate has no stray bit.
use Prim.Native.Nat.{ℕ, suc, ◌+◌, ◌-◌, ◌*◌, ◌/◌, ◌%◌, ◌≤◌, ◌<◌}
use mathlib.Core.Path.{◌≡◌, refl, sym, ap, ◌∙◌, subst}
use mathlib.Core.Bool.{Bool, true, false, ◌&&◌, ◌||◌}
use mathlib.Core.Logic.{⊎_elim}
use native.Mathlib.Omega.{arith}
use borrow.Author.Tests.{eq-eqb, ne_eqb, eqb-true}
use lib.Arith.{digits_div, digits_mod}
use lib.Dec.{T, eqb, leb, ltb, lt→ltb, le→leb}
use Rattle.table.specs.Code.{Code, Node, Linked, gap, block, leaf, one, two, bind, while, branch, update}
use Rattle.calculus.specs.Elements.{plain, opponent_record, Making, nothing, a_function, a_record, a_cell, makes, making, is_function, is_record, is_cell}
use Rattle.calculus.specs.Constraint.{Row, C, B, P, L}
use Rattle.calculus.specs.Rules.{is_block}
use Rattle.calculus.specs.Layout.{bit, used, base, shift, span, allowed, place}
use Rattle.calculus.specs.Estimate.{estimate}
use Rattle.calculus.proofs.Digits.{T_and, T-or, T-or-left, T-or-right, T-snd, T_true}
use Rattle.calculus.proofs.Slices.{bit-short}
use Rattle.calculus.proofs.Places.{digits, low, fits-row, span-lt, place-C, place-B, place-P, At, used-place}
use Rattle.calculus.proofs.Rows.{in-sets}
use Rattle.calculus.proofs.Least.{estimate-well}
use Rattle.calculus.proofs.Makers.{is_made, chosen, proper as plain_or_made, sending, full, estimate-full}
use Rattle.stray.specs.declared.Holding.TheVariants as holdings
use Rattle.stray.specs.Stray.{names, of_block, holding, holds, proper}
use Rattle.stray.proofs.Clean.{Proper}

chosen_by : (n : Node) (s t : Bool) → chosen n s t ≡ elim (is_block n) [ true ↦ s | false ↦ t ]
unfolding chosen is_block
chosen_by gap s t = refl
chosen_by (block n p g) s t = refl
chosen_by (leaf l) s t = refl
chosen_by (one o a) s t = refl
chosen_by (two u a b) s t = refl
chosen_by (bind a b) s t = refl
chosen_by (while a b) s t = refl
chosen_by (branch a b d) s t = refl
chosen_by (update a b d) s t = refl

made-named : (m : Making) → T (is_made m) → T (is_function m || (is_record m || is_cell m))
unfolding is_made is_function is_record is_cell
made-named nothing t = t
made-named a_function t = tt
made-named a_record t = tt
made-named a_cell t = tt

module _ (c : Code) where
  things-hold : (v : ℕ) → T (plain_or_made c v) → T (holds c holdings.Things v)
  unfolding plain_or_made holds names making
  things-hold v t =
      ⊎_elim (λ x. T-or-left (ltb v (plain c)) _ x) (λ x. T-or-right (ltb v (plain c)) _ (made-named (makes (c.node (v - plain c))) x))
      (T-or (ltb v (plain c)) (is_made (making c v)) t)

  blocks-hold : (v : ℕ) → T (sending c v) → T (holds c holdings.Blocks v)
  unfolding sending holds names
  blocks-hold v t =
      ⊎_elim
      (λ x. let e : v ≡ 7 = eqb-true v opponent_record (T_true (eqb v opponent_record) x) in
      T-or-left (ltb v (plain c)) _ (lt→ltb v (plain c) (omega arith)))
      (λ x. T-or-right (ltb v (plain c)) _ (T-snd (leb (plain c) v) (is_block (c.node (v - plain c))) x))
      (T-or (eqb v opponent_record) (leb (plain c) v && is_block (c.node (v - plain c))) t)

  -- the value set and the held set of word i
  value-holds : (i v : ℕ) → T (full c (C i) v) → T (holds c (holding c (2 * i)) v)
  unfolding full holding of_block
  value-holds i v t =
      let e : 2 * i % 2 ≡ 0 = omega arith in
      let d : 2 * i / 2 ≡ i = omega arith in
      subst (λ (b : Bool). T (holds c (elim b [ true ↦ holdings.Blocks | false ↦ holdings.Things ]) v))
      (ap (λ (j : ℕ). is_block (c.node j)) (sym d) ∙ ap (λ (b : Bool). b && is_block (c.node (2 * i / 2))) (sym (eq-eqb (2 * i % 2) 0 e)))
      (go (is_block (c.node i)) (subst T (chosen_by (c.node i) (sending c v) (plain_or_made c v)) t))
    where
      go : (b : Bool) → T (elim b [ true ↦ sending c v | false ↦ plain_or_made c v ])
          → T (holds c (elim b [ true ↦ holdings.Blocks | false ↦ holdings.Things ]) v)
      go true x = blocks-hold v x
      go false x = things-hold v x

  held-holds : (i v : ℕ) → T (full c (B i) v) → T (holds c (holding c (suc (2 * i))) v)
  unfolding full holding of_block
  held-holds i v t =
      let n : eqb (suc (2 * i) % 2) 0 ≡ false = ne_eqb (suc (2 * i) % 2) 0 (λ z. omega arith) in
      subst (λ (b : Bool). T (holds c (elim b [ true ↦ holdings.Blocks | false ↦ holdings.Things ]) v))
      (ap (λ (b : Bool). b && is_block (c.node (suc (2 * i) / 2))) (sym n)) (things-hold v t)

  -- a digit of a row, and one of permissions and flags
  row-digit : (n r v : ℕ) → n ≡ r * digits c + v → v < digits c → T (used c n) → T (holds c (holding c r) v) → T (proper c n)
  unfolding proper
  row-digit n r v e h u t =
      let x : n / digits c ≡ r = ap (λ (z : ℕ). z / digits c) e ∙ digits_div r {m = digits c} {r = v} h in
      let y : n % digits c ≡ v = ap (λ (z : ℕ). z % digits c) e ∙ digits_mod r {m = digits c} {r = v} h in
      T_and (used c n) _ u
      (T-or-right (leb (low c) n) _
      (subst (λ (z : ℕ). T (holds c (holding c (n / digits c)) z)) (sym y) (subst (λ (z : ℕ). T (holds c (holding c z) v)) (sym x) t)))

  late-digit : (n : ℕ) → low c ≤ n → T (used c n) → T (proper c n)
  unfolding proper
  late-digit n h u = T_and (used c n) _ u (T-or-left (leb (low c) n) _ (le→leb (low c) n h))

  flag-late : (i v : ℕ) → low c ≤ place c (L i) v
  unfolding place base shift
  flag-late i v = omega arith

  at_row : (r : Row) (v n : ℕ) → n ≡ place c r v → T (allowed c r v) → T (full c r v) → T (used c n) → T (proper c n)
  unfolding span
  at_row (C i) v n e m t u = row-digit n (2 * i) v (e ∙ place-C c i v) (omega (arith, span-lt c (C i) v m, fits-row c)) u (value-holds i v t)
  at_row (B i) v n e m t u = row-digit n (suc (2 * i)) v (e ∙ place-B c i v) (omega (arith, span-lt c (B i) v m, fits-row c)) u (held-holds i v t)
  at_row (P i) v n e m t u = late-digit n (omega (arith, place-P c i v)) u
  at_row (L i) v n e m t u = late-digit n (omega (arith, flag-late i v)) u

  pub own-proper : Linked c → (ρ : ℕ) → Proper c (estimate c ρ)
  own-proper k ρ n t =
      let w = estimate-well c k ρ in
      let u = w.clean n t in
      let a : At c n = used-place c n (rw (← w.long) (bit-short (estimate c ρ) n t)) u in
      at_row a.row a.element n a.here a.may
      (estimate-full c k ρ a.row a.element
      (in-sets c (estimate c ρ) a.row a.element a.may (subst (λ (m : ℕ). T (bit (estimate c ρ) m)) a.here t))) u
