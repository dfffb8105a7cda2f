-- Rows by their numbers, and the elements of masks: what is made by a word, and back.
use Prim.Native.Nat.{ℕ, ◌+◌, ◌-◌, ◌*◌, ◌%◌, ◌≤◌, ◌<◌}
use mathlib.Core.Path.{◌≡◌, ap}
use mathlib.Core.Bool.{Bool, ◌&&◌}
use mathlib.Core.Logic.{◌⊎◌, inl, inr, ⊎_elim}
use native.Mathlib.Decide.{dec_lt}
use native.Mathlib.Nat.{add-sub_cancel_left}
use native.Mathlib.Omega.{arith}
use borrow.Author.Tests.{eq-eqb, ne_eqb}
use lib.Dec.{T, eqb, leb, eqb→eq, leb→le, le→leb}
use Rattle.table.specs.Code.{Code, Linked}
use Rattle.calculus.specs.Elements.{plain, made, opponent_record, Making, nothing, is_record, is_cell, makes, making, any_record}
use Rattle.calculus.specs.Constraint.{C, B}
use Rattle.calculus.proofs.Digits.{T-or, T-or-right, T_and, T-fst, T-snd}
use Rattle.rows.specs.Mask.{made_as}
use Rattle.clauses.specs.Asks.{row_at}

pub row-C : (i : ℕ) → row_at (2 * i) ≡ C i
unfolding row_at
row-C i = rw (eq-eqb (2 * i % 2) 0 (omega arith), row_at) (ap C (omega arith))

pub row-B : (i : ℕ) → row_at (2 * i + 1) ≡ B i
unfolding row_at
row-B i = rw (ne_eqb ((2 * i + 1) % 2) 0 (λ z. omega arith), row_at) (ap B (omega arith))

module _ (c : Code) (k : Linked c) where
  -- the word that makes an element
  pub record MadeBy (m : Making → Bool) (v : ℕ) : Type 0 where
    pub word : ℕ
    pub inside : word < c.size
    pub makes-it : T (m (makes (c.node word)))
    pub element : v ≡ made c word

  made_by : (m : Making → Bool) → (T (m nothing) → ⊥) → (v : ℕ) → T (made_as c m v) → MadeBy m v
  unfolding making makes
  made_by m z v t = go (dec_lt (v - plain c) c.size)
    where
      low : plain c ≤ v
      low = leb→le (plain c) v (T-fst (leb (plain c) v) (m (making c v)) t)

      here : T (m (makes (c.node (v - plain c))))
      here = T-snd (leb (plain c) v) (m (making c v)) t

      go : Dec (v - plain c < c.size) → MadeBy m v
      go (yes i) = record { word = v - plain c; inside = i; makes-it = here; element = omega (arith, low) }
      go (no i) = absurd (z (rw (k.outside (v - plain c) (omega arith)) at here))

  pub cell-by : (v : ℕ) → T (made_as c is_cell v) → MadeBy is_cell v
  unfolding is_cell
  cell-by = made_by is_cell (λ t. t)

  -- 7, or made as a record
  pub record-by : (v : ℕ) → T (any_record c v) → (v ≡ opponent_record) ⊎ MadeBy is_record v
  unfolding any_record is_record
  record-by v t =
      ⊎_elim (λ a. inl (eqb→eq v opponent_record a)) (λ b. inr (made_by is_record (λ z. z) v b))
      (T-or (eqb v opponent_record) (leb (plain c) v && is_record (making c v)) t)

  -- what a word makes is of its sort
  pub is_made_lem : (m : Making → Bool) (q : ℕ) → T (m (makes (c.node q))) → T (made_as c m (made c q))
  unfolding making
  is_made_lem m q t =
      T_and (leb (plain c) (made c q)) (m (making c (made c q))) (le→leb (plain c) (made c q) (omega arith)) (rw add-sub_cancel_left t)

  pub is-record : (q : ℕ) → T (is_record (makes (c.node q))) → T (any_record c (made c q))
  unfolding any_record
  is-record q t = T-or-right (eqb (made c q) opponent_record) (leb (plain c) (made c q) && is_record (making c (made c q))) (is_made_lem is_record q t)
