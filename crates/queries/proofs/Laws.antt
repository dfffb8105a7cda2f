-- What the tests on words say of the sets of an estimate.
use Prim.Native.Nat.{ℕ, ◌+◌, ◌*◌, ◌/◌, ◌%◌, ◌≤◌, ◌<◌}
use mathlib.Core.Path.{◌≡◌, refl, sym, ◌∙◌}
use mathlib.Core.Bool.{Bool, true, false, not, ◌&&◌, true≢false, false≢true}
use mathlib.Core.List.{List}
use native.Mathlib.Nat.{mul-le-mul_right}
use native.Mathlib.Omega.{arith}
use lib.Bits.{bit_and}
use lib.Dec.{eqb}
use lib.ListN.{length, get_or, take, drop}
use Rattle.permset.specs.Sets.{member}
use Rattle.table.specs.Code.{Code}
use Rattle.calculus.specs.Elements.{elements, is_string}
use Rattle.calculus.specs.Constraint.{C, L}
use Rattle.calculus.specs.Layout.{base, sets, WellFormed}
use Rattle.calculus.proofs.Folds.{found}
use Rattle.calculus.proofs.RowOperations.{sets-C, sets-B, sets-L}
use Rattle.calculus.proofs.RowRules.{found-masked, found-string}
use Rattle.rows.specs.declared.layout.Layout.{Layout}
use Rattle.rows.specs.Laid.{LaidOut, Sized}
use Rattle.rows.specs.Mask.{Mask}
use Rattle.rows.specs.Rows.{meets}
use Rattle.rows.proofs.Laws.{meets_nonzero}
use Rattle.clauses.specs.Asks.{row_at}
use Rattle.clauses.proofs.Sorts.{row-C}
use Rattle.clauses.proofs.Numbered.{by_number, base-row, content-row, value_row, row_inside}

-- ---- where rows stand

-- the row r of an estimate
pub row_in : {l : Layout} {est : List ℕ} → Sized l est → (r : ℕ) → r < 2 * l.size → r * l.row + l.row ≤ length est
row_in {l} s r h = omega (arith, row_inside l.size l.row r h)

-- the mask m of four
pub mask-in : (n r m : ℕ) → 4 * r ≤ n → m < 4 → m * r + r ≤ n
mask-in n r m h k = omega (arith, mul-le-mul_right r k)

-- the value set of a word
pub value_in : {l : Layout} {est : List ℕ} → Sized l est → (a : ℕ) → a < l.size → 2 * a * l.row + l.row ≤ length est
value_in s a h = row_in s (2 * a) (omega arith)

pub some_words : {l : Layout} {est : List ℕ} → Sized l est → 0 < l.row
some_words s = omega arith

-- ---- elements

module _ (c : Code) (l : Layout) (o : LaidOut c l) (est : List ℕ) where
  pub live-is : (p : ℕ) → p < l.size → member (get_or est (2 * l.size * l.row + p) 0) 24 ≡ sets c est (L p) 0
  unfolding base
  live-is p h = rw (sets-L c p est (omega arith), o.row, o.size)

  pub has-is : (r v : ℕ) → r < 2 * l.size → v < elements c → member (get_or est (r * l.row + v / 32) 0) (v % 32) ≡ sets c est (row_at r) v
  has-is r v h k =
      let word = by_number (λ x. sets c est x v ≡ member (get_or est (base c x + v / 32) 0) (v % 32)) r (λ i e. sets-C c i v est (omega arith) k)
      (λ i e. sets-B c i v est (omega arith) k) in
      rw (word, base-row, o.row)

  module _ (w : WellFormed c est) (r : ℕ) (h : r < 2 * l.size) where
    pub text-is : not (eqb (bit_and (get_or est (r * l.row) 0) 4294967040) 0) ≡ found c est (row_at r) is_string
    text-is = rw (found-string c est w (row_at r) (value_row c r (omega arith)), base-row, o.row)

    pub some_is : (q : ℕ → Bool) (mask : List ℕ) → Mask c q mask → meets mask (take l.row (drop (r * l.row) est)) ≡ found c est (row_at r) q
    some_is q mask m =
        rw (found-masked c est w q mask m.digits (row_at r) (value_row c r (omega arith)), content-row, o.row) (meets_nonzero mask _)

-- of two tests, the second made where the first holds
pub both_true : {x y a b : Bool} → x ≡ true → x ≡ a → y ≡ b → y ≡ a && b
both_true {a = true} t e f = f
both_true {a = false} t e f = absurd (true≢false (sym t ∙ e))

pub first-false : {x a : Bool} (b : Bool) → x ≡ false → x ≡ a → false ≡ a && b
first-false {a = true} b t e = absurd (false≢true (sym t ∙ e))
first-false {a = false} b t e = refl

-- the row of a value set by its number
pub C-found : (c : Code) (est : List ℕ) (a : ℕ) (q : ℕ → Bool) → found c est (row_at (2 * a)) q ≡ found c est (C a) q
C-found c est a q = rw row-C

pub C-sets : (c : Code) (est : List ℕ) (a v : ℕ) → sets c est (row_at (2 * a)) v ≡ sets c est (C a) v
C-sets c est a v = rw row-C
