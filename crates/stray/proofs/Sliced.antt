-- The words of an estimate of an accepted table: how many there are, where its rows stand, and when they have no stray digit.
use Prim.Native.Nat.{ℕ, ◌+◌, ◌-◌, ◌*◌, ◌^◌, ◌≤◌, ◌<◌}
use mathlib.Core.Path.{◌≡◌, sym, ap, ap₂, ◌∙◌, subst}
use mathlib.Core.Bool.{Bool, true, false, not}
use mathlib.Core.List.{List}
use native.Mathlib.Nat.{mul-le-mul_right}
use native.Mathlib.Omega.{arith}
use lib.ListN.{length, get_or}
use Rattle.table.specs.Code.{Code, code}
use Rattle.calculus.specs.Elements.{elements}
use Rattle.calculus.specs.Layout.{row_words}
use Rattle.rows.specs.declared.layout.Layout.{Layout}
use Rattle.calls.proofs.Bounds.{size_small, row_small, words_are, words-bound}
use Rattle.stray.specs.declared.Holding.{Holding}
use Rattle.stray.specs.declared.Holding.TheVariants as holdings
use Rattle.stray.specs.Stray.{of_block, holding, stray}
use Rattle.stray.specs.First.{First}
use Rattle.stray.specs.Allowed.{Allowed, inside, clean, Slice, Rows}
use Rattle.stray.proofs.Firsts.{first-same}
use Rattle.stray.proofs.Words.{row-clean, flags-clean, flags-stray}

module _ (ws est : List ℕ) (l : Layout) (s : Slice ws est l) where
  abbrev c : Code
  c = code ws

  pub most-words : l.size ≤ 1024
  most-words = size_small ws s.readable l s.laid

  pub most-rows : l.row < 64
  most-rows = row_small ws s.readable l s.laid

  pub words_long : length est ≡ 2 * l.size * l.row + l.size
  words_long = s.long ∙ words_are ws s.readable l s.laid

  pub words-few : length est ≤ 132096
  words-few = omega (arith, s.long, words-bound ws s.readable)

  pub table-long : length ws ≡ l.size
  unfolding code
  table-long = s.laid.size

  pub row_in : (r : ℕ) → r < 2 * l.size → r * l.row + l.row ≤ 2 * l.size * l.row
  row_in r h = omega (arith, mul-le-mul_right l.row h)

  -- a row tested against what may stand in it
  module _ (low : (k : ℕ) → get_or est k 0 < 2 ^ 32) (r : ℕ) (h : r < 2 * l.size) where
    pub row-tested : (m : List ℕ) → l.row ≤ length m → Allowed c (holding c r) (elements c) m → {k : ℕ}
        → First (inside est m (r * l.row)) (r * l.row) (r * l.row + l.row) k → First (clean c est) (r * l.row) (r * l.row + l.row) k
    row-tested m n a f = first-same (λ k i j. agrees k i j) f
      where
        agrees : (k : ℕ) → r * l.row ≤ k → k < r * l.row + l.row → inside est m (r * l.row) k ≡ clean c est k
        agrees k i j =
            let z : r * row_words c ≡ r * l.row = ap (λ (x : ℕ). r * x) s.laid.row in
            let e : r * row_words c + (k - r * l.row) ≡ k = omega arith in
            sym (ap (λ (x : ℕ). not (stray c x (get_or est k 0))) (sym e)
            ∙ row-clean c r (k - r * l.row) (omega (arith, s.laid.size)) (omega (arith, s.laid.row)) (get_or est k 0) m (low k) (omega (arith, s.laid.row)) a)

    module _ (ts bs : List ℕ) (d : Rows c l ts bs) where
      pub blocks-tested : of_block c r ≡ true → {k : ℕ} → First (inside est bs (r * l.row)) (r * l.row) (r * l.row + l.row) k
          → First (clean c est) (r * l.row) (r * l.row + l.row) k
      unfolding holding
      blocks-tested e f =
          row-tested bs d.wide
          (subst (λ (x : Holding). Allowed c x (elements c) bs) (ap (λ (b : Bool). elim b [ true ↦ holdings.Blocks | false ↦ holdings.Things ]) (sym e)) d.blocks) f

      pub things-tested : of_block c r ≡ false → {k : ℕ} → First (inside est ts (r * l.row)) (r * l.row) (r * l.row + l.row) k
          → First (clean c est) (r * l.row) (r * l.row + l.row) k
      unfolding holding
      things-tested e f =
          row-tested ts d.long
          (subst (λ (x : Holding). Allowed c x (elements c) ts) (ap (λ (b : Bool). elim b [ true ↦ holdings.Blocks | false ↦ holdings.Things ]) (sym e)) d.things) f

  -- a word of permissions and flags
  module _ (low : (k : ℕ) → get_or est k 0 < 2 ^ 32) (k : ℕ) (h : 2 * l.size * l.row ≤ k) where
    past : 2 * c.size * row_words c ≤ k
    past = let z : 2 * c.size * row_words c ≡ 2 * l.size * l.row = ap₂ (λ (n r : ℕ). 2 * n * r) s.laid.size s.laid.row in omega arith

    pub flags-pass : get_or est k 0 < 33554432 → clean c est k ≡ true
    flags-pass i = flags-clean c k past (get_or est k 0) (low k) i

    pub flags-fail : 33554432 ≤ get_or est k 0 → clean c est k ≡ false
    flags-fail i = flags-stray c k past (get_or est k 0) (low k) i
