-- How large an accepted table and its estimate may be.
use Prim.Native.Nat.{ℕ, ◌+◌, ◌*◌, ◌≤◌, ◌<◌}
use mathlib.Core.Path.{◌≡◌, ap₂}
use mathlib.Core.List.{List}
use native.Mathlib.Omega.{arith}
use lib.ListN.{length, get_or}
use Rattle.table.specs.Scan.{accepted, reading}
use Rattle.table.specs.Code.{Code, code}
use Rattle.table.proofs.Limits.{size-le}
use Rattle.table.proofs.Widths.{names-most}
use Rattle.calculus.specs.Constraint.{P}
use Rattle.calculus.specs.Layout.{row_words, estimate_words, base}
use Rattle.rows.specs.declared.layout.Layout.{Layout}
use Rattle.rows.specs.Laid.{LaidOut}
use Rattle.rows.proofs.Sizes.{rows_fit}

module _ (ws : List ℕ) where
  module _ (e : reading ws ≡ accepted) where
    pub row-bound : row_words (code ws) ≤ 36
    unfolding code row_words
    row-bound = omega (arith, size-le ws e, names-most (get_or ws 0 0))

    pub words-bound : estimate_words (code ws) ≤ 132096
    unfolding code estimate_words
    words-bound = omega (arith, size-le ws e, rows_fit (length ws) (row_words (code ws)) (size-le ws e) (omega (arith, row-bound)))

    module _ (l : Layout) (o : LaidOut (code ws) l) where
      pub size_small : l.size ≤ 1024
      unfolding code
      size_small = omega (arith, size-le ws e, o.size)

      pub row_small : l.row < 64
      row_small = omega (arith, row-bound, o.row)

      pub lead-small : l.lead ≤ 36
      unfolding row_words
      lead-small = omega (arith, row-bound, o.lead)

      pub words_are : estimate_words (code ws) ≡ 2 * l.size * l.row + l.size
      unfolding estimate_words
      words_are = ap₂ (λ (n r : ℕ). 2 * n * r + n) o.size o.row

-- the word of P(b)
pub flags-base : (c : Code) (l : Layout) → LaidOut c l → (b : ℕ) → base c (P b) ≡ 2 * l.size * l.row + b
unfolding base
flags-base c l o b = ap₂ (λ (n r : ℕ). 2 * n * r + b) o.size o.row
