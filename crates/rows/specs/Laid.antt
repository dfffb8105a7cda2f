-- The layout of an estimate as the code holds it.
use Rattle.std.specs.Prelude.{ℕ, ◌+◌, ◌*◌, ◌≤◌, ◌≡◌, List, length}
use Rattle.table.specs.Code.{Code}
use Rattle.calculus.specs.Elements.{plain}
use Rattle.calculus.specs.Layout.{row_words}
use Rattle.rows.specs.declared.layout.Layout.{Layout}

-- l is the layout of the code c
pub record LaidOut (c : Code) (l : Layout) : Type 0 where
  pub size : c.size ≡ l.size
  pub row : row_words c ≡ l.row
  pub lead : plain c ≡ 32 * l.lead

-- the words of an estimate of this layout
pub record Sized (l : Layout) (est : List ℕ) : Type 0 where
  pub size : l.size ≤ 1024
  pub lead : 1 ≤ l.lead
  pub wide : l.size + 32 * l.lead ≤ 32 * l.row
  pub most : l.row ≤ 36
  pub long : length est ≡ 2 * l.size * l.row + l.size
  pub short : length est ≤ 74752
