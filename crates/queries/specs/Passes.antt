-- Whether the guard of a clause passes on the words of an estimate.
use Rattle.std.specs.Prelude.{ℕ, ◌*◌, ◌<◌, ◌≤◌, ◌≡◌, Bool, true, false, ◌&&◌, List, length, take, drop}
use Rattle.table.specs.Code.{Code}
use Rattle.calculus.specs.Elements.{is_string}
use Rattle.calculus.specs.Constraint.{C}
use Rattle.calculus.specs.Layout.{sets, WellFormed}
use Rattle.calculus.specs.Estimate.{found}
use Rattle.rows.specs.declared.layout.Layout.{Layout}
use Rattle.rows.specs.Laid.{LaidOut}
use Rattle.rows.specs.Mask.{Mask}
use Rattle.clauses.specs.declared.Test.{Test}
use Rattle.clauses.specs.declared.Test.TheVariants as tests
use Rattle.clauses.specs.declared.Guard.{Guard}
use Rattle.clauses.specs.Asks.{row_at, sort_at}

unfoldable pub passes : Code → List ℕ → Test → (d a v : ℕ) → Bool
passes c ws tests.Never d a v = false
passes c ws tests.Free d a v = true
passes c ws tests.Has d a v = sets c ws (C a) v
passes c ws tests.Some d a v = found c ws (C a) (sort_at v c)
passes c ws tests.Text d a v = found c ws (C d) is_string
passes c ws tests.TextHas d a v = found c ws (C d) is_string && sets c ws (C a) v
passes c ws tests.TextSome d a v = found c ws (C d) is_string && found c ws (C a) (sort_at v c)

-- a mask by its number
abbrev pub mask_at : Layout → List ℕ → ℕ → List ℕ
mask_at l masks m = take l.row (drop (m * l.row) masks)

-- the four masks, one after the other
pub record Masked (c : Code) (l : Layout) (masks : List ℕ) : Type 0 where
  pub long : 4 * l.row ≤ length masks
  pub mask : (m : ℕ) → m < 4 → Mask c (sort_at m c) (mask_at l masks m)

-- the tests whose v is a mask
unfoldable pub by_mask : Test → Bool
by_mask tests.Never = false
by_mask tests.Free = false
by_mask tests.Has = false
by_mask tests.Some = true
by_mask tests.Text = false
by_mask tests.TextHas = false
by_mask tests.TextSome = true

-- what a guard looks at: words of the table, and an element among the first 32 or one of the four masks
pub record Looks (l : Layout) (g : Guard) : Type 0 where
  pub first : g.a < l.size
  pub second : g.d < l.size
  pub element : g.v < 32
  pub mask : by_mask g.test ≡ true → g.v < 4

-- x says whether the row r has something of the mask m, whatever the elements of that mask are
abbrev pub FoundBy : Layout → (est masks : List ℕ) → (r m : ℕ) → Bool → Type 0
FoundBy l est masks r m x =
    (c : Code) (q : ℕ → Bool) → LaidOut c l → WellFormed c est → Mask c q (mask_at l masks m) → x ≡ found c est (row_at r) q

-- r says whether the guard passes
abbrev pub PassedBy : Layout → (est masks : List ℕ) → Guard → Bool → Type 0
PassedBy l est masks g r =
    (c : Code) → LaidOut c l → WellFormed c est → Masked c l masks → r ≡ passes c est g.test g.d g.a g.v
