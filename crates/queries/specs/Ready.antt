-- What a solver hands on: an accepted table with its links, its masks and its layout; and a word of it with an estimate.
use Rattle.std.specs.Prelude.{ℕ, ◌≤◌, ◌<◌, ◌≡◌, List, length}
use Rattle.table.specs.Scan.{accepted, reading}
use Rattle.table.specs.Code.{code}
use Rattle.table.specs.Links.{linked}
use Rattle.calculus.specs.Layout.{WellFormed}
use Rattle.rows.specs.declared.layout.Layout.{Layout}
use Rattle.rows.specs.Laid.{LaidOut}
use Rattle.queries.specs.Passes.{Masked}

pub record Ready (ws links masks : List ℕ) (l : Layout) : Type 0 where
  pub readable : reading ws ≡ accepted
  pub slice : List ℕ
  pub room : length ws ≤ length slice
  pub from : links ≡ linked ws slice
  pub laid : LaidOut (code ws) l
  pub masked : Masked (code ws) l masks

-- the word p of such a table, and a well-formed estimate
pub record At (ws links masks est : List ℕ) (l : Layout) (p : ℕ) : Type 0 where
  pub ready : Ready ws links masks l
  pub well : WellFormed (code ws) est
  pub inside : p < l.size
