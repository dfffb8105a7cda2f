-- The lines of the permissions, written one at a time.
use Rattle.std.specs.Prelude.{ℕ, ◌+◌, ◌-◌, ◌*◌, ◌≤◌, ◌≡◌, List, ◌++◌, get_or}
use Rattle.permset.specs.Sets.{width}
use Rattle.text.specs.Writing.{Wrote}
use Rattle.class_report.specs.Report.{permission_lines}

-- the counts of a list, by permission
abbrev pub count_in : List ℕ → ℕ → ℕ
count_in leaks i = get_or leaks i 0

-- the lines of the permissions before i are written, and with those from there on they are all lines
pub record Listed (leaks : List ℕ) (of : ℕ) (out : List ℕ) (start i : ℕ) (out' : List ℕ) (at : ℕ) : Type 0 where
  pub done : List ℕ
  pub wrote : Wrote out start done out' at
  pub rest : done ++ permission_lines (width - i) i of (count_in leaks) ≡ permission_lines width 0 of (count_in leaks)
  pub most : at ≤ start + 96 * i
