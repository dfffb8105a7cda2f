-- An answer that decides a rule: yes exactly where the sets of an estimate obey it.
use Rattle.std.specs.Prelude.{ℕ, Bool, List, T}
use Rattle.table.specs.Code.{Code, Linked}
use Rattle.calculus.specs.Constraint.{Sets, Rule, Obeys}
use Rattle.calculus.specs.Layout.{sets, WellFormed}
use Rattle.rows.specs.declared.layout.Layout.{Layout}
use Rattle.rows.specs.Laid.{LaidOut}
use Rattle.queries.specs.Passes.{Masked}

pub record Decides (e : Sets) (k : Rule) (r : Bool) : Type 0 where
  pub yes : T r → Obeys e k
  pub no : Obeys e k → T r

-- r decides a rule on the words of an estimate, whatever the code of this layout is
abbrev pub Checked : Layout → List ℕ → (Code → Rule) → Bool → Type 0
Checked l est k r = (c : Code) → LaidOut c l → WellFormed c est → Decides (sets c est) (k c) r

-- the same, for codes with a property
abbrev pub CheckedIf : Layout → List ℕ → (Code → Type 0) → (Code → Rule) → Bool → Type 0
CheckedIf l est q k r = (c : Code) → LaidOut c l → WellFormed c est → q c → Decides (sets c est) (k c) r

-- the masks are those of a code of this layout
pub record MasksOf (l : Layout) (masks : List ℕ) : Type 0 where
  pub code : Code
  pub linked : Linked code
  pub laid : LaidOut code l
  pub masked : Masked code l masks

-- the same, where masks are used
abbrev pub CheckedBy : Layout → (est masks : List ℕ) → (Code → Rule) → Bool → Type 0
CheckedBy l est masks k r = (c : Code) → Linked c → LaidOut c l → WellFormed c est → Masked c l masks → Decides (sets c est) (k c) r
