-- What the solver does to the words of an estimate: sound steps, and how many facts they add.
use Rattle.std.specs.Prelude.{ℕ, ◌+◌, ◌<◌, ◌≤◌, ◌≡◌, List, get_or}
use Rattle.table.specs.Code.{Code, code}
use Rattle.calculus.specs.Constraint.{Sets}
use Rattle.calculus.specs.Rules.{entry, Estimate}
use Rattle.calculus.specs.Layout.{WellFormed, LiesIn, sets}
use Rattle.calculus.specs.Estimate.{fire, facts}
use Rattle.choices.specs.Choices.{place_of, clause_of, target_of}
use Rattle.firing.specs.Step.{step_at}

-- what any step of any solver keeps: the layout of the estimate, its elements, and that it lies inside every estimate that obeys the rules
pub record Sound (c : Code) (ρ : ℕ) (old new : List ℕ) : Type 0 where
  pub well : WellFormed c old → WellFormed c new
  pub kept : LiesIn c old (sets c new)
  pub inside : WellFormed c old → (e : Sets) → Estimate c ρ e → LiesIn c old e → LiesIn c new e

-- a sound step that added so many facts
pub record Grown (c : Code) (ρ : ℕ) (old new : List ℕ) (added : ℕ) : Type 0 where
  pub sound : Sound c ρ old new
  pub count : facts new ≡ facts old + added

-- such a step, after which P is known of the old words where nothing was added
pub record Tried (c : Code) (ρ : ℕ) (P : List ℕ → Type 0) (old new : List ℕ) (added : ℕ) : Type 0 where
  pub grown : Grown c ρ old new added
  pub nothing : WellFormed c old → added ≡ 0 → P old

-- the entry of the word p has nothing to add
abbrev pub Entered : (ws : List ℕ) → (ρ p : ℕ) → List ℕ → Type 0
Entered ws ρ p est = fire (code ws) (entry (code ws) ρ p) est ≡ est

-- clause k of the word p has nothing to add, for all its targets or (f not 0) for the target f
abbrev pub Idle : (ws links : List ℕ) → (p k f : ℕ) → List ℕ → Type 0
Idle ws links p k f est = fire (code ws) (step_at ws links p k f) est ≡ est

-- the choice w has nothing to add, if it is of a word of the table
abbrev pub Spent : (ws links : List ℕ) → (size w : ℕ) → List ℕ → Type 0
Spent ws links size w est = place_of w < size → Idle ws links (place_of w) (clause_of w) (target_of w) est

-- all choices of a list have nothing to add
abbrev pub AllSpent : (ws links : List ℕ) → ℕ → List ℕ → List ℕ → Type 0
AllSpent ws links size list est = (i : ℕ) → i < get_or list 0 0 → Spent ws links size (get_or list (i + 1) 0) est

-- all choices of a list were fired, for any opponent
abbrev pub Exhausted : (ws links : List ℕ) → ℕ → (list old new : List ℕ) → ℕ → Type 0
Exhausted ws links size list old new added = (ρ : ℕ) → Tried (code ws) ρ (AllSpent ws links size list) old new added

-- sound steps to an estimate that obeys every rule, unless they added more facts than there was room for
pub record Closed (c : Code) (ρ room : ℕ) (old new : List ℕ) (added : ℕ) : Type 0 where
  pub grown : Grown c ρ old new added
  pub obeyed : added ≤ room → Estimate c ρ (sets c new)
