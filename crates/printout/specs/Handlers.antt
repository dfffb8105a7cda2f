-- The lines of the handlers, written a word of the table at a time.
use Rattle.std.specs.Prelude.{ℕ, ◌+◌, ◌*◌, ◌≤◌, ◌≡◌, List, [], ◌∷◌, ◌++◌, length, get_or, drop}
use Rattle.table.specs.Words.{narrow, names_of}
use Rattle.table.specs.Scan.{accepted, reading}
use Rattle.table.specs.Code.{code, tasks, task_at, blocks_from}
use Rattle.calculus.specs.Layout.{estimate_words}
use Rattle.text.specs.Writing.{Wrote}
use Rattle.printout.specs.Program.{handler_lines}

-- an accepted narrow table and the words of an estimate of it
pub record Printable (ws est : List ℕ) : Type 0 where
  pub readable : reading ws ≡ accepted
  pub names : names_of (get_or ws 0 0) ≡ narrow
  pub long : length est ≡ estimate_words (code ws)

-- the block that starts at the place p, if one does, and those from there on
unfoldable pub here : List ℕ → ℕ → List ℕ
here ws p = blocks_from (task_at ws p ∷ []) p

unfoldable pub onward : List ℕ → ℕ → List ℕ
onward ws p = blocks_from (drop p (tasks ws)) p

-- the word at p is done: its handler's line, if it has one, stands at the place `at`, and `position` handlers came before it
pub record Stepped (ws : List ℕ) (ρ : ℕ) (est out : List ℕ) (p at position : ℕ) (out' : List ℕ) (at' position' : ℕ) : Type 0 where
  pub wrote : Wrote out at (handler_lines (code ws) ρ est position (here ws p)) out' at'
  pub counted : position' ≡ position + length (here ws p)
  pub most : at' ≤ at + 96 * length (here ws p)

-- the words before p are done: what is written so far, with the lines of the handlers from there on, are all lines
pub record Listed (ws : List ℕ) (ρ : ℕ) (est out : List ℕ) (start p : ℕ) (out' : List ℕ) (at position : ℕ) : Type 0 where
  pub done : List ℕ
  pub wrote : Wrote out start done out' at
  pub rest : done ++ handler_lines (code ws) ρ est position (onward ws p) ≡ handler_lines (code ws) ρ est 0 (code ws).blocks
  pub few : position + length (onward ws p) ≤ 32
  pub most : at ≤ start + 96 * position
