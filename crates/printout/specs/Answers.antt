-- What the text of an answer is written from: the estimate slice that its call leaves.
use Rattle.std.specs.Prelude.{ℕ, ◌≤◌, ◌≡◌, List, length, get_or, take}
use Rattle.table.specs.Words.{narrow, names_of}
use Rattle.table.specs.Scan.{accepted, reading}
use Rattle.table.specs.Code.{code}
use Rattle.calculus.specs.Layout.{estimate_words}
use Rattle.calculus.specs.Estimate.{estimate}
use Rattle.calculus.specs.Answer.{Answer, refused, verdict, answer, estimate_after, work_after}
use Rattle.text.specs.Writing.{Wrote}
use Rattle.verdict.specs.Limits.{answer_under, estimate_under}
use Rattle.printout.specs.Program.{answer_text, unless_wide}

-- an accepted narrow table, with its least estimate in the first words of the slice
pub record Held (ws : List ℕ) (ρ : ℕ) (est : List ℕ) : Type 0 where
  pub readable : reading ws ≡ accepted
  pub names : names_of (get_or ws 0 0) ≡ narrow
  pub long : estimate_words (code ws) ≤ length est
  pub starts : take (estimate_words (code ws)) est ≡ estimate (code ws) ρ

abbrev pub HeldFor : List ℕ → ℕ → List ℕ → Answer → Type 0
HeldFor ws ρ est (refused number place) = Unit {0}
HeldFor ws ρ est (verdict v) = Held ws ρ est

-- a call on a system: the text of its answer at the start of `out`, and what it leaves in its slices
pub record Told (ws : List ℕ) (ρ bound : ℕ) (est work out : List ℕ) (r : ℕ) (est' work' out' : List ℕ) : Type 0 where
  pub wrote : Wrote out 0 (answer_text ρ ws (unless_wide ws (refused 1 0) (answer ws ρ bound (length est) (length work)))) out' r
  pub estimates : est' ≡ unless_wide ws est (estimate_after ws ρ bound est work)
  pub works : work' ≡ unless_wide ws work (work_after ws ρ bound est work)

-- the same under the ceiling n
pub record ToldUnder (ws : List ℕ) (ρ bound n : ℕ) (est work out : List ℕ) (r : ℕ) (est' work' out' : List ℕ) : Type 0 where
  pub wrote : Wrote out 0 (answer_text ρ ws (unless_wide ws (refused 1 0) (answer_under ws ρ bound n (length est) (length work)))) out' r
  pub estimates : est' ≡ unless_wide ws est (estimate_under ws ρ bound n est work)
  pub works : work' ≡ unless_wide ws work (work_after ws ρ bound est work)
