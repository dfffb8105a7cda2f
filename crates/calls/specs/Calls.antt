-- What a check of a call says: the answer of a refused one, and what the caller of the others got right.
use Rattle.std.specs.Prelude.{ℕ, ◌^◌, ◌<◌, ◌≤◌, ◌≡◌, Result, Ok, Err, Bool, not, ◌&&◌, List, eqb, leb, length}
use Rattle.permset.specs.Sets.{width}
use Rattle.table.specs.Scan.{accepted, reading}
use Rattle.table.specs.Code.{code}
use Rattle.calculus.specs.Layout.{estimate_words}
use Rattle.calculus.specs.Estimate.{estimate}
use Rattle.calculus.specs.Answer.{refused, verdict, standing_bound, work_words, judge, answer}
use Rattle.calls.specs.declared.Fault.{Fault}
use Rattle.calls.specs.Faults.{fault_number, fault_place}

-- a bound with bits above the permissions, save the standing bound
abbrev pub stray_bound : ℕ → Bool
stray_bound bound = leb (2 ^ width) bound && not (eqb bound standing_bound)

-- an accepted table, with slices of `est` and `work` words that are long enough
pub record Fit (ws : List ℕ) (est work : ℕ) : Type 0 where
  pub readable : reading ws ≡ accepted
  pub long : estimate_words (code ws) ≤ est
  pub room : work_words (length ws) ≤ work

-- a call that is not refused
pub record Fits (ws : List ℕ) (ρ bound est work : ℕ) : Type 0 where
  pub fit : Fit ws est work
  pub small : ρ < 2 ^ width
  pub judged : answer ws ρ bound est work ≡ verdict (judge (code ws) ρ bound (estimate (code ws) ρ))

abbrev pub CheckedAs : List ℕ → ℕ → ℕ → ℕ → ℕ → Result (Unit {0}) Fault → Type 0
CheckedAs ws ρ bound est work (Ok u) = Fits ws ρ bound est work
CheckedAs ws ρ bound est work (Err f) = answer ws ρ bound est work ≡ refused (fault_number f) (fault_place f)
