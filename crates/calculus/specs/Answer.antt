-- The verdict on a system, and the answer for every input, refused ones too (document 01, "Flow rules" at its end and "Refused").
use Rattle.std.specs.Prelude.{ℕ, zero, suc, ◌*◌, ◌^◌, List, [], ◌∷◌, ◌++◌, Bool, true, false, not, ◌&&◌, length, drop, replicate, eqb, leb, ltb}
use Rattle.permset.specs.Sets.{width, difference, within, lowest}
use Rattle.table.specs.Scan.{accepted, refused as unreadable, reading, first_of}
use Rattle.table.specs.Code.{Code, code}
use Rattle.calculus.specs.Layout.{estimate_words}
use Rattle.calculus.specs.Estimate.{whole, estimate, facts, leak}

-- the leak, the bound that it was compared with, whether the leak has a member outside it, the lowest such member (32 where there is
-- none), and the number of facts
pub record Verdict : Type 0 where
  pub leak : ℕ
  pub bound : ℕ
  pub over : Bool
  pub first : ℕ
  pub facts : ℕ

pub data Answer : Type 0 where
  refused : (number place : ℕ) → Answer
  verdict : Verdict → Answer

-- the standing bound: it means the empty set
abbrev pub standing_bound : ℕ
standing_bound = 0x80000000

unfoldable pub bound_used : ℕ → ℕ
bound_used bound = elim (eqb bound standing_bound) [ true ↦ 0 | false ↦ bound ]

-- the verdict read from the words of an estimate
unfoldable pub judge : Code → ℕ → ℕ → List ℕ → Verdict
unfolding facts leak bound_used
judge c ρ bound ws =
    record {
      leak = leak c ρ ws;
      bound = bound_used bound;
      over = not (within (leak c ρ ws) (bound_used bound));
      first = lowest (difference (leak c ρ ws) (bound_used bound));
      facts = facts ws;
    }

-- the words of the work slice that a call needs
abbrev pub work_words : ℕ → ℕ
work_words size = 4 * size

-- what a caller may get wrong, in order: ρ, the bound, the words of the estimate slice, the words of the work slice
unfoldable pub caller_tests : Code → ℕ → ℕ → ℕ → ℕ → List (Bool × ℕ)
caller_tests c ρ bound est work =
    (leb (2 ^ width) ρ, 20)
    ∷ (leb (2 ^ width) bound && not (eqb bound standing_bound), 20)
    ∷ (ltb est (estimate_words c), 21)
    ∷ (ltb work (work_words c.size), 22)
    ∷ []

-- the answer where the table is accepted
unfoldable pub analysis : Code → ℕ → ℕ → ℕ → ℕ → Answer
unfolding caller_tests estimate whole judge
analysis c ρ bound est work =
    elim (first_of (caller_tests c ρ bound est work)) [
      | zero ↦ whole (estimate c ρ) (λ ws. verdict (judge c ρ bound ws))
      | suc n ↦ refused (suc n) 0
    ]

-- the answer to a table, ρ, a bound, and slices of `est` and `work` words
unfoldable pub answer : List ℕ → ℕ → ℕ → ℕ → ℕ → Answer
unfolding analysis
answer ws ρ bound est work = elim (reading ws) [ accepted ↦ analysis (code ws) ρ bound est work | unreadable n at ↦ refused n at ]

-- ---- the lent slices after the call: a refusal leaves both as they were

-- the estimate in the first words of its slice, and the rest untouched
unfoldable pub estimate_after : List ℕ → ℕ → ℕ → List ℕ → List ℕ → List ℕ
unfolding answer estimate
estimate_after ws ρ bound est work =
    elim (answer ws ρ bound (length est) (length work)) [
      | refused n at ↦ est
      | verdict v ↦ estimate (code ws) ρ ++ drop (estimate_words (code ws)) est
    ]

-- zeros in the first words of the work slice, and the rest untouched
unfoldable pub work_after : List ℕ → ℕ → ℕ → List ℕ → List ℕ → List ℕ
unfolding answer
work_after ws ρ bound est work =
    elim (answer ws ρ bound (length est) (length work)) [
      | refused n at ↦ work
      | verdict v ↦ replicate (work_words (length ws)) 0 ++ drop (work_words (length ws)) work
    ]
