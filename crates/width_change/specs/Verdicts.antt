-- Verdicts that say the same of the leak.
use Rattle.std.specs.Prelude.{◌≡◌}
use Rattle.calculus.specs.Answer.{Verdict}

-- in all but the number of facts
pub record SameButFacts (v w : Verdict) : Type 0 where
  pub leak : v.leak ≡ w.leak
  pub bound : v.bound ≡ w.bound
  pub over : v.over ≡ w.over
  pub first : v.first ≡ w.first
