-- What the answer to a call says: document 01's number and place of a refusal, and the values of a verdict.
use Rattle.std.specs.Prelude.{ℕ, Result, Ok, Err, true, false, not}
use Rattle.permset.specs.Sets.{difference, within, lowest}
use Rattle.calculus.specs.Answer.{Answer, refused, verdict}
use Rattle.calls.specs.declared.Fault.{Fault}
use Rattle.calls.specs.Faults.{fault_number, fault_place}
use Rattle.comparison.specs.declared.Verdict.{Verdict}
use Rattle.comparison.specs.declared.Verdict.TheVariants.{Within, Over}

-- a leak within the bound has no lowest permission outside, for which 32 stands
unfoldable pub answer_of : Result Verdict Fault → Answer
unfolding fault_number fault_place
answer_of (Err f) = refused (fault_number f) (fault_place f)
answer_of (Ok (Within r)) =
    verdict (record { leak = r.leak.bits; bound = r.bound.bits; over = false; first = 32; facts = r.facts })
answer_of (Ok (Over r first)) =
    verdict (record { leak = r.leak.bits; bound = r.bound.bits; over = true; first = first; facts = r.facts })

-- what is answered for a leak, the bound that it is compared with, and the number of facts
unfoldable pub compare : (leak bound facts : ℕ) → Answer
compare leak bound facts =
    verdict
    (record { leak = leak; bound = bound; over = not (within leak bound); first = lowest (difference leak bound); facts = facts })
