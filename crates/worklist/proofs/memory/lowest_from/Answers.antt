-- `worklist::memory::lowest_from` meets its contract. Assumes nothing.
use native.Mathlib.Omega.{arith}
use Rattle.worklist.proofs.Bounds.{shifted}
use Rattle.worklist.proofs.memory.lowest_from.Goals as goal

pub returns : goal.returns
returns c = (omega arith, shifted c.args.w c.args.i _ c.ranges.w.fits c.in_ok-above.ensures.1)
