use native.Mathlib.Omega.{arith}
use lib.Count.{ones-le}
use Rattle.rows.proofs.Laws.{facts-most}
use Rattle.results.proofs.differ.Goals as goal

pub overflow_add-result : goal.overflow_add-result
overflow_add-result c = omega (arith, ones-le 32 c.args.x c.ranges.x.fits, facts-most c.args.a.now)
