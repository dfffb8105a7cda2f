-- `commands::explain::sentence` meets its contract. Assumes nothing.
use Rattle.text.proofs.Writing.{reworded, then, wrote-length}
use native.Mathlib.Omega.{arith}
use Rattle.commands.proofs.Meant.{sentence-second, sentence-first}
use Rattle.commands.proofs.explain.sentence.Goals as goal

pub meaning-requires : goal.meaning-requires
meaning-requires c = omega (arith, c.put-next.ensures.ends, wrote-length c.put-next.ensures)

pub returns-then-n-gt100 : goal.returns-then-n-gt100
returns-then-n-gt100 c =
    reworded (sentence-second c.args.n c.if-n-gt100.true) (then c.put-next.ensures c.meaning.ensures)

pub returns : goal.returns
returns c =
    reworded (sentence-first c.args.n (omega arith)) c.meaning-2.ensures
