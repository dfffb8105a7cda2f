-- `stray::allowed::set_words` meets its contract. The loop's invariant: the elements of the words passed are set where they may be.
-- Assumes nothing.
use Prim.Native.Nat.{◌+◌}
use Rattle.table.specs.Code.{code}
use Rattle.calculus.specs.Elements.{plain}
use Rattle.stray.specs.Allowed.{Allowed}
use Rattle.stray.proofs.allowed.set_words.Given as goal

abbrev pub invariant-loop-p : goal.invariant-loop-p
invariant-loop-p l = Allowed (code l.words) l.h (plain (code l.words) + l.p) l.row
