-- `firing::terms::operate_at` meets its contract. Assumes nothing.
use Rattle.firing.proofs.Fires.{operated}
use Rattle.firing.proofs.terms.operate_at.Goals as goal

pub returns : goal.returns
returns c = let a = c.args in operated a.p a.d _ c.requires.1 c.requires.2 c.requires.3 (rw c.operation_of.ensures at c.operate_at-bits.ensures) c.put_bits-added.ensures
