-- `firing::targets::pass` meets its contract: what the row has of the mask is or-ed in. Assumes nothing.
use Prim.Native.Nat.{◌*◌}
use Rattle.rows.proofs.Laws.{same-part}
use Rattle.clauses.specs.Asks.{sort_at}
use Rattle.firing.proofs.Fires.{pass-fired}
use Rattle.firing.proofs.targets.pass.Goals as goal

pub returns : goal.returns
returns c =
    let a = c.args in let row = a.l.row in
    pass-fired (sort_at a.m) a.a a.b c.requires.1 c.requires.2 (λ k o x. (x.0, x.1.mask a.m c.requires.3))
    (rw (same-part a.masks.now (a.m * row) row) at c.join_masked-added.ensures)
