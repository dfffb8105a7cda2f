-- `firing::fire::fire` meets its contract: the effect where the guard passes. Assumes nothing.
use mathlib.Core.Path.{sym, ◌∙◌}
use mathlib.Core.Bool.{true, false}
use native.Mathlib.Omega.{arith}
use Rattle.table.specs.Code.{code}
use Rattle.queries.proofs.Given.{sized}
use Rattle.firing.proofs.Effects.{clause-fired}
use Rattle.firing.proofs.fire.fire.Goals as goal

pub holds-requires : goal.holds-requires
holds-requires c = (sized c.requires.0 c.requires.1, c.requires.2.guard, c.requires.0.masked.long)

pub returns-then-holds : goal.returns-then-holds
returns-then-holds c =
    let a = c.args in let w = code a.words.now in let d = c.add.ensures in
    record {
      words = d.words ∙ sym (clause-fired w a.est.now a.k a.f true (sym (c.holds.ensures w c.requires.0.laid c.requires.1 c.requires.0.masked) ∙ c.if-holds.true));
      count = d.count;
    }

pub returns-else-holds : goal.returns-else-holds
returns-else-holds c =
    let a = c.args in let w = code a.words.now in
    record {
      words = sym (clause-fired w a.est.now a.k a.f false (sym (c.holds.ensures w c.requires.0.laid c.requires.1 c.requires.0.masked) ∙ c.if-holds.false));
      count = omega arith;
    }
