-- `firing::sends::send` meets its contract: past the table there is no block. Assumes nothing.
use mathlib.Core.Path.{◌∙◌}
use native.Mathlib.Omega.{arith}
use lib.ListN.{get_or-eq_default}
use Rattle.table.specs.Code.{code}
use Rattle.firing.proofs.Effects.{all_blocks, one_block}
use Rattle.firing.proofs.Deliver.{not-block}
use Rattle.firing.proofs.sends.send.Goals as goal

pub returns-then-f-eq0 : goal.returns-then-f-eq0
returns-then-f-eq0 c = let a = c.args in let d = c.send_all.ensures in record { words = d.words ∙ all_blocks (code a.words.now) a.e a.f a.est.now c.if-f-eq0.true; count = d.count }

pub returns-then-words-f : goal.returns-then-words-f
returns-then-words-f c = let a = c.args in not-block _ c.requires.0.readable a.est.now a.e a.f c.if-f-eq0.false (λ z. omega (arith, z, get_or-eq_default a.words.now 0 c.if-words-f.true))

pub returns-then-kind_of-eq-BLOCK : goal.returns-then-kind_of-eq-BLOCK
returns-then-kind_of-eq-BLOCK c = let a = c.args in let d = c.send_to.ensures in record { words = d.words ∙ one_block (code a.words.now) a.e a.f a.est.now c.if-f-eq0.false; count = d.count }

pub returns-else-kind_of-eq-BLOCK : goal.returns-else-kind_of-eq-BLOCK
returns-else-kind_of-eq-BLOCK c = let a = c.args in not-block _ c.requires.0.readable a.est.now a.e a.f c.if-f-eq0.false (λ z. c.if-kind_of-eq-BLOCK.false (c.kind_of.ensures ∙ z))
