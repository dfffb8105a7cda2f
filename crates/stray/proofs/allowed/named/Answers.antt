-- `stray::allowed::named` meets its contract: a case for each.
-- Assumes nothing.
use mathlib.Core.Path.{sym, ap, ◌∙◌}
use mathlib.Core.Bool.{not}
use Prim.Native.Nat.{ℕ}
use lib.Dec.{eqb}
use Rattle.stray.specs.declared.Holding.{Holding}
use Rattle.stray.specs.Allowed.{word_named}
use Rattle.stray.proofs.allowed.named.Goals as goal

pub returns-in-Things : goal.returns-in-Things
unfolding word_named
returns-in-Things c = ap (λ (n : ℕ). not (eqb n 0)) c.word_makes.ensures ∙ sym (ap (λ (s : Holding). word_named s c.args.w) c.in-Things.is)

pub returns-in-Blocks : goal.returns-in-Blocks
unfolding word_named
returns-in-Blocks c = ap (λ (n : ℕ). eqb n 2) c.kind_of.ensures ∙ sym (ap (λ (s : Holding). word_named s c.args.w) c.in-Blocks.is)
