-- `solver::solve::solve` meets its contract. Assumes nothing.
use mathlib.Core.Path.{ap, ◌∙◌}
use Prim.Native.Nat.{ℕ}
use lib.ListN.{replicate}
use native.Mathlib.Omega.{arith}
use Rattle.solver.proofs.solve.solve.Goals as goal

pub least-facts-requires : goal.least-facts-requires
least-facts-requires c =
    record {
      words_value = (c.requires.words_value, c.of-l.ensures);
      est_len = (c.requires.est_len, omega (arith, c.requires.work_len));
    }

pub leak-leak-requires : goal.leak-leak-requires
leak-leak-requires c = record { readable = c.requires.words_value; laid = c.of-l.ensures; linked = c.least-facts.ensures.1; long = c.least-facts.auto.est ∙ c.requires.est_len }

pub returns : goal.returns
returns c =
    record {
      counted = c.least-facts.ensures.0;
      cleared = c.fill.ensures.after (λ y h. h) ∙ ap (λ (n : ℕ). replicate n 0) (c.least-facts.auto.links ∙ c.requires.work_len);
      leaks = c.leak-leak.ensures;
    }
