-- `results::count` meets its contract. The loop's invariant: what was counted and the digits from here on are all.
-- Assumes nothing.
use mathlib.Core.Path.{◌≡◌}
use Prim.Native.Nat.{◌+◌}
use lib.ListN.{drop}
use Rattle.calculus.specs.Estimate.{facts}
use Rattle.results.proofs.count.Given as goal

abbrev pub invariant-loop-word : goal.invariant-loop-word
invariant-loop-word l = l.n + facts (drop l.word-index l.words) ≡ facts l.words
