-- `deliveries::put_words` meets its contract. The loop's invariant: what is written and what is left make the whole. Assumes nothing.
use Prim.Native.Nat.{ℕ, ◌*◌, ◌≤◌}
use mathlib.Core.Path.{◌≡◌}
use mathlib.Core.List.{List, ◌++◌}
use Rattle.text.specs.Added.{Added}
use Rattle.deliveries.specs.Text.{text}
use Rattle.deliveries.proofs.SendLines.{sent}
use Rattle.deliveries.proofs.put_words.Given as goal

abbrev pub invariant-loop-p : goal.invariant-loop-p
invariant-loop-p l =
    (l.next ≤ 98304 * l.p) × (l.home ≤ l.p) × (l.count ≤ l.p)
    × ((done : List ℕ) × Added l.initial.out 0 done l.out l.next × (done ++ sent l.words l.p l.home l.count ≡ text l.words))
