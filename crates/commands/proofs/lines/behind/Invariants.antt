-- `commands::lines::behind` meets its contract. Assumes nothing.
use Prim.Native.Nat.{◌-◌, ◌≤◌}
use mathlib.Core.Path.{◌≡◌}
use lib.ListN.{length, drop}
use Rattle.commands.specs.Meanings.{from_line}
use Rattle.commands.proofs.lines.behind.Given as goal

abbrev pub invariant-loop : goal.invariant-loop
invariant-loop l = record {
  after : l.start ≤ l.at;
  inside : l.at ≤ length l.text;
  rest : from_line (l.k - l.counter) (drop l.at l.text) ≡ from_line l.k (drop l.start l.text);
}
