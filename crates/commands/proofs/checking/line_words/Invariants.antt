-- `commands::checking::line_words` meets its contract. Assumes nothing.
use Prim.Native.Nat.{◌≤◌}
use mathlib.Core.Path.{◌≡◌}
use lib.ListN.{length, take, drop}
use Rattle.text.specs.Writing.{Wrote}
use Rattle.listing.specs.Listing.{words_of}
use Rattle.commands.proofs.checking.line_words.Given as goal

abbrev pub invariant-loop-n : goal.invariant-loop-n
invariant-loop-n l = record {
  inside : l.at ≤ length l.text;
  left_over : drop l.n (words_of l.text) ≡ words_of (drop l.at l.text);
  written : Wrote l.initial.words 0 (take l.n (words_of l.text)) l.words l.n;
}
