use Rattle.std.proofs.Common.{◌≡◌, ◌++◌, take, drop}
use Rattle.little_endian.specs.LittleEndian.{words_of}
use Rattle.little_endian.proofs.words_of.Given as goal

abbrev pub invariant-loop-i : goal.invariant-loop-i
invariant-loop-i l = l.words ≡ take l.i (words_of l.bytes) ++ drop l.i l.initial.words
