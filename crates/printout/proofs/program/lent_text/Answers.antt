-- `printout::program::lent_text` meets its contract. Assumes nothing.
use Prim.Native.Nat.{ℕ}
use mathlib.Core.Path.{ap, ◌∙◌}
use mathlib.Core.List.{List}
use native.Mathlib.Omega.{arith}
use lib.ListN.{length, get_or, drop}
use Rattle.little_endian.proofs.Laws.{length-words_of, words-read}
use Rattle.text.proofs.Writing.{reworded}
use Rattle.printout.specs.Program.{system_text}
use Rattle.printout.proofs.Texts.{fed, printed-system}
use Rattle.printout.proofs.program.lent_text.Goals as goal

pub slice_bounds-words_text-end-2 : goal.slice_bounds-words_text-end-2
slice_bounds-words_text-end-2 c =
    let w = c.words_of-n.ensures in
    let k = fed (length c.args.input.now) c.requires.0 in
    let e = words-read c.args.input.now c.args.words.now _ _ w.count w.content (omega (arith, c.requires.1)) in
    omega (arith, ap length e, length-words_of c.args.input.now, w.count, c.requires.1)

pub words_text-requires : goal.words_text-requires
words_text-requires c =
    let w = c.words_of-n.ensures in
    let k = fed (length c.args.input.now) c.requires.0 in
    let e = words-read c.args.input.now c.args.words.now _ _ w.count w.content (omega (arith, c.requires.1)) in
    let n = length-words_of c.args.input.now in
    (omega (arith, ap length e), omega (arith, ap length e), c.requires.2)

pub returns : goal.returns
returns c =
    let w = c.words_of-n.ensures in
    let k = fed (length c.args.input.now) c.requires.0 in
    let e = words-read c.args.input.now c.args.words.now _ _ w.count w.content (omega (arith, c.requires.1)) in
    reworded (ap (λ (ws : List ℕ). system_text (get_or ws 0 0) (get_or ws 1 0) (drop 2 ws)) e ∙ printed-system c.args.input.now c.requires.0)
    c.words_text.ensures
