-- `commands::converters::convert_text` meets its contract. Assumes nothing.
use mathlib.Core.Path.{refl, sym, ap, ◌∙◌}
use lib.ListN.{replicate}
use Rattle.little_endian.specs.LittleEndian.{words_of}
use Rattle.little_endian.proofs.First.{words_size, words-first}
use Rattle.text.proofs.Writing.{reworded}
use Rattle.commands.specs.Printed.{converted_text}
use Rattle.commands.proofs.Conversions.{converted-first, convert-even, convert-odd}
use Rattle.commands.proofs.converters.convert_text.Goals as goal

pub returns-then-input-ne0 : goal.returns-then-input-ne0
returns-then-input-ne0 c =
    reworded (convert-odd c.args.wide c.args.input.now c.if-input-ne0.true) c.refusal_line.ensures.wrote

pub slice_bounds-converted_text-end : goal.slice_bounds-converted_text-end
slice_bounds-converted_text-end c =
    let w = c.words_of-n in
    sym (words_size 1025 c.args.input.now (replicate 1025 0) w.new.words w.result refl w.ensures.count w.ensures.content)

pub returns : goal.returns
returns c =
    let w = c.words_of-n in
    let x = words-first 1025 c.args.input.now (replicate 1025 0) w.new.words w.result refl w.ensures.count w.ensures.content in
    reworded (ap (converted_text c.args.wide) x ∙ converted-first c.args.wide (words_of c.args.input.now) ∙ convert-even c.args.wide c.args.input.now c.if-input-ne0.false) c.converted_text.ensures
