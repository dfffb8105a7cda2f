-- `commands::listings::text_text` meets its contract. Assumes nothing.
use mathlib.Core.Path.{refl, sym, ap, ◌∙◌}
use lib.ListN.{replicate}
use Rattle.little_endian.specs.LittleEndian.{words_of}
use Rattle.little_endian.proofs.First.{words_size, words-first}
use Rattle.text.proofs.Writing.{reworded}
use Rattle.commands.specs.Printed.{listing_text}
use Rattle.commands.proofs.Texts.{listing-first, text-even, text-odd}
use Rattle.commands.proofs.listings.text_text.Goals as goal

pub returns-then-input-ne0 : goal.returns-then-input-ne0
returns-then-input-ne0 c = reworded (text-odd c.args.input.now c.if-input-ne0.true) c.refusal_line.ensures.wrote

pub slice_bounds-listing_text-end : goal.slice_bounds-listing_text-end
slice_bounds-listing_text-end c = let w = c.words_of-n in sym (words_size 1025 c.args.input.now (replicate 1025 0) w.new.words w.result refl w.ensures.count w.ensures.content)

pub returns : goal.returns
returns c =
    let w = c.words_of-n in
    reworded (ap listing_text (words-first 1025 c.args.input.now (replicate 1025 0) w.new.words w.result refl w.ensures.count w.ensures.content) ∙ listing-first (words_of c.args.input.now) ∙ text-even c.args.input.now c.if-input-ne0.false) c.listing_text.ensures
