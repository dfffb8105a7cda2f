-- `capi_text::converters::convert_in` meets its contract. Assumes nothing.
use mathlib.Core.Path.{refl, sym, ap, ◌∙◌}
use mathlib.Core.List.{List}
use Prim.Native.Nat.{ℕ}
use lib.ListN.{replicate, length}
use Rattle.little_endian.proofs.First.{words_size, words-first}
use Rattle.widths.specs.Converters.{convert_answer, convert_out}
use Rattle.widths.proofs.Lengths.{answer-first, out_first}
use Rattle.capi_text.proofs.converters.convert_in.Goals as goal

pub slice_bounds-convert-end : goal.slice_bounds-convert-end
slice_bounds-convert-end c =
    let w = c.words_of-n in
    sym (words_size 1025 c.args.system.now (replicate 1025 0) w.new.words w.result refl w.ensures.count w.ensures.content)

pub returns : goal.returns
returns c =
    let out = c.args.out.now in
    let w = c.words_of-n in
    let j = c.convert.ensures in
    let x = words-first 1025 c.args.system.now (replicate 1025 0) w.new.words w.result refl w.ensures.count w.ensures.content in record {
      answer = j.answer ∙ ap (λ (v : List ℕ). convert_answer c.args.wide v (length out)) x ∙ answer-first c.args.wide _ out;
      out = j.out ∙ ap (λ (v : List ℕ). convert_out c.args.wide v out) x ∙ out_first c.args.wide _ out;
    }
