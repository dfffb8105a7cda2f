-- `capi_text::overlays::join_in` meets its contract. Assumes nothing.
use mathlib.Core.Path.{refl, sym, ap₂, ◌∙◌}
use mathlib.Core.List.{List}
use Prim.Native.Nat.{ℕ}
use lib.ListN.{replicate, length}
use Rattle.little_endian.proofs.First.{words_size, words-first}
use Rattle.overlay.specs.Join.{join_answer, out_after}
use Rattle.capi_text.proofs.TwoTables.{join_first, out_first}
use Rattle.capi_text.proofs.overlays.join_in.Goals as goal

pub slice_bounds-join-end : goal.slice_bounds-join-end
slice_bounds-join-end c =
    let w = c.words_of-b in
    sym (words_size 1025 c.args.base.now (replicate 1025 0) w.new.words w.result refl w.ensures.count w.ensures.content)

pub slice_bounds-join-end-2 : goal.slice_bounds-join-end-2
slice_bounds-join-end-2 c =
    let w = c.words_of-o in
    sym (words_size 1025 c.args.overlay.now (replicate 1025 0) w.new.words w.result refl w.ensures.count w.ensures.content)

pub returns : goal.returns
returns c =
    let out = c.args.out.now in
    let a = c.words_of-b in
    let b = c.words_of-o in
    let j = c.join.ensures in
    let x = words-first 1025 c.args.base.now (replicate 1025 0) a.new.words a.result refl a.ensures.count a.ensures.content in
    let y = words-first 1025 c.args.overlay.now (replicate 1025 0) b.new.words b.result refl b.ensures.count b.ensures.content in record {
      answer = j.answer ∙ ap₂ (λ (v w : List ℕ). join_answer v w (length out)) x y ∙ join_first _ _ out;
      out = j.out ∙ ap₂ (λ (v w : List ℕ). out_after v w out) x y ∙ out_first _ _ out;
    }
