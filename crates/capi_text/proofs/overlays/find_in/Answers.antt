-- `capi_text::overlays::find_in` meets its contract. Assumes nothing.
use mathlib.Core.Path.{refl, sym, ap₂, ◌∙◌}
use mathlib.Core.List.{List}
use Prim.Native.Nat.{ℕ}
use lib.ListN.{replicate}
use Rattle.little_endian.proofs.First.{words_size, words-first}
use Rattle.overlay.specs.Lookup.{place_of}
use Rattle.capi_text.proofs.TwoTables.{place-first}
use Rattle.capi_text.proofs.overlays.find_in.Goals as goal

pub slice_bounds-find-end : goal.slice_bounds-find-end
slice_bounds-find-end c =
    let w = c.words_of-b in
    sym (words_size 1025 c.args.base.now (replicate 1025 0) w.new.words w.result refl w.ensures.count w.ensures.content)

pub slice_bounds-find-end-2 : goal.slice_bounds-find-end-2
slice_bounds-find-end-2 c =
    let w = c.words_of-o in
    sym (words_size 1025 c.args.overlay.now (replicate 1025 0) w.new.words w.result refl w.ensures.count w.ensures.content)

pub returns : goal.returns
returns c =
    let a = c.words_of-b in
    let b = c.words_of-o in
    c.find.ensures
    ∙ ap₂ (λ (x y : List ℕ). place_of x y c.args.name c.args.perms) (words-first 1025 c.args.base.now (replicate 1025 0) a.new.words a.result refl a.ensures.count a.ensures.content) (words-first 1025 c.args.overlay.now (replicate 1025 0) b.new.words b.result refl b.ensures.count b.ensures.content)
    ∙ place-first _ _ c.args.name c.args.perms
