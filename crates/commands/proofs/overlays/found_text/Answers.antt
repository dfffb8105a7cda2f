-- `commands::overlays::found_text` meets its contract. Assumes nothing.
use mathlib.Core.Path.{sym, ap₂, subst, ◌∙◌}
use mathlib.Core.List.{List}
use Prim.Native.Nat.{ℕ, ◌-◌}
use native.Mathlib.Omega.{arith}
use lib.ListN.{length, take, drop, length-take, length-drop}
use lib.Seq.{length-take-le}
use Rattle.listing.specs.Listing.{words_of}
use Rattle.overlay.specs.Lookup.{place_of}
use Rattle.text.proofs.Writing.{reworded}
use Rattle.commands.specs.Printed.{place_text, found_text}
use Rattle.commands.specs.Pairs.{PairAs}
use Rattle.commands.proofs.PairLaws.{both-text, refused-text}
use Rattle.commands.proofs.overlays.found_text.Goals as goal

pub slice_bounds-first-end : goal.slice_bounds-first-end
slice_bounds-first-end c = sym (length-take-le _ _ c.second_start-k.ensures.1)

pub slice_bounds-under-end : goal.slice_bounds-under-end
slice_bounds-under-end c =
    let b = subst (PairAs _ _ _ _) c.in-Ok.is c.read_pair.ensures in
    omega (arith, b.few, c.read_pair.auto.under)

pub slice_bounds-place_text-end : goal.slice_bounds-place_text-end
slice_bounds-place_text-end c =
    let b = subst (PairAs _ _ _ _) c.in-Ok.is c.read_pair.ensures in
    sym (length-take-le _ _ (omega (arith, b.few, c.read_pair.auto.under)))

pub slice_bounds-over-end : goal.slice_bounds-over-end
slice_bounds-over-end c =
    let b = subst (PairAs _ _ _ _) c.in-Ok.is c.read_pair.ensures in
    omega (arith, b.fit, c.read_pair.auto.over)

pub slice_bounds-place_text-end-in-Ok : goal.slice_bounds-place_text-end-in-Ok
slice_bounds-place_text-end-in-Ok c =
    let b = subst (PairAs _ _ _ _) c.in-Ok.is c.read_pair.ensures in
    sym (length-take-le _ _ (omega (arith, b.fit, c.read_pair.auto.over)))

pub place_text-requires : goal.place_text-requires
place_text-requires c =
    let k = c.second_start-k.result in
    let input = c.args.input.now in
    (omega (arith, length-take k input), omega (arith, length-take (length input - k) (drop k input), length-drop k input), omega arith)

pub returns-in-Ok : goal.returns-in-Ok
unfolding found_text
returns-in-Ok c =
    let input = c.args.input.now in
    let k = c.second_start-k.result in
    let b = subst (PairAs _ _ _ _) c.in-Ok.is c.read_pair.ensures in
    reworded (ap₂ (λ (u v : List ℕ). place_text (take k input) (take (length input - k) (drop k input)) (place_of u v c.args.name c.args.perms)) b.base b.overlay ∙ both-text input k c.second_start-k.ensures.0 (λ (x y : List ℕ). place_text x y (place_of (words_of x) (words_of y) c.args.name c.args.perms)) b) c.place_text.ensures

pub returns-in-Err : goal.returns-in-Err
unfolding found_text
returns-in-Err c =
    let h = subst (PairAs _ _ _ _) c.in-Err.is c.read_pair.ensures in
    reworded (refused-text c.args.input.now _ c.second_start-k.ensures.0 (λ (x y : List ℕ). place_text x y (place_of (words_of x) (words_of y) c.args.name c.args.perms)) _ _ h) c.refusal_line.ensures.wrote
