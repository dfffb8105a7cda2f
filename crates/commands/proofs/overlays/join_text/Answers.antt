-- `commands::overlays::join_text` meets its contract. Assumes nothing.
use mathlib.Core.Path.{sym, ap₂, subst, ◌∙◌}
use mathlib.Core.List.{List}
use Prim.Native.Nat.{ℕ}
use native.Mathlib.Omega.{arith}
use lib.Seq.{length-take-le}
use Rattle.listing.specs.Listing.{words_of}
use Rattle.text.proofs.Writing.{reworded}
use Rattle.commands.specs.Printed.{joined_text, join_text}
use Rattle.commands.specs.Pairs.{PairAs}
use Rattle.commands.proofs.PairLaws.{both-text, refused-text}
use Rattle.commands.proofs.overlays.join_text.Goals as goal

pub slice_bounds-read_pair-end : goal.slice_bounds-read_pair-end
slice_bounds-read_pair-end c = sym (length-take-le _ _ c.second_start-k.ensures.1)

pub slice_bounds-under-end : goal.slice_bounds-under-end
slice_bounds-under-end c =
    let b = subst (PairAs _ _ _ _) c.in-Ok.is c.read_pair.ensures in
    omega (arith, b.few, c.read_pair.auto.under)

pub slice_bounds-joined_text-end : goal.slice_bounds-joined_text-end
slice_bounds-joined_text-end c =
    let b = subst (PairAs _ _ _ _) c.in-Ok.is c.read_pair.ensures in
    sym (length-take-le _ _ (omega (arith, b.few, c.read_pair.auto.under)))

pub slice_bounds-over-end : goal.slice_bounds-over-end
slice_bounds-over-end c =
    let b = subst (PairAs _ _ _ _) c.in-Ok.is c.read_pair.ensures in
    omega (arith, b.fit, c.read_pair.auto.over)

pub slice_bounds-joined_text-end-in-Ok : goal.slice_bounds-joined_text-end-in-Ok
slice_bounds-joined_text-end-in-Ok c =
    let b = subst (PairAs _ _ _ _) c.in-Ok.is c.read_pair.ensures in
    sym (length-take-le _ _ (omega (arith, b.fit, c.read_pair.auto.over)))

pub returns-in-Ok : goal.returns-in-Ok
unfolding join_text
returns-in-Ok c =
    let b = subst (PairAs _ _ _ _) c.in-Ok.is c.read_pair.ensures in
    reworded (ap₂ joined_text b.base b.overlay ∙ both-text c.args.input.now _ c.second_start-k.ensures.0 (λ (x y : List ℕ). joined_text (words_of x) (words_of y)) b) c.joined_text.ensures

pub returns-in-Err : goal.returns-in-Err
unfolding join_text
returns-in-Err c =
    let h = subst (PairAs _ _ _ _) c.in-Err.is c.read_pair.ensures in
    reworded (refused-text c.args.input.now _ c.second_start-k.ensures.0 (λ (x y : List ℕ). joined_text (words_of x) (words_of y)) _ _ h) c.refusal_line.ensures.wrote
