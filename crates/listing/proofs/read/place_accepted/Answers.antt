-- `listing::read::place_accepted` meets its contract. Assumes nothing.
use Prim.Native.Nat.{ℕ}
use mathlib.Core.Path.{refl, sym, ap, ◌∙◌}
use mathlib.Core.List.{List, ◌++◌}
use native.Mathlib.Omega.{arith}
use lib.ListN.{length, drop}
use lib.Seq.{length-take-le}
use Rattle.listing.proofs.Depths.{narrow_size}
use Rattle.listing.specs.Listing.{misplaced, left}
use Rattle.listing.specs.Answer.{number, place, answered}
use Rattle.listing.proofs.Answers.{place-line, place_short, place-done}
use Rattle.listing.proofs.read.place_accepted.Goals as goal

pub find_depths-requires : goal.find_depths-requires
find_depths-requires c =
    (c.requires, narrow_size c.args.words.now c.requires)

pub slice_bounds-depths-end : goal.slice_bounds-depths-end
slice_bounds-depths-end c =
    omega (arith, narrow_size c.args.words.now c.requires, c.find_depths.auto.depths)

pub slice_bounds-misplaced-end : goal.slice_bounds-misplaced-end
slice_bounds-misplaced-end c =
    sym (length-take-le _ _ (omega (arith, narrow_size c.args.words.now c.requires, c.find_depths.auto.depths)))

pub returns-in-Some : goal.returns-in-Some
unfolding answered left number place
returns-in-Some c =
    let m = c.in-Some.ensures in
    let d = ap (λ (ds : List ℕ). misplaced 1 ds c.args.spaces.now) c.find_depths.ensures in
    record {
      result_value = sym (place-line c.args.words.now c.args.spaces.now _ c.requires c.in-Some.line (sym d ∙ sym m.0) m.1);
      out_after = refl;
    }

pub returns-then-out-n : goal.returns-then-out-n
unfolding answered left number place
returns-then-out-n c =
    let d = ap (λ (ds : List ℕ). misplaced 1 ds c.args.spaces.now) c.find_depths.ensures in
    record {
      result_value = sym (place_short c.args.words.now c.args.spaces.now _ c.requires (sym d ∙ c.in_default.ensures) (omega arith));
      out_after = refl;
    }

pub returns : goal.returns
unfolding answered left
returns c =
    let d = ap (λ (ds : List ℕ). misplaced 1 ds c.args.spaces.now) c.find_depths.ensures in
    record {
      result_value = sym (place-done c.args.words.now c.args.spaces.now _ c.requires (sym d ∙ c.in_default.ensures) (omega arith));
      out_after = ap (λ (l : List ℕ). l ++ drop (length c.args.words.now) c.args.out.now) c.copy_from_slice.ensures.after;
    }
