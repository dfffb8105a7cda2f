-- `commands::checking::right_line` meets its contract. Assumes nothing.
use Prim.Native.Nat.{ℕ}
use mathlib.Core.Path.{sym, ap, ◌∙◌}
use native.Mathlib.Omega.{arith}
use lib.ListN.{length, replicate, length-replicate}
use lib.Seq.{length-take-le}
use Rattle.text.specs.Text.{bytes}
use Rattle.text.proofs.Writing.{reworded, wrote_nothing}
use Rattle.listing.specs.Answer.{answered}
use Rattle.listing.specs.Listing.{left, listing, written}
use Rattle.listing.proofs.Theorems.{write-fits}
use Rattle.commands.specs.Checked.{shown_line}
use Rattle.commands.proofs.Checks.{right-none, right-done, listed-is}
use Rattle.commands.proofs.checking.right_line.Goals as goal

pub slice_bounds-listed-end : goal.slice_bounds-listed-end
unfolding answered
slice_bounds-listed-end c =
    let w = c.write in
    omega (arith, write-fits c.args.words.now _ _ (sym w.ensures.answer ∙ ap answered c.in-Ok.is), w.auto.out)

pub slice_bounds-shown_line-end-in-Ok : goal.slice_bounds-shown_line-end-in-Ok
unfolding answered
slice_bounds-shown_line-end-in-Ok c =
    let w = c.write in
    sym (length-take-le _ _ (omega (arith, write-fits c.args.words.now _ _ (sym w.ensures.answer ∙ ap answered c.in-Ok.is), w.auto.out)))

pub shown_line-requires : goal.shown_line-requires
unfolding answered
shown_line-requires c =
    let w = c.write in
    let n = c.in-Ok.n in
    let h = write-fits c.args.words.now (length (replicate {A = ℕ} 65536 0)) n (sym w.ensures.answer ∙ ap answered c.in-Ok.is) in
    (omega arith, c.requires.0, omega (arith, h, length-replicate {A = ℕ} 65536 0, length-take-le n w.new.out (omega (arith, h, w.auto.out))))

pub returns-in-Ok : goal.returns-in-Ok
unfolding answered
returns-in-Ok c =
    let w = c.write in
    let n = c.in-Ok.n in
    let z = length-replicate {A = ℕ} 65536 0 in
    let ws = c.args.words.now in
    let f = sym w.ensures.answer ∙ ap answered c.in-Ok.is in
    let e = ap (written ws) (sym z) ∙ f in
    let q = w.ensures.text ∙ ap (λ (k : ℕ). left (written ws k) (listing ws) (replicate 65536 0)) z in
    let v = c.shown_line.ensures in
    let h = write-fits ws _ n f in
    record {
      wrote = reworded (ap (shown_line (bytes "right, line ") c.args.k) (listed-is c.args.k ws _ e (replicate 65536 0) _ q) ∙ right-done c.args.k ws _ e) v.wrote;
      upper_bound = omega (arith, v.upper_bound, h, z, length-take-le n w.new.out (omega (arith, h, w.auto.out)));
    }

pub returns-in-Err : goal.returns-in-Err
unfolding answered
returns-in-Err c =
    let w = c.write in
    let ws = c.args.words.now in
    let e = ap (written ws) (sym (length-replicate {A = ℕ} 65536 0)) ∙ sym w.ensures.answer ∙ ap answered c.in-Err.is in
    record {
      wrote = reworded (right-none c.args.k ws _ _ e) (wrote_nothing _ _ (omega arith));
      upper_bound = omega arith;
    }
