use mathlib.Core.List.{[]}
use Rattle.listing.proofs.Lines.{whole-text, rest, rest-start, rest_end, rest-here, kind-small, depth-there, text-drop, text-take, text-fits}
use Prim.Native.Nat.{ℕ, ◌+◌}
use mathlib.Core.Path.{◌≡◌, ap, sym, ◌∙◌}
use native.Mathlib.Omega.{arith}
use lib.ListN.{get_or, take, drop}
use borrow.Author.Rules.{rules}
use Rattle.text.proofs.Writing.{wrote_nothing, reworded, then}
use Rattle.listing.specs.Listing.{indented, listing}
use Rattle.listing.proofs.write.put_lines.Goals as goal

pub loop-i-init : goal.loop-i-init
loop-i-init c = record {
  in_bounds = search rules;
  left_over = sym (rest-start c.args.words.now c.requires.letters_value.1);
  written = wrote_nothing _ _ (omega arith);
}

pub bounds-depths-i : goal.bounds-depths-i
bounds-depths-i c =
    omega (arith, depth-there c.args.words.now c.requires.letters_value.1 c.args.depths.now c.requires.depths_value)

pub put_line-at-requires : goal.put_line-at-requires
put_line-at-requires c =
    let l = c.loop-i in
    let ws = c.args.words.now in
    let x = indented (get_or c.args.depths.now l.i 0) (get_or ws l.i 0) in
    let y = rest ws (l.i + 1) in
    let here = rest-here ws c.requires.letters_value.1 c.args.depths.now c.requires.depths_value l.i (omega arith) in (
      c.requires.letters_value.0,
      kind-small ws c.requires.letters_value.1 l.i (omega arith),
      omega (arith, text-fits (listing ws) x y l.at (l.invariant.left_over ∙ here) l.invariant.in_bounds, c.requires.words_in_bounds),
    )

pub loop-i-preserved : goal.loop-i-preserved
loop-i-preserved c =
    let l = c.loop-i in
    let ws = c.args.words.now in
    let x = indented (get_or c.args.depths.now l.i 0) (get_or ws l.i 0) in
    let y = rest ws (l.i + 1) in
    let e = l.invariant.left_over ∙ rest-here ws c.requires.letters_value.1 c.args.depths.now c.requires.depths_value l.i (omega arith) in
    let p = c.put_line-at.ensures in record {
      in_bounds = omega (arith, p.ends, text-fits (listing ws) x y l.at e l.invariant.in_bounds);
      left_over = ap (λ (n : ℕ). drop n (listing ws)) p.ends ∙ text-drop (listing ws) x y l.at e;
      written = reworded (sym (ap (λ (n : ℕ). take n (listing ws)) p.ends ∙ text-take (listing ws) x y l.at e)) (then l.invariant.written p);
    }

pub returns : goal.returns
returns c =
    let l = c.loop-i in
    let ws = c.args.words.now in
    let none : drop l.at (listing ws) ≡ [] = l.invariant.left_over ∙ rest_end ws c.requires.letters_value.1 l.i (omega arith) in
    whole-text (listing ws) l.at l.invariant.in_bounds none l.invariant.written
