use lib.Seq.{take_all}
use Rattle.listing.proofs.Taken.{taken_more}
use Prim.Native.Nat.{ℕ}
use mathlib.Core.Path.{◌≡◌, refl, sym, ap, ◌∙◌}
use native.Mathlib.Omega.{arith}
use lib.ListN.{length, take}
use borrow.Author.Rules.{rules}
use Rattle.table.proofs.Widths.{no-wide-word}
use Rattle.listing.specs.Listing.{depths as Listing·depths}
use Rattle.listing.proofs.Depths.{narrow_size, waits_start, depths-length, depth-inside, depth-first, depth_low, depth-room, depth-on}
use Rattle.listing.proofs.depth.find_depths.Goals as goal

pub loop-i-init : goal.loop-i-init
loop-i-init c =
    record { stack_size = refl; top_in_bounds = search rules; waiting = waits_start c.args.words.now c.requires.0; written = refl }

pub bounds-stack-top : goal.bounds-stack-top
bounds-stack-top c =
    let l = c.loop-i in
    let ws = c.args.words.now in
    omega (arith, depth-inside ws l.stack l.top l.i l.invariant.waiting (omega arith) (no-wide-word ws c.requires.0 l.i (omega arith)))

pub push_left-top-requires : goal.push_left-top-requires
push_left-top-requires c =
    let l = c.loop-i in
    let ws = c.args.words.now in
    let five = no-wide-word ws c.requires.0 l.i (omega arith) in (
      depth-room ws l.stack l.top l.i l.invariant.waiting (omega arith) five (omega (arith, narrow_size ws c.requires.0)),
      omega (arith, depth-inside ws l.stack l.top l.i l.invariant.waiting (omega arith) five),
      depth_low ws l.stack l.top l.i l.invariant.waiting (omega arith) five,
    )

pub loop-i-preserved : goal.loop-i-preserved
loop-i-preserved c =
    let l = c.loop-i in
    let ws = c.args.words.now in
    let five = no-wide-word ws c.requires.0 l.i (omega arith) in
    let p = c.push_left-top.ensures in
    record {
      stack_size = search rules;
      top_in_bounds = omega (arith, p.d_value, depth-inside ws l.stack l.top l.i l.invariant.waiting (omega arith) five);
      waiting = depth-on ws l.stack l.top l.i l.invariant.waiting (omega arith) five c.push_left-top.new.stack c.push_left-top.result p.stack_after;
      written =
          taken_more l.depths (Listing·depths ws) l.i _ (omega arith) (omega (arith, depths-length ws c.requires.0))
          (depth-first ws l.stack l.top l.i l.invariant.waiting (omega arith) five) l.invariant.written;
    }

pub returns : goal.returns
returns c =
    let l = c.loop-i in
    let ws = c.args.words.now in
    let all : l.i ≡ length ws = omega arith in
    ap (λ (n : ℕ). take n l.depths) (sym all) ∙ l.invariant.written ∙ take_all l.i (Listing·depths ws) (omega (arith, depths-length ws c.requires.0))
