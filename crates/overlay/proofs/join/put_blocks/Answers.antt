-- `overlay::join::put_blocks` meets its contract.
-- Assumes nothing.
use mathlib.Core.Path.{◌≡◌, refl, sym, ap, subst, ◌∙◌}
use mathlib.Core.Logic.{inl, inr}
use mathlib.Core.List.{List, [], ◌++◌, flatten, append-nil}
use Prim.Native.Nat.{ℕ, ◌+◌, ◌-◌, ◌≤◌}
use native.Mathlib.Nat.{add-zero, zero-add}
use native.Mathlib.Omega.{arith}
use lib.ListN.{get_or, drop}
use Rattle.table.specs.Words.{narrow, argument}
use Rattle.blocks.specs.Blocks.{cut, blocks}
use Rattle.blocks.proofs.Tables.{Cuts}
use Rattle.blocks.proofs.Narrow.{table as accepted-table}
use Rattle.blocks.proofs.Places.{here}
use Rattle.overlay.specs.Parts.{some, is_new}
use Rattle.overlay.proofs.Appended.{appended-as, appended-none}
use Rattle.overlay.proofs.Going.{parts, Going, goes_on}
use Rattle.overlay.proofs.join.put_blocks.Goals as goal
use Rattle.overlay.proofs.join.put_blocks.Goals.{then-end-after, else-end-after}

pub bounds-table-0 : goal.bounds-table-0
bounds-table-0 c = (accepted-table _ c.requires.1).inside

pub loop-init : goal.loop-init
unfolding blocks
loop-init c =
    let a = c.args in
    let ws = a.table.now in
    let t = accepted-table ws c.requires.1 in
    let n : c.argument_of-handlers.result - 0 ≡ argument (get_or ws 0 0) = omega (arith, c.argument_of-handlers.ensures) in
    let all : parts (is_new a.wanted) a.other.now (cut (c.argument_of-handlers.result - 0) (drop 1 ws)) ≡ parts (is_new a.wanted) a.other.now (blocks ws) =
    ap (λ (k : ℕ). parts (is_new a.wanted) a.other.now (cut k (drop 1 ws))) n in
    let few : c.argument_of-handlers.result - 0 ≤ 32 = subst (λ (k : ℕ). k ≤ 32) (sym n) t.few in
    record {
      inside = t.inside;
      cuts = subst (λ (k : ℕ). Cuts narrow k (drop 1 ws)) (sym n) t.cuts;
      room = omega arith;
      few = omega arith;
      same = refl;
      counted = zero-add _ ∙ ap some all;
      done = [];
      split = ap flatten all;
      written = appended-none a.start a.out.now;
    }

pub block_end-next-requires : goal.block_end-next-requires
block_end-next-requires c = ((accepted-table _ c.requires.1).short, c.loop.invariant.inside)

pub put_block-after-requires : goal.put_block-after-requires
put_block-after-requires c =
    let l = c.loop in
    let g = l.invariant in
    let r = here narrow c.args.table.now (c.argument_of-handlers.result - l.counter) l.at (omega arith) g.inside g.cuts in
    let e : c.block_end-next.result ≡ l.at + r.size = c.block_end-next.ensures ∙ ap (λ (k : ℕ). l.at + k) (sym r.sized) in
    let i = r.inside in
    let k = r.long in
    let m = g.room in
    let p = c.requires.0 in
    (omega arith, omega arith, omega arith, (accepted-table _ c.requires.1).short, c.requires.2)

pub loop-preserved : goal.loop-preserved
loop-preserved c =
    let l = c.loop in
    let g = l.invariant in
    let a = c.args in
    let left : ℕ = c.argument_of-handlers.result - l.counter in
    let less : left - 1 ≡ c.argument_of-handlers.result - (l.counter + 1) = omega arith in
    subst (λ (k : ℕ). Going a.out.now a.start a.table.now a.other.now (is_new a.wanted) c.put_block-after.new.out k c.block_end-next.result c.put_block-after.result c.if-end-after.count) less
    (goes_on g c.requires.1 c.requires.2 (omega arith) (here narrow a.table.now left l.at (omega arith) g.inside g.cuts) c.block_end-next.result
    c.block_end-next.ensures c.put_block-after.auto.out c.put_block-after.ensures
    (elim c.if-end-after.branch [ then-end-after w ↦ inl (w.count-is, w.if-end-after.true) | else-end-after w ↦ inr (w.count-is, w.if-end-after.false) ]))

pub returns : goal.returns
unfolding cut flatten some
returns c =
    let l = c.loop in
    let g = l.invariant in
    let a = c.args in
    let none : c.argument_of-handlers.result - l.counter ≡ 0 = omega arith in
    let left : parts (is_new a.wanted) a.other.now (cut (c.argument_of-handlers.result - l.counter) (drop l.at a.table.now)) ≡ [] =
    ap (λ (k : ℕ). parts (is_new a.wanted) a.other.now (cut k (drop l.at a.table.now))) none in
    record {
      appended = appended-as (sym (ap (λ (p : List (List ℕ)). g.done ++ flatten p) (sym left) ∙ g.split) ∙ append-nil g.done) g.written;
      counts = sym (add-zero l.count) ∙ ap (λ (p : List (List ℕ)). l.count + some p) (sym left) ∙ g.counted;
      near = let h = g.room in omega arith;
      few = let h = g.few in omega arith;
    }
