use mathlib.Core.Path.{sym, ap, ◌∙◌}
use native.Mathlib.Omega.{arith}
use Rattle.table.specs.declared.Link.{Link}
use Rattle.table.proofs.BlockLoop.{named-there, follows-first, next-is, follows_next, next-later}
use Rattle.calculus.proofs.BlockRules.{all_start, all-step, all_end}
use Rattle.rows.proofs.Laws.{facts-most}
use Rattle.queries.proofs.Given.{sized}
use Rattle.firing.proofs.Deliver.{block-kind, block-well}
use Rattle.firing.proofs.sends.send_all.Goals as goal

pub loop-b-init : goal.loop-b-init
loop-b-init c = let r = c.requires.0.readable in (c.requires.2, follows-first _ r, all_start _ r _ _, omega arith)

pub send_to-added-requires : goal.send_to-added-requires
send_to-added-requires c =
    let i = c.loop-b in let r = c.requires.0.readable in let g = c.loop-b-test.true in
    (c.requires.1, i.invariant.0, block-kind _ r i.b g (named-there _ r i.b i.invariant.1 g))

pub overflow_add-added : goal.overflow_add-added
overflow_add-added c =
    let t = c.send_to-added in let i = c.loop-b.invariant in
    omega (arith, t.ensures.count, i.3, facts-most t.new.est, t.auto.est, (sized c.requires.0 i.0).short)

pub loop-b-smaller : goal.loop-b-smaller
loop-b-smaller c =
    let i = c.loop-b in let y = c.requires.0 in let r = y.readable in let g = c.loop-b-test.true in let t = named-there _ r i.b i.invariant.1 g in
    omega (arith, ap (λ (k : Link). k.end) c.link_at-b.ensures, next-is _ r i.b g t _ (record { slice = y.slice; room = y.room; made = y.from }), next-later _ r i.b g t, g)

pub loop-b-preserved : goal.loop-b-preserved
loop-b-preserved c =
    let u = c.send_to-added in let i = c.loop-b in let y = c.requires.0 in let r = y.readable in let g = c.loop-b-test.true in
    let t = named-there _ r i.b i.invariant.1 g in
    let n = ap (λ (k : Link). k.end) c.link_at-b.ensures ∙ next-is _ r i.b g t _ (record { slice = y.slice; room = y.room; made = y.from }) in (
      block-well c.requires.1 i.b (block-kind _ r i.b g t) i.invariant.0 u.ensures.words,
      rw n (follows_next _ r i.b g t),
      rw n (all-step _ r _ i.b g t i.est _ u.ensures.words ∙ i.invariant.2),
      omega (arith, u.ensures.count, i.invariant.3),
    )

pub returns : goal.returns
returns c =
    let i = c.loop-b in
    record { words = sym (all_end _ c.requires.0.readable _ i.b i.invariant.1 c.loop-b-test.false i.est) ∙ i.invariant.2; count = i.invariant.3 }
