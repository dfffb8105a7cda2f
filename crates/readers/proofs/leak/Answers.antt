use mathlib.Core.Path.{◌≡◌, sym, ap, ◌∙◌, subst}
use Prim.Native.Nat.{ℕ, ◌+◌, ◌<◌}
use native.Mathlib.Omega.{arith}
use lib.Bits.{bit_or}
use lib.ListN.{length}
use Rattle.table.specs.declared.Link.{Link}
use Rattle.table.specs.Code.{code, end_of}
use Rattle.table.proofs.Blocks.{Follows}
use Rattle.calculus.specs.Estimate.{leak_among}
use Rattle.table.proofs.BlockLoop.{blocks_on, named-there, follows-first, next-is, follows_next, next-later}
use Rattle.readers.proofs.Found.{leak-start, leak-step, leak-end}
use Rattle.readers.proofs.leak.Goals as goal

pub loop-b-init : goal.loop-b-init
loop-b-init c =
    let a = c.args in
    let h = c.requires in
    (follows-first a.words.now h.readable, leak-start a.words.now h.readable a.rho.bits a.est.now)

pub loop-b-smaller : goal.loop-b-smaller
loop-b-smaller c =
    let a = c.args in
    let h = c.requires in
    let i = c.loop-b in
    let g : i.b < length a.words.now = c.loop-b-test.true in
    let t = named-there a.words.now h.readable i.b i.invariant.0 g in
    let e : c.link_at-b.result.end ≡ end_of a.words.now (i.b + 3) =
    ap (λ (x : Link). x.end) c.link_at-b.ensures ∙ next-is a.words.now h.readable i.b g t a.links.now h.linked in
    omega (arith, e, next-later a.words.now h.readable i.b g t, g)

pub loop-b-preserved : goal.loop-b-preserved
loop-b-preserved c =
    let a = c.args in
    let h = c.requires in
    let i = c.loop-b in
    let g : i.b < length a.words.now = c.loop-b-test.true in
    let t = named-there a.words.now h.readable i.b i.invariant.0 g in
    let e : c.link_at-b.result.end ≡ end_of a.words.now (i.b + 3) =
    ap (λ (x : Link). x.end) c.link_at-b.ensures ∙ next-is a.words.now h.readable i.b g t a.links.now h.linked in
    let on : ℕ → ℕ = λ b. leak_among (code a.words.now) a.rho.bits a.est.now (blocks_on a.words.now b) in (
      subst (Follows a.words.now) (sym e) (follows_next a.words.now h.readable i.b g t),
      ap (λ (b : ℕ). bit_or (bit_or i.bits c.leak_at-bits.result.bits) (on b)) e
          ∙ ap (λ (x : ℕ). bit_or (bit_or i.bits x) (on (end_of a.words.now (i.b + 3)))) c.leak_at-bits.ensures
          ∙ leak-step a.words.now h.readable a.rho.bits a.est.now i.b g t i.bits
          ∙ i.invariant.1,
    )

pub returns : goal.returns
returns c =
    let a = c.args in
    let h = c.requires in
    let i = c.loop-b in
    sym (leak-end a.words.now h.readable a.rho.bits a.est.now i.b i.invariant.0 c.loop-b-test.false i.bits) ∙ i.invariant.1
