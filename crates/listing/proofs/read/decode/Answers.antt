use Prim.Native.Nat.{ℕ, ◌+◌}
use mathlib.Core.Path.{◌≡◌, refl, ◌∙◌, subst}
use Rattle.listing.specs.Decoding.{Taken}
use mathlib.Core.Logic.{inr}
use native.Mathlib.Omega.{arith}
use Rattle.listing.proofs.Cutting.{taken_start, line-bad, line_taken, indent-spaces}
use Rattle.listing.proofs.read.decode.Goals as goal

pub loop-n-init : goal.loop-n-init
loop-n-init c =
    taken_start _ _ _

pub word_in-requires : goal.word_in-requires
word_in-requires c =
    (c.requires.0, c.indent-s.ensures.spaces ∙ indent-spaces _, c.indent-s.ensures.upper_bound)

pub returns-in_default : goal.returns-in_default
returns-in_default c =
    let l = c.loop-n in
    let text = c.args.text.now in
    let e = c.line_end-end in
    (l.n + 1, refl, line-bad text l.n l.at e.result l.words l.spaces l.invariant (omega arith) e.ensures.0 c.in_default.ensures, omega arith)

pub loop-n-preserved : goal.loop-n-preserved
loop-n-preserved c =
    let l = c.loop-n in
    let text = c.args.text.now in
    let e = c.line_end-end in
    let w = c.in-Some in
    line_taken text l.n l.at e.result l.words l.spaces l.invariant (omega arith) e.ensures.0 w.w c.indent-s.result
    w.ensures.0 (c.indent-s.ensures.spaces ∙ indent-spaces _) w.ensures.1 e.ensures.1 (omega (arith, c.requires.1)) (omega (arith, c.requires.2))

pub returns : goal.returns
returns c =
    let l = c.loop-n in
    let all : l.n ≡ 1024 = omega arith in
    (subst (λ (n : ℕ). Taken c.args.text.now n l.at l.words l.spaces) all l.invariant, omega arith, inr refl)
