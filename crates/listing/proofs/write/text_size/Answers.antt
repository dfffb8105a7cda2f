use Prim.Native.Nat.{ℕ, ◌+◌, ◌*◌}
use mathlib.Core.Path.{ap, ◌∙◌}
use native.Mathlib.Nat.{zero-add}
use native.Mathlib.Omega.{arith}
use lib.ListN.{length}
use borrow.Author.Rules.{rules}
use Rattle.listing.proofs.Depths.{narrow_size}
use Rattle.listing.proofs.Lines.{rest, rest-start, rest_end, kind-small, depth-there, counted}
use Rattle.listing.proofs.write.text_size.Goals as goal

pub loop-i-init : goal.loop-i-init
loop-i-init c =
    (search rules, zero-add _ ∙ ap length (rest-start c.args.words.now c.requires.letters_value.1))

pub bounds-depths-i : goal.bounds-depths-i
bounds-depths-i c =
    omega (arith, depth-there c.args.words.now c.requires.letters_value.1 c.args.depths.now c.requires.depths_value)

pub spell-requires : goal.spell-requires
spell-requires c =
    (c.requires.letters_value.0, kind-small c.args.words.now c.requires.letters_value.1 c.loop-i.i (omega arith))

pub overflow_add-n-in-loop-i : goal.overflow_add-n-in-loop-i
overflow_add-n-in-loop-i c =
    record { fits = omega (arith, c.from.ensures, c.spell.ensures.upper_bound, narrow_size c.args.words.now c.requires.letters_value.1) }

pub loop-i-preserved : goal.loop-i-preserved
loop-i-preserved c =
    let l = c.loop-i in (
      omega (arith, c.from.ensures, c.spell.ensures.upper_bound),
      ap (λ (d : ℕ). l.n + (2 * d + c.spell.result) + length (rest c.args.words.now (l.i + 1))) c.from.ensures
          ∙ counted c.args.words.now c.requires.letters_value.1 c.args.depths.now c.requires.depths_value l.i l.n c.spell.result (omega arith) c.spell.ensures.line.ends l.invariant.1,
    )

pub returns : goal.returns
returns c =
    let l = c.loop-i in
    omega (arith, l.invariant.1, ap length (rest_end c.args.words.now c.requires.letters_value.1 l.i (omega arith)))
