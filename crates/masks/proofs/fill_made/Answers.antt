use mathlib.Core.Path.{◌≡◌, sym, ap, ◌∙◌, subst}
use Prim.Native.Nat.{◌+◌, ◌*◌, ◌≤◌, ◌<◌}
use native.Mathlib.Omega.{arith}
use lib.ListN.{length, drop}
use Rattle.table.specs.Code.{code}
use Rattle.masks.specs.Masks.{Filled}
use Rattle.masks.proofs.FourMasks.{word-rest, one_more}
use Rattle.masks.proofs.fill_made.Goals as goal

pub loop-p-preserved : goal.loop-p-preserved
loop-p-preserved c =
    let l = c.loop-p in let a = c.args in let e = c.set_word.ensures in
    let n : length l.masks ≡ length a.masks.now = l.auto.masks in
    let i : a.first + l.p < 32 * a.row = omega (arith, c.requires.words_bound) in
    let k : 4 * a.row ≤ length l.masks = omega (arith, c.requires.words_bound) in (
      subst (Filled (code a.words.now) a.row (a.first + (l.p + 1))) (sym e)
          (one_more a.words.now l.masks a.row a.first l.p c.requires.words_value.0 c.requires.words_value.1 i k _ c.word_makes.ensures l.invariant.0),
      ap (drop (4 * a.row)) e ∙ word-rest l.masks a.row (a.first + l.p) _ i k ∙ l.invariant.1,
    )
