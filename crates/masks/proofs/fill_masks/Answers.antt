-- `masks::fill_masks` meets its contract: the plain elements, and then what the words make.
-- Assumes nothing.
use mathlib.Core.Path.{sym, ap, ◌∙◌, subst}
use Prim.Native.Nat.{◌*◌}
use native.Mathlib.Omega.{arith}
use lib.ListN.{drop}
use Rattle.table.specs.Code.{code}
use Rattle.masks.specs.Masks.{Filled}
use Rattle.masks.proofs.FourMasks.{lead-some, lead-fits, plain-rest, plain-filled, filled_in}
use Rattle.masks.proofs.fill_masks.Goals as goal

pub fill_plain-requires : goal.fill_plain-requires
fill_plain-requires c =
    let k = code c.args.words.now in
    let h = c.requires.row_in_bounds in
    (lead-some k c.args.masks.now c.args.l c.requires.words_value.1, omega (arith, lead-fits k c.args.masks.now c.args.l c.requires.words_value.1), h.0, h.1)

pub overflow_mul-lead : goal.overflow_mul-lead
overflow_mul-lead c =
    omega (arith, lead-fits (code c.args.words.now) c.args.masks.now c.args.l c.requires.words_value.1, c.requires.row_in_bounds)

pub fill_made-requires : goal.fill_made-requires
unfolding code
fill_made-requires c =
    let a = c.args in
    let o = c.requires.words_value.1 in
    let w = code a.words.now in
    let f = lead-fits w a.masks.now a.l o in
    let k = c.fill_plain.auto.masks in
    let h = c.requires.row_in_bounds in record {
      words_value = (c.requires.words_value.0, o.lead);
      words_bound = (f, omega (arith, h, k), omega (arith, h, k));
      filled_2 = subst (Filled w a.l.row (32 * a.l.lead)) (sym c.fill_plain.ensures)
          (plain-filled a.masks.now a.l.row a.l.lead c.requires.by_index (lead-some w a.masks.now a.l o) (omega (arith, f)) h.0 w o.lead);
    }

pub returns : goal.returns
unfolding code
returns c =
    let a = c.args in
    let o = c.requires.words_value.1 in
    let w = code a.words.now in
    let p = c.fill_plain in
    let m = c.fill_made in
    let h = c.requires.row_in_bounds.0 in
    filled_in w _ a.l o (omega (arith, h, p.auto.masks, m.auto.masks)) m.ensures.filled a.masks.now
    (m.ensures.rest ∙ ap (drop (4 * a.l.row)) p.ensures
    ∙ plain-rest a.masks.now a.l.row a.l.lead c.requires.by_index (lead-some w a.masks.now a.l o) (omega (arith, lead-fits w a.masks.now a.l o)) h)
