-- `reading_order::solved` meets its contract. Assumes nothing.
use Prim.Native.Nat.{ℕ, ◌≤◌}
use mathlib.Core.Path.{◌≡◌, refl, ap, ◌∙◌}
use mathlib.Core.List.{List}
use native.Mathlib.Omega.{arith}
use lib.ListN.{length}
use Rattle.std.proofs.lemmas.Result.{err_from_is_err_and}
use Rattle.table.specs.Code.{code}
use Rattle.reading_order.specs.Reply.{refused, reply_of}
use Rattle.reading_order.proofs.Replies.{or-short, over-in, arranged-in}
use Rattle.reading_order.proofs.solved.Goals as goal

-- there is room for all blocks
room : (ws bs ps : List ℕ) → bs ≡ (code ws).blocks → length bs ≤ length ps → length (code ws).blocks ≤ length ps
room ws bs ps e h = omega (arith, ap length e, h)

pub find_within-requires : goal.find_within-requires
find_within-requires c = c.requires.fits.fit

pub returns-in_err-find_within : goal.returns-in_err-find_within
unfolding reply_of
returns-in_err-find_within c =
    let a = c.args in
    let d = c.in_err-find_within.ensures in
    let p = err_from_is_err_and c.from_residual.result c.from_residual.ensures.1 in
    let says : reply_of c.from_residual.result ≡ refused 23 a.ceiling = rw (p.1, p.2, d.says.0, reply_of) refl in
    over-in a.words.now a.rho a.ceiling a.est.now a.work.now a.positions.now c.requires.fits
    (room _ _ _ c.requires.blocks_value.0 c.requires.blocks_value.1) _ _ _ d d.says.1 _ says

pub arranged_in-requires : goal.arranged_in-requires
arranged_in-requires c =
    let h = c.requires in
    (h.fits.fit.readable, omega (arith, h.fits.fit.long, c.find_within.auto.est), h.blocks_value.0)

pub returns : goal.returns
returns c =
    let a = c.args in
    let d = c.in_ok-find_within.ensures in
    arranged-in a.words.now a.rho a.ceiling a.est.now a.work.now a.positions.now c.requires.fits
    (room _ _ _ c.requires.blocks_value.0 c.requires.blocks_value.1) _ _ _ d (omega (arith, d.says.0, d.says.1)) _ _ _
    c.arranged_in.ensures (ap reply_of c.ok_or.ensures.value ∙ or-short _)
