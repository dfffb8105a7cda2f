-- `capi_text::overlays::odd_number` meets its contract. Assumes nothing.
use mathlib.Core.Path.{sym}
use native.Mathlib.Omega.{arith}
use Rattle.capi_text.proofs.TwoTables.{odd_base, odd-overlay, even-both}
use Rattle.capi_text.proofs.overlays.odd_number.Goals as goal

pub returns-then-base-ne0 : goal.returns-then-base-ne0
returns-then-base-ne0 c = (sym (odd_base _ _ c.if-base-ne0.true), λ e. omega (arith, e))

pub returns-then-overlay-ne0 : goal.returns-then-overlay-ne0
returns-then-overlay-ne0 c = (sym (odd-overlay _ _ c.if-base-ne0.false c.if-overlay-ne0.true), λ e. omega (arith, e))

pub returns : goal.returns
returns c = even-both _ _ c.if-base-ne0.false c.if-overlay-ne0.false
