-- `capi::check::of_room` meets its contract: the words are those of the estimate. Assumes nothing.
use mathlib.Core.Path.{sym, ap, ◌∙◌}
use native.Mathlib.Omega.{arith}
use lib.ListN.{length}
use Rattle.audit.specs.Audited.{audited}
use Rattle.capi.specs.Check.{check_number}
use Rattle.capi.proofs.Audits.{place-fits}
use Rattle.capi.proofs.Taken.{taken-audited}
use Rattle.capi.proofs.check.of_room.Goals as goal

pub slice_bounds-audit-end-2 : goal.slice_bounds-audit-end-2
slice_bounds-audit-end-2 c =
    let t = c.take_words-n.ensures in t.count ∙ ap length (sym t.words)

pub check_number-requires : goal.check_number-requires
check_number-requires c =
    let a = c.args in
    let t = c.take_words-n.ensures in
    place-fits a.words.now a.rho _ _ c.audit.ensures.answer c.requires.0 (omega (arith, t.count, t.most, ap length t.words))

pub returns : goal.returns
returns c =
    let a = c.args in
    let t = c.take_words-n.ensures in
    c.check_number.ensures
    ∙ ap check_number
    (c.audit.ensures.answer ∙ ap (audited a.words.now a.rho) t.words ∙ taken-audited a.words.now a.rho a.estimate.now c.requires.0)
