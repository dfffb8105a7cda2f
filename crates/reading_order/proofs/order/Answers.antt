-- `reading_order::order` meets its contract. Assumes nothing.
use mathlib.Core.Path.{◌≡◌, refl}
use Rattle.std.proofs.lemmas.Result.{err_from_is_err_and}
use Rattle.calls.specs.Faults.{fault_number, fault_place}
use Rattle.reading_order.specs.Reply.{refused, reply_of}
use Rattle.reading_order.proofs.Replies.{refused-in}
use Rattle.reading_order.proofs.order.Goals as goal

pub checked-requires : goal.checked-requires
checked-requires c = c.in_ok-check.ensures

pub returns-in_err-check : goal.returns-in_err-check
unfolding reply_of
returns-in_err-check c =
    let a = c.args in
    let f = c.in_err-check.field-0.0 in
    let p = err_from_is_err_and c.from_residual.result c.from_residual.ensures.1 in
    let says : reply_of c.from_residual.result ≡ refused (fault_number f) (fault_place f) = rw (p.1, p.2, reply_of) refl in
    let r = refused-in a.words.now a.rho a.ceiling a.est.now a.work.now a.positions.now f c.in_err-check.ensures _ says in
    record { answer = r.replies; estimate = r.estimates; work = r.works; positions = r.writes; meaning = r.means }

pub returns : goal.returns
returns c =
    let r = c.checked.ensures in
    record { answer = r.replies; estimate = r.estimates; work = r.works; positions = r.writes; meaning = r.means }
