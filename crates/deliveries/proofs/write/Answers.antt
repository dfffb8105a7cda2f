-- `deliveries::write` meets its contract. Assumes nothing.
use mathlib.Core.Path.{sym}
use Rattle.std.proofs.lemmas.Result.{err_from_is_err_and}
use Rattle.table.specs.Answer.{outcome}
use Rattle.listing.specs.Answer.{number, place, answered}
use Rattle.table.specs.Scan.{reading}
use Rattle.deliveries.specs.Text.{text, written}
use Rattle.deliveries.proofs.Answers.{refused-table}
use Rattle.deliveries.proofs.write.Goals as goal

pub returns-in_err-read : goal.returns-in_err-read
unfolding answered number place outcome written
returns-in_err-read c =
    let ws = c.args.words.now in
    let all = refused-table (reading ws) (text ws) c.args.out.now _ _ (sym c.in_err-read.ensures) in
    let p = err_from_is_err_and c.from_residual.result c.from_residual.ensures.1 in
    rw (p.1, p.2) (record { answer = all.0; text = all.1 })

pub write_accepted-requires : goal.write_accepted-requires
unfolding outcome
write_accepted-requires c =
    sym c.in_ok-read.ensures
