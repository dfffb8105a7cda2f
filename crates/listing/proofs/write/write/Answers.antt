-- `listing::write::write` meets its contract. Assumes nothing.
use mathlib.Core.Path.{sym, ap, ◌∙◌}
use lib.ListN.{length}
use Rattle.std.proofs.lemmas.Result.{err_from_is_err_and}
use Rattle.table.specs.Answer.{outcome}
use Rattle.listing.specs.Listing.{Answered, left, listing}
use Rattle.listing.specs.Answer.{number, place, answered}
use Rattle.listing.proofs.Answers.{write-refused}
use Rattle.listing.proofs.write.write.Goals as goal

pub returns-in_err-read_narrow : goal.returns-in_err-read_narrow
unfolding answered left number place outcome
returns-in_err-read_narrow c =
    let p = err_from_is_err_and c.from_residual.result c.from_residual.ensures.1 in
    let ws = c.args.words.now in
    let e = write-refused ws (length c.args.out.now) _ _ (sym c.in_err-read_narrow.ensures) in
    rw (p.1, p.2) (record { answer = sym e; text = sym (ap (λ (a : Answered). left a (listing ws) c.args.out.now) e) })

pub write_accepted-requires : goal.write_accepted-requires
unfolding outcome
write_accepted-requires c =
    sym c.in_ok-read_narrow.ensures

pub returns : goal.returns
returns c =
    let w = c.write_accepted.ensures in
    record {
      answer = w.result_value;
      text = w.out_after ∙ ap (λ (a : Answered). left a (listing c.args.words.now) c.args.out.now) w.result_value;
    }
