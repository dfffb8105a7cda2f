-- `listing::read::place` meets its contract. Assumes nothing.
use mathlib.Core.Path.{refl, sym}
use lib.ListN.{length}
use Rattle.std.proofs.lemmas.Result.{err_from_is_err_and}
use Rattle.table.specs.Answer.{outcome}
use Rattle.listing.specs.Listing.{left}
use Rattle.listing.specs.Answer.{number, place, answered}
use Rattle.listing.proofs.Answers.{table-refused}
use Rattle.listing.proofs.read.place.Goals as goal

pub returns-in_err-read_narrow : goal.returns-in_err-read_narrow
unfolding answered left number place outcome
returns-in_err-read_narrow c =
    let p = err_from_is_err_and c.from_residual.result c.from_residual.ensures.1 in
    let e = table-refused c.args.words.now c.args.spaces.now (length c.args.out.now) _ _ (sym c.in_err-read_narrow.ensures) in
    rw (p.1, p.2) (record { result_value = sym e; out_after = refl })

pub place_accepted-requires : goal.place_accepted-requires
unfolding outcome
place_accepted-requires c =
    sym c.in_ok-read_narrow.ensures
