-- `rows::row::any` meets its contract. Assumes nothing.
use Rattle.rows.proofs.Laws.{next-meets}
use Rattle.rows.proofs.row.any.Goals as goal

pub returns : goal.returns
returns c =
    let a = c.args in
    next-meets a.mask.now a.row.now c.next_common.result c.next_common.ensures
