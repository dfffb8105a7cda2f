use Rattle.order_text.proofs.Laws.{spaced-step, spaced-end}
use Rattle.order_text.proofs.put_positions.Goals as goal

pub loop-position-preserved : goal.loop-position-preserved
loop-position-preserved c =
    let f = c.number_field-next.ensures in
    spaced-step c.loop-position.invariant c.loop-position-test.true f.wrote f.upper_bound

pub returns : goal.returns
returns c = spaced-end c.loop-position.invariant c.loop-position-test.false
