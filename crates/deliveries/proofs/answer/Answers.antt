-- `deliveries::answer` meets its contract. Assumes nothing.
use Rattle.deliveries.proofs.SendLines.{answer-is}
use Rattle.deliveries.proofs.answer.Goals as goal

pub returns : goal.returns
returns c =
    let a = c.args in
    answer-is a.words.now a.p a.home a.q _ _ _ _ _ _ _ _ c.handler_at-receiver.ensures c.handler_at-sender.ensures
    c.word_at.ensures c.argument_of.ensures c.of-required.ensures c.word_at-2.ensures c.name_for-name.ensures c.judge.ensures
