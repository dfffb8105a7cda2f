-- `wiphosega::estimates::print_estimate` is safe: the layout of at most 1,024 words. Assumes nothing.
use Rattle.senders.proofs.Laws.{laid-size, row-few}
use Rattle.wiphosega.proofs.estimates.print_estimate.Goals as goal

pub words-n-requires : goal.words-n-requires
words-n-requires g c =
    let ws = c.args.words.now in
    (laid-size ws c.if-words-gt1024.false c.of.result c.of.ensures, row-few ws c.if-words-gt1024.false c.of.result c.of.ensures)
