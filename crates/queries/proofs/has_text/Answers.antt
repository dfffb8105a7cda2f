-- `queries::has_text` meets its contract. Assumes nothing.
use Rattle.queries.proofs.Laws.{text-is}
use Rattle.queries.proofs.has_text.Goals as goal

pub returns : goal.returns
returns c k o w = text-is k _ o _ w _ c.requires.1
