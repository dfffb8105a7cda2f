-- `class_report::stream::word_at` meets its contract. Assumes nothing.
use mathlib.Core.Path.{◌∙◌}
use Rattle.class_report.proofs.Fronts.{four_bytes}
use Rattle.class_report.proofs.stream.word_at.Goals as goal

pub returns : goal.returns
returns c =
    let a = c.args in
    c.word.ensures ∙ four_bytes a.stream.now a.at c.requires
