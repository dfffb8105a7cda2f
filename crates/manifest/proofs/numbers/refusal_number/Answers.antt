-- `manifest::numbers::refusal_number` meets its contract. Assumes nothing.
use mathlib.Core.Path.{sym, ap}
use Rattle.manifest.specs.Answer.{number}
use Rattle.manifest.proofs.numbers.refusal_number.Goals as goal

pub returns-in-NotObject : goal.returns-in-NotObject
returns-in-NotObject c = sym (ap number c.in-NotObject.is)

pub returns-in-KeyRepeated : goal.returns-in-KeyRepeated
returns-in-KeyRepeated c = sym (ap number c.in-KeyRepeated.is)

pub returns-in-NoVersion : goal.returns-in-NoVersion
returns-in-NoVersion c = sym (ap number c.in-NoVersion.is)

pub returns-in-NotStrings : goal.returns-in-NotStrings
returns-in-NotStrings c = sym (ap number c.in-NotStrings.is)
