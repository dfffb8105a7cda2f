-- Document 02's number for each refusal of a manifest, and what an answer says.
use Rattle.std.specs.Prelude.{ℕ, zero, suc, Option, None, Some, Result, Ok, Err}
use Rattle.manifest.specs.declared.Refusal.{Refusal}
use Rattle.manifest.specs.declared.Refusal.TheVariants.{NotObject, KeyRepeated, NoVersion, NotStrings}
use Rattle.manifest.specs.declared.Manifest.{Manifest}
use Rattle.manifest.specs.declared.members.Tally.{Tally}
use Rattle.manifest.specs.Members.{Count, not_strings, strings}
use Rattle.manifest.specs.Manifest.{Outcome, refused, accepted}

abbrev pub number : Refusal → ℕ
number NotObject = 43
number KeyRepeated = 44
number NoVersion = 45
number NotStrings = 46

abbrev pub outcome : Result Manifest Refusal → Outcome
outcome (Err r) = refused (number r) 0
outcome (Ok m) = accepted m.version m.set.bits m.others

-- how many strings an answer says to set nothing
abbrev pub others_in : Result Manifest Refusal → ℕ
others_in (Err r) = 0
others_in (Ok m) = m.others

-- the version of a value, where it is not the 0 of a value that spells none
abbrev pub spelled : ℕ → Option ℕ
spelled zero = None
spelled (suc v) = Some (suc v)

abbrev pub count_of : Option Tally → Count
count_of None = not_strings
count_of (Some t) = strings t.set.bits t.others

abbrev pub others_of : Option Tally → ℕ
others_of None = 0
others_of (Some t) = t.others
