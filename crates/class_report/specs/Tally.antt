-- The counts that stand for the systems read so far.
use Rattle.std.specs.Prelude.{ℕ, suc, ◌+◌, min, Bool, true, false, List, [], ◌∷◌, replicate, Ok, Err}
use Rattle.permset.specs.Sets.{width, member}
use Rattle.class_report.specs.Outcome.{Outcome}
use Rattle.class_report.specs.declared.Tally.{Tally}
use Rattle.class_report.specs.Stream.{most_systems}

-- before the first system
abbrev pub fresh : Tally
fresh = record { accepted = 0; refused = 0; leaks = replicate width 0 }

-- the position of the next system
abbrev pub position : Tally → ℕ
position t = t.accepted + t.refused

-- one more, up to the most systems of a stream
unfoldable pub raised : Bool → ℕ → ℕ
raised true n = min most_systems (suc n)
raised false n = n

-- the counts of the permissions from i on, with one more for those in the set
unfoldable pub counted : (i set : ℕ) → List ℕ → List ℕ
unfolding raised
counted i s [] = []
counted i s (n ∷ ns) = raised (member s i) n ∷ counted (suc i) s ns

-- one system more
unfoldable pub tallied : Tally → Outcome → Tally
unfolding raised counted
tallied t (Ok s) = record { accepted = raised true t.accepted; refused = t.refused; leaks = counted 0 s.bits t.leaks }
tallied t (Err r) = record { accepted = t.accepted; refused = raised true t.refused; leaks = t.leaks }
