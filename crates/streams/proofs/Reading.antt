-- What is known of a reader that is read in turns.
use Rattle.std.proofs.Common.{ℕ, ◌+◌, ◌<◌, ◌≤◌, List, ◌++◌, length, take, None, Some}
use Rattle.std.specs.Prelude.{⊤}
use Rattle.std.specs.declared.option.Option.{Option}
use Rattle.std.specs.Io.KnownBytes.{Consumes}
use Rattle.std.proofs.KnownBytes.{Consumes-trans}
use Rattle.streams.specs.Failures.{Loses, LosesTo}

-- at least m of the known bytes were read, or all of them
abbrev pub ReadsOn : Option (List ℕ) → Option (List ℕ) → ℕ → Type 0
ReadsOn None new m = ⊤
ReadsOn (Some xs) None m = ⊥
ReadsOn (Some xs) (Some ys) m = 0 < length ys → length ys + m ≤ length xs

-- what was lost after bs were read
pub Loses-read : {a b c : Option (List ℕ)} (bs : List ℕ) → Consumes a b bs → Loses b c → Loses a c
Loses-read {a} {b} {c} bs p q = record { bytes = bs ++ q.bytes; lost = Consumes-trans a b c bs q.bytes p q.lost }

pub Loses-trans : {a b c : Option (List ℕ)} → Loses a b → Loses b c → Loses a c
Loses-trans p q = Loses-read p.bytes p.lost q

-- what a read took, after what was lost before it
pub Loses-then : {a b c : Option (List ℕ)} (bs : List ℕ) → Loses a b → Consumes b c bs → Loses a c
Loses-then bs p q = Loses-trans p (record { bytes = bs; lost = q })

pub LosesTo-loses : {a b : Option (List ℕ)} {buffer : List ℕ} → LosesTo a b buffer → Loses a b
LosesTo-loses {buffer = buffer} p = record { bytes = take p.count buffer; lost = p.lost }
