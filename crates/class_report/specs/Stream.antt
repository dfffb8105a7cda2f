-- The stream of a class (document 02, wish 14): for each system its length in words, ρ, and its words, all little-endian. How it is cut into systems.
use Rattle.std.specs.Prelude.{ℕ, zero, suc, ◌+◌, ◌*◌, true, false, List, [], ◌∷◌, eqb, ltb, length, take, drop, Result, Option, Ok, Err, Some, None}
use Rattle.little_endian.specs.LittleEndian.{number as number_of}
use Rattle.class_report.specs.declared.Fault.{Fault}
use Rattle.class_report.specs.declared.Fault.TheVariants.{TooMany, TooLong, CutShort}

-- the most systems of a stream, and the most words of a system
abbrev pub most_systems : ℕ
most_systems = 10000

abbrev pub most_words : ℕ
most_words = 256

-- the opponent's set and the bytes of a system, without its length
pub record System : Type 0 where
  pub rho : ℕ
  pub bytes : List ℕ

unfoldable pub number : Fault → ℕ
number TooMany = 61
number TooLong = 59
number CutShort = 58

-- ---- the front of a stream

-- the word of the four bytes from a place on
unfoldable pub word_at : ℕ → List ℕ → ℕ
word_at at stream = number_of (take 4 (drop at stream))

-- the bytes that a system of so many words takes with its length and ρ
abbrev pub span : ℕ → ℕ
span size = 8 + 4 * size

-- the whole length word is there, and says so many words
unfoldable pub sized : List ℕ → (size : ℕ) → Result (Option ℕ) Fault
sized stream size =
    elim (ltb most_words size) [
      | true ↦ Err TooLong
      | false ↦ elim (ltb (length stream) (span size)) [ true ↦ Err CutShort | false ↦ Ok (Some size) ]
    ]

unfoldable pub front : List ℕ → Result (Option ℕ) Fault
unfolding sized word_at
front stream =
    elim (eqb (length stream) 0) [
      | true ↦ Ok None
      | false ↦ elim (ltb (length stream) 4) [ true ↦ Err CutShort | false ↦ sized stream (word_at 0 stream) ]
    ]

-- the system at the front, and what follows it
unfoldable pub system_at : List ℕ → (size : ℕ) → System
unfolding word_at
system_at stream size = record { rho = word_at 4 stream; bytes = take (4 * size) (drop 8 stream) }

abbrev pub after : List ℕ → (size : ℕ) → List ℕ
after stream size = drop (span size) stream

-- ---- the whole stream

-- how a stream ends: after a system, or with a fault
pub data Ending : Type 0 where
  whole : Ending
  broken : Fault → Ending

pub record Cut : Type 0 where
  pub systems : List System
  pub ending : Ending

abbrev pub further : System → Cut → Cut
further s c = record { systems = s ∷ c.systems; ending = c.ending }

-- where no system may follow
unfoldable pub full : List ℕ → Ending
full stream = elim (eqb (length stream) 0) [ true ↦ whole | false ↦ broken TooMany ]

-- a stream in which so many systems may follow
unfoldable pub cut : (left : ℕ) → List ℕ → Cut
unfolding front system_at full
cut zero stream = record { systems = []; ending = full stream }
cut (suc left) stream =
    elim (front stream) [
      | Ok None ↦ record { systems = []; ending = whole }
      | Err f ↦ record { systems = []; ending = broken f }
      | Ok (Some size) ↦ further (system_at stream size) (cut left (after stream size))
    ]
