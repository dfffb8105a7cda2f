-- The C interface of the converters: the system and the output as bytes.
use Rattle.std.specs.Prelude.{ℕ, zero, suc, ◌*◌, ◌/◌, ◌%◌, Bool, List, length}
use Rattle.little_endian.specs.LittleEndian.{words_of, bytes_of}
use Rattle.listing.specs.Listing.{Answered, done, refusal, left}
use Rattle.widths.specs.Converters.{converted, Answer, written, convert_answer}
use Rattle.widths.specs.Converters as widths

-- so many words are four times as many bytes
unfoldable pub converted_bytes : Answer → Answered
converted_bytes (written n) = done (4 * n)
converted_bytes (widths.refusal number place) = refusal number place

-- the answer, where the output has `size` bytes and counts whole words: 30 comes first
unfoldable pub converted_answer : (wide : Bool) (system : List ℕ) (size : ℕ) → Answered
converted_answer wide system size =
    elim (length system % 4) [ suc n ↦ refusal 30 0 | zero ↦ converted_bytes (convert_answer wide (words_of system) (size / 4)) ]

-- the bytes of the output after the call, from those before it
abbrev pub out_after : (wide : Bool) (system out : List ℕ) → List ℕ
out_after wide system out = left (converted_answer wide system (length out)) (bytes_of (converted wide (words_of system))) out
