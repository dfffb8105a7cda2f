-- The C interface of listings: the system and the text as bytes.
use Rattle.std.specs.Prelude.{ℕ, zero, suc, ◌+◌, ◌*◌, ◌/◌, ◌%◌, ◌^◌, ◌≡◌, true, false, List, ltb, length, take}
use Rattle.little_endian.specs.LittleEndian.{words_of, bytes_of}
use Rattle.listing.specs.Listing.{Answered, done, refusal, left, listing, written, read_as}
use Rattle.listing.specs.Listing.{words_of as Listing·words_of}

-- how many bytes are written; refused, 2^32 + number × 65,536 + place
unfoldable pub answer_number : Answered → ℕ
answer_number (done n) = n
answer_number (refusal number place) = 2 ^ 32 + number * 65536 + place

-- the writer, over the bytes of a system and `room` bytes for the text: 30 comes first
unfoldable pub write_answer : List ℕ → ℕ → Answered
write_answer system room = elim (length system % 4) [ zero ↦ written (words_of system) room | suc n ↦ refusal 30 0 ]

-- the bytes of the text after the call, from those before it
abbrev pub text_after : List ℕ → List ℕ → List ℕ
text_after system text = left (write_answer system (length text)) (listing (words_of system)) text

-- so many words are four times as many bytes
unfoldable pub in_bytes : Answered → Answered
in_bytes (done n) = done (4 * n)
in_bytes (refusal number place) = refusal number place

-- the reader, where the system's slice has `size` bytes and counts whole words
unfoldable pub read_answer : List ℕ → ℕ → Answered
unfolding in_bytes
read_answer text size = in_bytes (read_as text (size / 4))

-- the bytes of the system's slice after the call, from those before it
abbrev pub system_after : List ℕ → List ℕ → List ℕ
system_after text system = left (read_answer text (length system)) (bytes_of (Listing·words_of text)) system

-- the answer where so many words are put into a slice of `size` bytes, which is refused with this number if it is too short
unfoldable pub placed : (number count size : ℕ) → Answered
placed number count size = elim (ltb (size / 4) count) [ true ↦ refusal number 0 | false ↦ done (4 * count) ]

-- so many of the words are put into the slice, or it is too short
pub record PutAs (number : ℕ) (words : List ℕ) (count : ℕ) (before after : List ℕ) (r : ℕ) : Type 0 where
  pub answer : r ≡ answer_number (placed number count (length before))
  pub bytes : after ≡ left (placed number count (length before)) (bytes_of (take count words)) before
