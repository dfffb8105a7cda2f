-- The C interface of a table laid over another: both tables and the output as bytes.
use Rattle.std.specs.Prelude.{ℕ, zero, suc, ◌+◌, ◌-◌, ◌*◌, ◌/◌, ◌%◌, ◌^◌, ◌≡◌, ◌≢◌, Option, MatchOption, List, length}
use Rattle.little_endian.specs.LittleEndian.{words_of, bytes_of}
use Rattle.listing.specs.Listing.{Answered, done, refusal, left}
use Rattle.overlay.specs.Lookup.{Place, in_base, in_overlay, place_of}
use Rattle.overlay.specs.Lookup as lookup
use Rattle.overlay.specs.Join.{Answer, written, joined, join_answer}
use Rattle.overlay.specs.Join as join

-- 30 where the base's bytes are no whole words, then 130 for the overlay's, 0 where both are
unfoldable pub odd_number : (base overlay : List ℕ) → ℕ
odd_number base overlay =
    elim (length base % 4) [ suc n ↦ 30 | zero ↦ elim (length overlay % 4) [ suc n ↦ 130 | zero ↦ 0 ] ]

-- the same, where none stands for 0
abbrev pub OddAs : (base overlay : List ℕ) → Option ℕ → Type 0
OddAs base overlay o = MatchOption o (odd_number base overlay ≡ 0) (λ n. (n ≡ odd_number base overlay) × (n ≢ 0))

-- ---- the look-up

unfoldable pub lookup_answer : (base overlay : List ℕ) (name perms : ℕ) → Place
lookup_answer base overlay name perms =
    elim (odd_number base overlay) [ suc n ↦ lookup.refusal (suc n) 0 | zero ↦ place_of (words_of base) (words_of overlay) name perms ]

-- offset + length × 2^16, both in bytes, + 2^33 in the overlay; refused, 2^32 + number × 65,536 + place
unfoldable pub place_number : Place → ℕ
place_number (in_base a e) = 4 * a + 4 * (e - a) * 65536
place_number (in_overlay a e) = 4 * a + 4 * (e - a) * 65536 + 2 ^ 33
place_number (lookup.refusal number place) = 2 ^ 32 + number * 65536 + place

-- ---- the join

-- so many words are four times as many bytes
unfoldable pub join_bytes : Answer → Answered
join_bytes (written n) = done (4 * n)
join_bytes (join.refusal number place) = refusal number place

-- the answer, where the output has `size` bytes and counts whole words
unfoldable pub joined_answer : (base overlay : List ℕ) (size : ℕ) → Answered
joined_answer base overlay size =
    elim (odd_number base overlay) [ suc n ↦ refusal (suc n) 0 | zero ↦ join_bytes (join_answer (words_of base) (words_of overlay) (size / 4)) ]

-- the bytes of the output after the call, from those before it
abbrev pub out_after : (base overlay out : List ℕ) → List ℕ
out_after base overlay out = left (joined_answer base overlay (length out)) (bytes_of (joined (words_of base) (words_of overlay))) out
