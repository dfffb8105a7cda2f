-- What the program prints, from the bytes of its arguments and of its input (document 02, wishes 1, 4, 5, 13 and 14).
use Rattle.std.specs.Prelude.{ℕ, zero, suc, ◌+◌, ◌-◌, ◌%◌, Bool, true, false, ◌&&◌, List, [], ◌∷◌, ◌++◌, eqb, leb, ltb, length, get_or, take, drop, Option, Some, None}
use Rattle.text.specs.Text.{bytes, decimal, set}
use Rattle.little_endian.specs.LittleEndian.{words_of, bytes_of}
use Rattle.listing.specs.Spelling.{feed}
use Rattle.listing.specs.Listing.{Answered, done, refusal, most, listing, written, read_as}
use Rattle.listing.specs.Listing.{words_of as Listing·words_of}
use Rattle.manifest.specs.Manifest.{Outcome, accepted, refused, judged}
use Rattle.overlay.specs.Lookup.{Place, in_base, in_overlay, place_of}
use Rattle.overlay.specs.Lookup as lookup
use Rattle.overlay.specs.Join.{joined, join_answer}
use Rattle.overlay.specs.Join as join
use Rattle.widths.specs.Converters.{converted, convert_answer}
use Rattle.widths.specs.Converters as widths
use Rattle.report.specs.Lines.{refusal_line}
use Rattle.commands.specs.Arguments.{value_of}
use Rattle.commands.specs.Meanings.{lines_at, sentence, help}
use Rattle.commands.specs.Checked.{check_text}

-- a text, or the line of the refusal
unfoldable pub answer_text : Answered → List ℕ → List ℕ
answer_text (done n) text = text
answer_text (refusal number place) text = refusal_line number place

-- ---- explain NUMBER

unfoldable pub value_text : Option ℕ → List ℕ
value_text (Some n) = sentence n
value_text None = help

abbrev pub explain_text : (number : List ℕ) → List ℕ
explain_text number = value_text (value_of 10 number)

-- ---- manifest

unfoldable pub outcome_text : Outcome → List ℕ
outcome_text (accepted version permissions others) =
    (bytes "version " ++ decimal version) ++ (bytes " set " ++ set permissions) ++ (bytes " other " ++ decimal others) ++ bytes "\n"
outcome_text (refused number place) = refusal_line number place

abbrev pub manifest_text : (input : List ℕ) → List ℕ
manifest_text input = outcome_text (judged input)

-- ---- text, words

-- words in, their listing out
unfoldable pub listing_text : List ℕ → List ℕ
listing_text words = answer_text (written words most) (listing words)

unfoldable pub text_text : (input : List ℕ) → List ℕ
unfolding listing_text
text_text input = elim (length input % 4) [ zero ↦ listing_text (words_of input) | suc n ↦ refusal_line 30 0 ]

-- a listing in, its words out
unfoldable pub words_text : (input : List ℕ) → List ℕ
unfolding answer_text
words_text input = answer_text (read_as input 1024) (bytes_of (Listing·words_of input))

-- ---- join, block NAME SET: two listings, one after the other

-- `system` stands here
unfoldable pub starts_system : List ℕ → Bool
starts_system l =
    eqb (get_or l 0 0) 115
    && (eqb (get_or l 1 0) 121 && (eqb (get_or l 2 0) 115 && (eqb (get_or l 3 0) 116 && (eqb (get_or l 4 0) 101 && eqb (get_or l 5 0) 109))))

-- how many bytes stand before the next line that starts with `system`; `start` says whether a line starts here
unfoldable pub before : (start : Bool) → List ℕ → ℕ
unfolding starts_system
before start [] = 0
before start (b ∷ bs) = elim (start && starts_system (b ∷ bs)) [ true ↦ 0 | false ↦ suc (before (eqb b feed) bs) ]

-- the second listing starts with the first line but line 1 that starts with `system`
unfoldable pub first_listing : List ℕ → List ℕ
unfolding before
first_listing input = take (before false input) input

unfoldable pub second_listing : List ℕ → List ℕ
unfolding before
second_listing input = drop (before false input) input

-- a text, or the refusal of the first listing, or that of the second, whose number is 100 more
unfoldable pub pair_text : (first second : List ℕ) → List ℕ → List ℕ
pair_text first second text =
    elim (read_as first 1024) [
      | refusal number place ↦ refusal_line number place
      | done m ↦ elim (read_as second 1024) [ refusal number place ↦ refusal_line (100 + number) place | done n ↦ text ]
    ]

-- the listing of the joined system
unfoldable pub joined_text : (base overlay : List ℕ) → List ℕ
unfolding listing_text
joined_text base overlay =
    elim (join_answer base overlay 1024) [
      | join.written n ↦ listing_text (joined base overlay)
      | join.refusal number place ↦ refusal_line number place
    ]

unfoldable pub join_text : (input : List ℕ) → List ℕ
unfolding first_listing second_listing pair_text joined_text
join_text input =
    pair_text (first_listing input) (second_listing input)
    (joined_text (Listing·words_of (first_listing input)) (Listing·words_of (second_listing input)))

-- the lines of a block, where it stands: a word is a line
unfoldable pub place_text : (first second : List ℕ) → Place → List ℕ
unfolding lines_at
place_text first second (in_base a e) = lines_at a (e - a) first
place_text first second (in_overlay a e) = lines_at a (e - a) second
place_text first second (lookup.refusal number place) = refusal_line number place

unfoldable pub found_text : (name permissions : ℕ) (input : List ℕ) → List ℕ
unfolding first_listing second_listing pair_text place_text
found_text name permissions input =
    pair_text (first_listing input) (second_listing input)
    (place_text (first_listing input) (second_listing input)
    (place_of (Listing·words_of (first_listing input)) (Listing·words_of (second_listing input)) name permissions))

unfoldable pub key_text : (name permissions : Option ℕ) (input : List ℕ) → List ℕ
unfolding found_text
key_text (Some name) (Some permissions) input = found_text name permissions input
key_text (Some name) None input = help
key_text None permissions input = help

abbrev pub block_text : (name permissions input : List ℕ) → List ℕ
block_text name permissions input = key_text (value_of 10 name) (value_of 16 permissions) input

-- ---- pack RHO: a listing in, a system of the stream of a class out

-- the length, ρ and the words
abbrev pub packed : (ρ : ℕ) (words : List ℕ) → List ℕ
packed ρ words = bytes_of (length words ∷ ρ ∷ words)

-- a system of more than 256 words is none of a stream
unfoldable pub system_text : (ρ : ℕ) (words : List ℕ) → List ℕ
system_text ρ words = elim (ltb 256 (length words)) [ true ↦ refusal_line 59 0 | false ↦ packed ρ words ]

unfoldable pub pack_text : (ρ : ℕ) (input : List ℕ) → List ℕ
unfolding answer_text system_text
pack_text ρ input = answer_text (read_as input 1024) (system_text ρ (Listing·words_of input))

unfoldable pub packed_for : (ρ : Option ℕ) (input : List ℕ) → List ℕ
unfolding pack_text
packed_for (Some ρ) input = pack_text ρ input
packed_for None input = help

-- ---- widen, narrow: the words of a system in, those of the converted system out

unfoldable pub converted_text : (wide : Bool) → List ℕ → List ℕ
converted_text wide words =
    elim (convert_answer wide words 1024) [
      | widths.written n ↦ bytes_of (converted wide words)
      | widths.refusal number place ↦ refusal_line number place
    ]

unfoldable pub convert_text : (wide : Bool) (input : List ℕ) → List ℕ
unfolding converted_text
convert_text wide input = elim (length input % 4) [ zero ↦ converted_text wide (words_of input) | suc n ↦ refusal_line 30 0 ]

-- ---- the program

-- so many bytes more than the input has are room for the text of every command
abbrev pub room : ℕ
room = 81920

unfoldable pub same : List ℕ → List ℕ → Bool
same [] [] = true
same [] (b ∷ bs) = false
same (a ∷ l) [] = false
same (a ∷ l) (b ∷ bs) = eqb a b && same l bs

-- the commands that stand after the others, and the help where none is named
unfoldable pub other_text : (command first input : List ℕ) → List ℕ
unfolding packed_for convert_text same
other_text command first input =
    elim (same command (bytes "pack")) [
      | true ↦ packed_for (value_of 16 first) input
      | false ↦ elim (same command (bytes "widen")) [
        | true ↦ convert_text true input
        | false ↦ elim (same command (bytes "narrow")) [ true ↦ convert_text false input | false ↦ help ]
      ]
    ]

-- what is printed for a command, its two arguments and the input
unfoldable pub printed : (command first second input : List ℕ) → List ℕ
unfolding text_text words_text join_text key_text outcome_text value_text check_text same other_text
printed command first second input =
    elim (same command (bytes "text")) [
      | true ↦ text_text input
      | false ↦ elim (same command (bytes "words")) [
        | true ↦ words_text input
        | false ↦ elim (same command (bytes "join")) [
          | true ↦ join_text input
          | false ↦ elim (same command (bytes "block")) [
            | true ↦ block_text first second input
            | false ↦ elim (same command (bytes "manifest")) [
              | true ↦ manifest_text input
              | false ↦ elim (same command (bytes "explain")) [
                | true ↦ explain_text first
                | false ↦ elim (same command (bytes "check")) [ true ↦ check_text input | false ↦ other_text command first input ]
              ]
            ]
          ]
        ]
      ]
    ]

-- ---- lent bytes

-- the output has the room
unfoldable pub fits : (input size : ℕ) → Bool
fits input size = leb (room + input) size

-- how many bytes are written, where the input and the output have so many
unfoldable pub printed_size : List ℕ → (input size : ℕ) → ℕ
unfolding fits
printed_size text input size = elim (fits input size) [ true ↦ length text | false ↦ 0 ]

-- the bytes of the output after the call, from those before it
unfoldable pub out_after : List ℕ → (input : ℕ) → List ℕ → List ℕ
unfolding fits
out_after text input out = elim (fits input (length out)) [ true ↦ text ++ drop (length text) out | false ↦ out ]
