-- The two calls over words, told over bytes.
use Prim.Native.Nat.{ℕ, zero, suc, ◌+◌, ◌*◌, ◌/◌, ◌%◌, ◌<◌, ◌≤◌}
use mathlib.Core.Path.{◌≡◌, refl, sym, ap, ◌∙◌, subst}
use mathlib.Core.Bool.{Bool, true, false}
use mathlib.Core.List.{List, [], ◌∷◌, ◌++◌}
use native.Mathlib.Omega.{arith}
use lib.Dec.{ltb}
use lib.ListN.{length, take, drop}
use borrow.Author.Tests.{lt-ltb, le-ltb}
use Rattle.table.specs.Scan.{first_of}
use Rattle.little_endian.specs.LittleEndian.{words_of, bytes_of, whole_words}
use Rattle.little_endian.proofs.First.{words-first}
use Rattle.std.specs.Prelude.{Result, Err}
use Rattle.listing.specs.declared.Refusal.{Refusal}
use Rattle.listing.specs.Listing.{Answered, done, refusal, left, tested, listing, written, read_as}
use Rattle.listing.specs.Answer.{place, answered}
use Rattle.listing.proofs.Places.{Within, write-first, write-first-left, in_room, read-room}
use Rattle.capi_text.specs.Interface.{answer_number, write_answer, in_bytes, read_answer, placed, PutAs}

-- the place of a refusal, as the answer has it
pub refused-within : (a : Result ℕ Refusal) (r : Refusal) (o : Answered) (m : ℕ) → a ≡ Err r → answered a ≡ o → Within m o → place r ≤ m
unfolding answered
refused-within a r o m e f w = subst (Within m) (sym f ∙ ap answered e) w

-- ---- writing

pub write-odd : (system : List ℕ) (room : ℕ) → (length system % 4 ≡ 0 → ⊥) → write_answer system room ≡ refusal 30 0
unfolding write_answer
write-odd system room n = go (length system % 4) n
  where
    go : (k : ℕ) → (k ≡ 0 → ⊥) → ◌≡◌ {A = Answered} (elim k [ zero ↦ written (words_of system) room | suc m ↦ refusal 30 0 ]) (refusal 30 0)
    go zero h = absurd (h refl)
    go (suc m) h = refl

pub write-even : (system : List ℕ) (room : ℕ) → length system % 4 ≡ 0 → write_answer system room ≡ written (words_of system) room
unfolding write_answer
write-even system room e = rw (e, write_answer)

-- the words that the code has: at most 1,025 of them
module _ (system zeros words : List ℕ) (n : ℕ) (long : length zeros ≡ 1025) (count : n ≡ whole_words system zeros) (content : words ≡ take n (words_of system) ++ drop n zeros) (room : ℕ) (out : List ℕ) (even : length system % 4 ≡ 0) where
  first : take n words ≡ take 1025 (words_of system)
  first = words-first 1025 system zeros words n long count content

  pub write-answer : written (take n words) room ≡ write_answer system room
  write-answer = ap (λ (v : List ℕ). written v room) first ∙ write-first (words_of system) room ∙ sym (write-even system room even)

  pub write-left : left (written (take n words) room) (listing (take n words)) out ≡ left (write_answer system room) (listing (words_of system)) out
  write-left =
      ap (λ (v : List ℕ). left (written v room) (listing v) out) first
      ∙ write-first-left (words_of system) room out
      ∙ ap (λ (a : Answered). left a (listing (words_of system)) out) (sym (write-even system room even))

-- ---- reading

module _ (number : ℕ) (words system : List ℕ) (count : ℕ) where
  pub put-short : (r : ℕ) → r ≡ 4294967296 + number * 65536 → length system / 4 < count → PutAs number words count system system r
  unfolding placed answer_number left
  put-short r q h =
      let e : placed number count (length system) ≡ refusal number 0 = rw (placed, lt-ltb (length system / 4) count h) in
      record { answer = q ∙ (omega arith) ∙ sym (ap answer_number e); bytes = sym (ap (λ (a : Answered). left a (bytes_of (take count words)) system) e) }

  pub put_whole : (after : List ℕ) → count ≤ length system / 4 → after ≡ bytes_of (take count words) ++ drop (4 * count) system
      → PutAs number words count system after (4 * count)
  unfolding placed answer_number left
  put_whole after h q =
      let e : placed number count (length system) ≡ done (4 * count) = rw (placed, le-ltb (length system / 4) count h) in
      record { answer = sym (ap answer_number e); bytes = q ∙ sym (ap (λ (a : Answered). left a (bytes_of (take count words)) system) e) }

-- where 1,024 words of room gave an answer
pub read_done : (text : List ℕ) (n size : ℕ) → read_as text 1024 ≡ done n → placed 42 n size ≡ read_answer text size
unfolding placed read_answer in_room in_bytes tested first_of
read_done text n size e = go (ltb (size / 4) n) ∙ sym (ap in_bytes (read-room text (size / 4) ∙ ap (in_room (size / 4)) e))
  where
    go : (b : Bool) → ◌≡◌ {A = Answered} (elim b [ true ↦ refusal 42 0 | false ↦ done (4 * n) ]) (in_bytes (tested ((b, 42) ∷ []) n))
    go true = refl
    go false = refl

pub read-refused : (text : List ℕ) (n p size : ℕ) → read_as text 1024 ≡ refusal n p → refusal n p ≡ read_answer text size
unfolding read_answer in_room in_bytes
read-refused text n p size e = sym (ap in_bytes (read-room text (size / 4) ∙ ap (in_room (size / 4)) e))
