-- Bit 32 of an answer says whether it is a refusal, for all bytes: of a manifest, of a look-up, of a join and of a converter. Assumes nothing.
use Prim.Native.Nat.{ℕ, zero, suc, ◌+◌, ◌-◌, ◌*◌, ◌/◌, ◌%◌, ◌^◌, ◌<◌, ◌≤◌}
use mathlib.Core.Path.{◌≡◌, refl, sym, ap, subst, ◌∙◌}
use mathlib.Core.Bool.{Bool, true, false}
use mathlib.Core.List.{List, []}
use native.Mathlib.Omega.{arith}
use native.Mathlib.Decide.{ℕ_discrete}
use lib.ListN.{length, replicate, length-replicate}
use Rattle.manifest.specs.Strings.{ascii}
use Rattle.manifest.specs.Members.{Count, not_strings, strings, repeated, find}
use Rattle.manifest.specs.Manifest.{Outcome, refused, accepted, is_object, sources, total, version, counts, judged_from, judged}
use Rattle.manifest.proofs.Judged.{judged-not, judged-object, judged-repeated, judged-unversioned, judged-versioned}
use Rattle.manifest.proofs.Bounds.{Small, judged-small}
use Rattle.little_endian.specs.LittleEndian.{words_of}
use Rattle.listing.specs.Listing.{Answered, done, refusal}
use Rattle.overlay.specs.Lookup.{Place, in_base, in_overlay}
use Rattle.overlay.specs.Lookup as lookup
use Rattle.overlay.specs.Join.{Answer, written, join_answer}
use Rattle.overlay.specs.Join as join
use Rattle.overlay.proofs.Theorems.{joined-few}
use Rattle.table.proofs.Limits.{size-le}
use Rattle.widths.specs.Converters.{convertible, convert_answer}
use Rattle.widths.specs.Converters as widths
use Rattle.widths.proofs.Theorems.{answer-written, converted-accepted}
use Rattle.capi_text.specs.Interface.{answer_number}
use Rattle.capi_text.specs.Manifest.{outcome_number}
use Rattle.capi_text.specs.Overlay.{odd_number, lookup_answer, place_number, join_bytes, joined_answer}
use Rattle.capi_text.specs.Converters.{converted_bytes, converted_answer}
use Rattle.capi_text.proofs.Converted.{odd-bytes, whole_words_lem, converted-small}
use Rattle.capi_text.proofs.TwoTables.{Inside, place-small, odd-small, lookup-odd, lookup-even, join-odd, join-even, join-refused-small}

unfoldable pub refused_bit : Outcome → ℕ
refused_bit (accepted version set others) = 0
refused_bit (refused number place) = 1

-- the parts of an answer fit their bits
abbrev Fits : Outcome → Type 0
Fits (accepted version set others) = (version < 4) × (set < 2 ^ 24)
Fits (refused number place) = (number < 2 ^ 15) × (place < 2 ^ 16)

counts-fit : (v : ℕ) (c : Count) → Small (counts v c) → Fits (counts v c)
counts-fit v not_strings h = (omega arith, omega arith)
counts-fit v (strings set others) h = h

from-fit : (ms : List (List ℕ)) → Small (judged_from ms) → Fits (judged_from ms)
from-fit ms h = by (repeated [] ms) (version (find (ascii "manifest_version") ms)) refl refl
  where
    by : (b : Bool) (v : ℕ) → repeated [] ms ≡ b → version (find (ascii "manifest_version") ms) ≡ v → Fits (judged_from ms)
    by true v p q = subst Fits (sym (judged-repeated ms p)) (omega arith, omega arith)
    by false zero p q = subst Fits (sym (judged-unversioned ms p q)) (omega arith, omega arith)
    by false (suc n) p q =
        let e = judged-versioned ms p (suc n) q (λ z. omega arith) in
        subst Fits (sym e) (counts-fit (suc n) (total (sources (suc n)) ms (strings 0 0)) (subst Small e h))

judged-fit : (text : List ℕ) → Fits (judged text)
judged-fit text = by (is_object text) refl
  where
    by : (b : Bool) → is_object text ≡ b → Fits (judged text)
    by false p = subst Fits (sym (judged-not text p)) (omega arith, omega arith)
    by true p =
        let e = judged-object text p in subst Fits (sym e) (from-fit _ (subst Small e (judged-small text)))

bit : (o : Outcome) → Fits o → outcome_number o / 2 ^ 32 % 2 ≡ refused_bit o
unfolding outcome_number refused_bit
bit (accepted version set others) h = omega (arith, h.0, h.1)
bit (refused number place) h = omega (arith, h.0, h.1)

pub bit_32 : (text : List ℕ) → outcome_number (judged text) / 2 ^ 32 % 2 ≡ refused_bit (judged text)
bit_32 text = bit (judged text) (judged-fit text)

-- a refusal of a manifest has the place 0
pub refused-number : (r number : ℕ) → r ≡ 2 ^ 32 + number * 65536 + 0 → r ≡ outcome_number (refused number 0)
unfolding outcome_number
refused-number r number e = omega arith

-- ---- a table laid over another

lookup-small : (base overlay : List ℕ) (n s : ℕ) → Inside (lookup_answer base overlay n s)
lookup-small base overlay n s = go (ℕ_discrete (odd_number base overlay) 0)
  where
    go : Dec (odd_number base overlay ≡ 0) → Inside (lookup_answer base overlay n s)
    go (yes e) = subst Inside (sym (lookup-even base overlay e n s)) (place-small _ _ n s)
    go (no h) = subst Inside (sym (lookup-odd base overlay h n s)) (odd-small base overlay, omega arith)

-- the fields of an answer: bits 0 to 15, bits 16 to 31, and the bits from 32 on, of which bit 32 is that of a refusal
abbrev Fields : Place → ℕ → Type 0
Fields (in_base a e) k = (k % 65536 ≡ 4 * a) × (k / 65536 % 65536 ≡ 4 * (e - a)) × (k / 2 ^ 32 ≡ 0)
Fields (in_overlay a e) k = (k % 65536 ≡ 4 * a) × (k / 65536 % 65536 ≡ 4 * (e - a)) × (k / 2 ^ 32 ≡ 2)
Fields (lookup.refusal n p) k = (k % 65536 ≡ p) × (k / 65536 % 65536 ≡ n) × (k / 2 ^ 32 ≡ 1)

split : (k x y z : ℕ) → x < 65536 → y < 65536 → k ≡ x + y * 65536 + z * 2 ^ 32
    → (k % 65536 ≡ x) × (k / 65536 % 65536 ≡ y) × (k / 2 ^ 32 ≡ z)
split k x y z h g e =
    let q : k / 65536 ≡ y + z * 65536 = omega arith in
    (omega arith, ap (λ (n : ℕ). n % 65536) q ∙ omega arith, omega arith)

fields : (p : Place) → Inside p → Fields p (place_number p)
unfolding place_number
fields (in_base a e) h = split _ (4 * a) (4 * (e - a)) 0 (omega (arith, h.0, h.1)) (omega (arith, h.1)) (omega arith)
fields (in_overlay a e) h = split _ (4 * a) (4 * (e - a)) 2 (omega (arith, h.0, h.1)) (omega (arith, h.1)) (omega arith)
fields (lookup.refusal n p) h = split _ p n 1 (omega (arith, h.1)) (omega (arith, h.0)) (omega arith)

pub lookup-fields : (base overlay : List ℕ) (n s : ℕ) → Fields (lookup_answer base overlay n s) (place_number (lookup_answer base overlay n s))
lookup-fields base overlay n s = fields (lookup_answer base overlay n s) (lookup-small base overlay n s)

unfoldable pub answered_bit : Answered → ℕ
answered_bit (done n) = 0
answered_bit (refusal n p) = 1

abbrev Bounded : Answered → Type 0
Bounded (done n) = n ≤ 4096
Bounded (refusal n p) = (n ≤ 130) × (p ≤ 1025)

answered-bit : (a : Answered) → Bounded a → answer_number a / 2 ^ 32 % 2 ≡ answered_bit a
unfolding answer_number answered_bit
answered-bit (done n) h = omega (arith, h)
answered-bit (refusal n p) h = omega (arith, h.0, h.1)

joined-bounded : (base overlay : List ℕ) (size : ℕ) → Bounded (joined_answer base overlay size)
unfolding join_bytes
joined-bounded base overlay size = go (ℕ_discrete (odd_number base overlay) 0)
  where
    words : List ℕ
    words = replicate (size / 4) 0

    room : length words ≡ size / 4
    room = length-replicate {A = ℕ} (size / 4) 0

    by : (a : Answer) → join_answer (words_of base) (words_of overlay) (length words) ≡ a → Bounded (join_bytes a)
    by (written n) e = let f = joined-few (words_of base) (words_of overlay) words n e in omega arith
    by (join.refusal n p) e =
        let f = join-refused-small (words_of base) (words_of overlay) words n p e in
        (omega arith, omega arith)

    go : Dec (odd_number base overlay ≡ 0) → Bounded (joined_answer base overlay size)
    go (yes e) =
        subst Bounded
        (sym (join-even base overlay e size ∙ ap (λ (k : ℕ). join_bytes (join_answer (words_of base) (words_of overlay) k)) (sym room)))
        (by (join_answer (words_of base) (words_of overlay) (length words)) refl)
    go (no h) = subst Bounded (sym (join-odd base overlay h size)) (odd-small base overlay, omega arith)

pub join-bit-32 : (base overlay : List ℕ) (size : ℕ)
    → answer_number (joined_answer base overlay size) / 2 ^ 32 % 2 ≡ answered_bit (joined_answer base overlay size)
join-bit-32 base overlay size = answered-bit (joined_answer base overlay size) (joined-bounded base overlay size)

-- ---- a table of the other width

converted-bounded : (wide : Bool) (system : List ℕ) (size : ℕ) → Bounded (converted_answer wide system size)
unfolding converted_bytes convert_answer
converted-bounded wide system size = go (ℕ_discrete (length system % 4) 0)
  where
    words : List ℕ
    words = replicate (size / 4) 0

    room : length words ≡ size / 4
    room = length-replicate {A = ℕ} (size / 4) 0

    by : (a : widths.Answer) → convert_answer wide (words_of system) (length words) ≡ a → Bounded (converted_bytes a)
    by (widths.written n) e =
        let a = answer-written (convertible wide (words_of system)) (length (words_of system)) (length words) n e in
        omega (arith, a.1, size-le (words_of system) (converted-accepted wide (words_of system) a.0).0)
    by (widths.refusal n p) e =
        let h = converted-small wide (words_of system) words n p e in
        (omega (arith, h.0), h.1)

    go : Dec (length system % 4 ≡ 0) → Bounded (converted_answer wide system size)
    go (yes e) =
        subst Bounded
        (sym (whole_words_lem wide system size e ∙ ap (λ (k : ℕ). converted_bytes (convert_answer wide (words_of system) k)) (sym room)))
        (by (convert_answer wide (words_of system) (length words)) refl)
    go (no h) = subst Bounded (sym (odd-bytes wide system size h)) (omega arith, omega arith)

pub converted-bit-32 : (wide : Bool) (system : List ℕ) (size : ℕ)
    → answer_number (converted_answer wide system size) / 2 ^ 32 % 2 ≡ answered_bit (converted_answer wide system size)
converted-bit-32 wide system size = answered-bit (converted_answer wide system size) (converted-bounded wide system size)
