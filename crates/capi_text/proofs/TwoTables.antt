-- A table laid over another, told over bytes: of more than 1,024 words the first ones decide, and the parts of an answer are small.
use Prim.Native.Nat.{ℕ, zero, suc, ◌+◌, ◌*◌, ◌/◌, ◌%◌, ◌≤◌, ◌^◌}
use mathlib.Core.Path.{◌≡◌, refl, sym, ap, ap₂, ◌∙◌, subst}
use mathlib.Core.Bool.{Bool, true, false}
use mathlib.Core.List.{List, [], ◌∷◌}
use native.Mathlib.Omega.{arith}
use lib.Dec.{ltb}
use lib.ListN.{length, take, length-take}
use lib.Seq.{take_all}
use Rattle.table.specs.Words.{narrow, size}
use Rattle.table.specs.Scan.{Outcome, accepted, refused, first_of, narrow_reading}
use Rattle.listing.proofs.Depths.{narrow_size}
use Rattle.table.proofs.Stack.{refused-not-accepted}
use Rattle.little_endian.specs.LittleEndian.{words_of}
use Rattle.listing.specs.Listing.{Answered, done, refusal}
use Rattle.table.proofs.Refusals.{first_small, no-test-small}
use Rattle.listing.proofs.Places.{table-place, table-number, reading-first}
use Rattle.blocks.specs.Blocks.{blocks}
use Rattle.overlay.specs.Lookup.{tables_read, Sought, nothing, found, sought, Place, in_base, in_overlay, place_of}
use Rattle.overlay.specs.Lookup as lookup
use Rattle.overlay.specs.Join.{joined_blocks, joined, Answer, written, join_fault, join_answer}
use Rattle.overlay.specs.Join as join
use Rattle.overlay.proofs.Refusals.{base-refused, overlay-refused, both-accepted, tables-accepted}
use Rattle.overlay.proofs.Seek.{sought-part}
use Rattle.overlay.proofs.Places.{place-refused, place_found}
use Rattle.overlay.proofs.Joins.{join-refused, out-refused, join-stopped, join_written}
use Rattle.capi_text.specs.Interface.{answer_number, placed}
use Rattle.capi_text.specs.Overlay.{odd_number, lookup_answer, place_number, join_bytes, joined_answer}

-- ---- of more than 1,024 words the first 1,025 decide

tables-first : (b o : List ℕ) → tables_read (take 1025 b) (take 1025 o) ≡ tables_read b o
unfolding tables_read
tables-first b o = ap₂ both (reading-first b) (reading-first o)
  where
    both : Outcome → Outcome → Outcome
    both x y =
        elim x [ refused n p ↦ refused n p | accepted ↦ elim y [ refused n p ↦ refused (100 + n) p | accepted ↦ accepted ] ]

-- of everything that is refused by the two tables alone
module _ {A : Type 0} (f : List ℕ → List ℕ → A) (g : ℕ → ℕ → A)
    (stops : (b o : List ℕ) (n p : ℕ) → tables_read b o ≡ refused n p → f b o ≡ g n p) where
  first-same : (b o : List ℕ) → f (take 1025 b) (take 1025 o) ≡ f b o
  first-same b o = go (tables_read b o) refl
    where
      go : (r : Outcome) → tables_read b o ≡ r → f (take 1025 b) (take 1025 o) ≡ f b o
      go (refused n p) e = stops (take 1025 b) (take 1025 o) n p (tables-first b o ∙ e) ∙ sym (stops b o n p e)
      go accepted e =
          let t = tables-accepted b o e in
          ap₂ f (take_all 1025 b (omega (arith, narrow_size b t.0))) (take_all 1025 o (omega (arith, narrow_size o t.1)))

pub place-first : (b o : List ℕ) (n s : ℕ) → place_of (take 1025 b) (take 1025 o) n s ≡ place_of b o n s
place-first b o n s = first-same (λ (x y : List ℕ). place_of x y n s) lookup.refusal (λ x y. place-refused x y n s) b o

pub join_first : (b o out : List ℕ) → join_answer (take 1025 b) (take 1025 o) (length out) ≡ join_answer b o (length out)
join_first b o out = first-same (λ (x y : List ℕ). join_answer x y (length out)) join.refusal (λ x y. join-refused x y out) b o

pub out_first : (b o out : List ℕ) → join.out_after (take 1025 b) (take 1025 o) out ≡ join.out_after b o out
out_first b o out = first-same (λ (x y : List ℕ). join.out_after x y out) (λ n p. out) (λ x y. out-refused x y out) b o

-- ---- the room

-- an answer given for 1,024 words of room, for another room
unfoldable in_room : ℕ → Answer → Answer
in_room room (written n) = elim (ltb room n) [ true ↦ join.refusal 50 0 | false ↦ written n ]
in_room room (join.refusal n p) = join.refusal n p

module _ (b o : List ℕ) (room : ℕ) where
  join-room : join_answer b o room ≡ in_room room (join_answer b o 1024)
  unfolding join_answer join_fault in_room first_of
  join-room = go (tables_read b o)
    where
      words : ℕ
      words = length (joined b o)

      answer : Bool → Bool → Bool → Answer
      answer h w r =
          elim (first_of ((h, 48) ∷ (w, 49) ∷ (r, 50) ∷ [])) [ zero ↦ written words | suc n ↦ join.refusal (suc n) 0 ]

      last : (r : Bool) → answer false false r ≡ elim r [ true ↦ join.refusal 50 0 | false ↦ written words ]
      last true = refl
      last false = refl

      tests : (h w : Bool) → answer h w (ltb room words) ≡ in_room room (answer h w w)
      tests true w = refl
      tests false true = refl
      tests false false = last (ltb room words)

      go : (t : Outcome)
          → (elim t as (λ x. Answer) [
            | refused n p ↦ join.refusal n p
            | accepted ↦ answer (ltb narrow (length (joined_blocks (blocks b) (blocks o)))) (ltb size words) (ltb room words)
          ])
          ≡ in_room room (elim t as (λ x. Answer) [
            | refused n p ↦ join.refusal n p
            | accepted ↦ answer (ltb narrow (length (joined_blocks (blocks b) (blocks o)))) (ltb size words) (ltb 1024 words)
          ])
      go (refused n p) = refl
      go accepted = tests (ltb narrow (length (joined_blocks (blocks b) (blocks o)))) (ltb size words)

module _ (b o : List ℕ) (bytes : ℕ) where
  pub join-done : (n : ℕ) → join_answer b o 1024 ≡ written n → placed 50 n bytes ≡ join_bytes (join_answer b o (bytes / 4))
  unfolding placed join_bytes in_room
  join-done n e = go (ltb (bytes / 4) n) ∙ sym (ap join_bytes (join-room b o (bytes / 4) ∙ ap (in_room (bytes / 4)) e))
    where
      go : (t : Bool)
          → ◌≡◌ {A = Answered} (elim t [ true ↦ refusal 50 0 | false ↦ done (4 * n) ]) (join_bytes (elim t [ true ↦ join.refusal 50 0 | false ↦ written n ]))
      go true = refl
      go false = refl

  pub join-not : (n p : ℕ) → join_answer b o 1024 ≡ join.refusal n p → refusal n p ≡ join_bytes (join_answer b o (bytes / 4))
  unfolding join_bytes in_room
  join-not n p e = sym (ap join_bytes (join-room b o (bytes / 4) ∙ ap (in_room (bytes / 4)) e))

-- ---- bytes that are no whole words

odd-case : {A : Type 0} (f : ℕ → A) (x : A) (k : ℕ) → (k ≡ 0 → ⊥) → (elim k as (λ n. A) [ suc n ↦ f (suc n) | zero ↦ x ]) ≡ f k
odd-case f x zero h = absurd (h refl)
odd-case f x (suc n) h = refl

even-case : {A : Type 0} (f : ℕ → A) (x : A) (k : ℕ) → k ≡ 0 → (elim k as (λ n. A) [ suc n ↦ f (suc n) | zero ↦ x ]) ≡ x
even-case f x k e = rw e

module _ (base overlay : List ℕ) where
  pub odd_base : (length base % 4 ≡ 0 → ⊥) → odd_number base overlay ≡ 30
  unfolding odd_number
  odd_base h = odd-case (λ n. 30) _ (length base % 4) h

  module _ (e : length base % 4 ≡ 0) where
    pub odd-overlay : (length overlay % 4 ≡ 0 → ⊥) → odd_number base overlay ≡ 130
    unfolding odd_number
    odd-overlay h = even-case (λ n. 30) _ (length base % 4) e ∙ odd-case (λ n. 130) 0 (length overlay % 4) h

    pub even-both : length overlay % 4 ≡ 0 → odd_number base overlay ≡ 0
    unfolding odd_number
    even-both h = even-case (λ n. 30) _ (length base % 4) e ∙ even-case (λ n. 130) 0 (length overlay % 4) h

  pub odd-small : odd_number base overlay ≤ 130
  unfolding odd_number
  odd-small = go (length base % 4) (length overlay % 4)
    where
      go : (x y : ℕ) → (elim x as (λ n. ℕ) [ suc n ↦ 30 | zero ↦ elim y as (λ n. ℕ) [ suc n ↦ 130 | zero ↦ 0 ] ]) ≤ 130
      go (suc n) y = omega arith
      go zero (suc n) = omega arith
      go zero zero = omega arith

  module _ (odd : odd_number base overlay ≡ 0 → ⊥) where
    pub lookup-odd : (n s : ℕ) → lookup_answer base overlay n s ≡ lookup.refusal (odd_number base overlay) 0
    unfolding lookup_answer
    lookup-odd n s = odd-case (λ k. lookup.refusal k 0) _ (odd_number base overlay) odd

    pub join-odd : (bytes : ℕ) → joined_answer base overlay bytes ≡ refusal (odd_number base overlay) 0
    unfolding joined_answer
    join-odd bytes = odd-case (λ k. refusal k 0) _ (odd_number base overlay) odd

  -- as numbers
  module _ (r : ℕ) (q : r ≡ odd_number base overlay) (h : r ≡ 0 → ⊥) where
    pub lookup-odd-number : (n s : ℕ) → 2 ^ 32 + r * 65536 + 0 ≡ place_number (lookup_answer base overlay n s)
    unfolding place_number
    lookup-odd-number n s = let e = ap place_number (lookup-odd (λ z. h (q ∙ z)) n s) in omega arith

    pub join-odd-number : (bytes : ℕ) → 2 ^ 32 + r * 65536 + 0 ≡ answer_number (joined_answer base overlay bytes)
    unfolding answer_number
    join-odd-number bytes = let e = ap answer_number (join-odd (λ z. h (q ∙ z)) bytes) in omega arith

  module _ (even : odd_number base overlay ≡ 0) where
    pub lookup-even : (n s : ℕ) → lookup_answer base overlay n s ≡ place_of (words_of base) (words_of overlay) n s
    unfolding lookup_answer
    lookup-even n s = even-case (λ k. lookup.refusal k 0) _ (odd_number base overlay) even

    pub join-even : (bytes : ℕ) → joined_answer base overlay bytes ≡ join_bytes (join_answer (words_of base) (words_of overlay) (bytes / 4))
    unfolding joined_answer
    join-even bytes = even-case (λ k. refusal k 0) _ (odd_number base overlay) even

-- ---- the parts of an answer

reading_small : (ws : List ℕ) (n p : ℕ) → narrow_reading ws ≡ refused n p → (n ≤ 12) × (p ≤ 1025)
reading_small ws n p e =
    (table-number ws n p e, omega (arith, table-place (take 1025 ws) n p (reading-first ws ∙ e), length-take 1025 ws))

pub tables-small : (b o : List ℕ) (n p : ℕ) → tables_read b o ≡ refused n p → (n ≤ 112) × (p ≤ 1025)
tables-small b o n p e = go (narrow_reading b) (narrow_reading o) refl refl
  where
    same : (k q : ℕ) → tables_read b o ≡ refused k q → (k ≡ n) × (q ≡ p)
    same k q f = (cc, cc)

    go : (x y : Outcome) → narrow_reading b ≡ x → narrow_reading o ≡ y → (n ≤ 112) × (p ≤ 1025)
    go (refused k q) y f g =
        let s = same k q (base-refused b o k q f) in
        let t = reading_small b k q f in
        (omega arith, omega arith)
    go accepted (refused k q) f g =
        let s = same (100 + k) q (overlay-refused b o f k q g) in
        let t = reading_small o k q g in
        (omega arith, omega arith)
    go accepted accepted f g = absurd (refused-not-accepted (sym e ∙ both-accepted b o f g))

-- a part lies within 1,024 words, and a refusal has a small number and place
abbrev pub Inside : Place → Type 0
Inside (in_base a e) = (a ≤ e) × (e ≤ 1024)
Inside (in_overlay a e) = (a ≤ e) × (e ≤ 1024)
Inside (lookup.refusal n p) = (n ≤ 130) × (p ≤ 1025)

pub place-small : (b o : List ℕ) (n s : ℕ) → Inside (place_of b o n s)
place-small b o n s = go (tables_read b o) (sought b n s) (sought o n s) refl refl refl
  where
    go : (t : Outcome) (x y : Sought) → tables_read b o ≡ t → sought b n s ≡ x → sought o n s ≡ y → Inside (place_of b o n s)
    go (refused k p) x y t ex ey =
        let q = tables-small b o k p t in
        subst Inside (sym (place-refused b o n s k p t)) (omega arith, omega arith)
    go accepted x (found a w) t ex ey =
        let r = tables-accepted b o t in
        let q = sought-part n s o r.1 a w ey in
        subst Inside (sym (place_found b o n s t x (found a w) ex ey)) (omega arith, omega (arith, q.0, narrow_size o r.1))
    go accepted (found a w) nothing t ex ey =
        let r = tables-accepted b o t in
        let q = sought-part n s b r.0 a w ex in
        subst Inside (sym (place_found b o n s t (found a w) nothing ex ey)) (omega arith, omega (arith, q.0, narrow_size b r.0))
    go accepted nothing nothing t ex ey =
        subst Inside (sym (place_found b o n s t nothing nothing ex ey)) (omega arith, omega arith)

fault-small : (b o : List ℕ) (room : ℕ) → join_fault b o room ≤ 50
unfolding join_fault
fault-small b o room =
    first_small _ 48 50 _ (omega arith) (first_small _ 49 50 _ (omega arith) (first_small _ 50 50 _ (omega arith) (no-test-small 50)))

pub join-refused-small : (b o out : List ℕ) (n p : ℕ) → join_answer b o (length out) ≡ join.refusal n p → (n ≤ 112) × (p ≤ 1025)
join-refused-small b o out n p e = go (tables_read b o) (join_fault b o (length out)) refl refl
  where
    same : (k q : ℕ) → join_answer b o (length out) ≡ join.refusal k q → (k ≡ n) × (q ≡ p)
    same k q f = (cc, cc)

    go : (t : Outcome) (k : ℕ) → tables_read b o ≡ t → join_fault b o (length out) ≡ k → (n ≤ 112) × (p ≤ 1025)
    go (refused k q) m t f =
        let s = same k q (join-refused b o out k q t) in
        let u = tables-small b o k q t in
        (omega arith, omega arith)
    go accepted (suc k) t f =
        let s = same (suc k) 0 (join-stopped b o out t k f).0 in
        (omega (arith, fault-small b o (length out)), omega arith)
    go accepted zero t f =
        let w = (join_written b o out t f).0 in
        let z : ◌≡◌ {A = ℕ} 0 1 = cc in
        absurd (omega arith)
