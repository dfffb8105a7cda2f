-- A converter told over bytes: 30 comes first, a slice of 1,024 words has room for every table, and number and place of a refusal are small.
use Prim.Native.Nat.{ℕ, zero, suc, ◌*◌, ◌/◌, ◌%◌, ◌≤◌}
use mathlib.Core.Path.{◌≡◌, refl, sym, ap, ◌∙◌}
use mathlib.Core.Bool.{Bool, true, false}
use mathlib.Core.List.{List}
use native.Mathlib.Omega.{arith}
use borrow.Author.Tests.{le-ltb}
use lib.Dec.{ltb}
use lib.ListN.{length, take, length-take}
use Rattle.table.specs.Scan.{Outcome, accepted, refused}
use Rattle.table.proofs.Limits.{size-le}
use Rattle.little_endian.specs.LittleEndian.{words_of}
use Rattle.listing.specs.Listing.{Answered, done, refusal}
use Rattle.widths.specs.Converters.{convertible, written, answer, convert_answer}
use Rattle.widths.specs.Converters as widths
use Rattle.widths.proofs.Theorems.{answer-written, converted-accepted}
use Rattle.widths.proofs.Lengths.{answer-first}
use Rattle.widths.proofs.Places.{convert-bounded}
use Rattle.capi_text.specs.Interface.{placed}
use Rattle.capi_text.specs.Converters.{converted_bytes, converted_answer}

module _ (wide : Bool) (system : List ℕ) (size : ℕ) where
  pub odd-bytes : (length system % 4 ≡ 0 → ⊥) → converted_answer wide system size ≡ refusal 30 0
  unfolding converted_answer
  odd-bytes h = go (length system % 4) h
    where
      go : (k : ℕ) → (k ≡ 0 → ⊥)
          → ◌≡◌ {A = Answered} (elim k [ suc n ↦ refusal 30 0 | zero ↦ converted_bytes (convert_answer wide (words_of system) (size / 4)) ]) (refusal 30 0)
      go zero g = absurd (g refl)
      go (suc n) g = refl

  pub whole_words_lem : length system % 4 ≡ 0 → converted_answer wide system size ≡ converted_bytes (convert_answer wide (words_of system) (size / 4))
  unfolding converted_answer
  whole_words_lem e = rw (e, converted_answer)

-- ---- what was answered for 1,024 words of room

module _ (wide : Bool) (ws : List ℕ) (size : ℕ) where
  pub room-done : (n : ℕ) → convert_answer wide ws 1024 ≡ written n → placed 57 n size ≡ converted_bytes (convert_answer wide ws (size / 4))
  unfolding placed converted_bytes convert_answer answer
  room-done n e =
      let a = answer-written (convertible wide ws) (length ws) 1024 n e in
      go (ltb (size / 4) n)
      ∙ sym (ap (λ (o : Outcome). converted_bytes (answer o (length ws) (size / 4))) a.0
      ∙ ap (λ (m : ℕ). converted_bytes (answer accepted m (size / 4))) (sym a.1))
    where
      go : (b : Bool)
          → ◌≡◌ {A = Answered} (elim b [ true ↦ refusal 57 0 | false ↦ done (4 * n) ]) (converted_bytes (elim b [ true ↦ widths.refusal 57 0 | false ↦ written n ]))
      go true = refl
      go false = refl

  pub room-not : (n p : ℕ) → convert_answer wide ws 1024 ≡ widths.refusal n p → refusal n p ≡ converted_bytes (convert_answer wide ws (size / 4))
  unfolding converted_bytes convert_answer answer
  room-not n p e = go (convertible wide ws) refl e
    where
      go : (o : Outcome) → convertible wide ws ≡ o → answer o (length ws) 1024 ≡ widths.refusal n p
          → refusal n p ≡ converted_bytes (answer o (length ws) (size / 4))
      go (refused k q) c f = cc
      go accepted c f =
          let l = size-le ws (converted-accepted wide ws c).0 in
          let w : answer accepted (length ws) 1024 ≡ written (length ws) = rw (le-ltb 1024 (length ws) l, answer) in
          let z : ◌≡◌ {A = ℕ} 0 1 = cc in
          absurd (omega arith)

pub converted-small : (wide : Bool) (ws out : List ℕ) (n p : ℕ) → convert_answer wide ws (length out) ≡ widths.refusal n p → (n ≤ 57) × (p ≤ 1025)
converted-small wide ws out n p e =
    let h = convert-bounded (take 1025 ws) wide (length out) n p (answer-first wide ws out ∙ e) in
    (h.0, omega (arith, h.1, length-take 1025 ws))
