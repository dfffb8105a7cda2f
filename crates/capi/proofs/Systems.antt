-- The answer to the bytes of a system: refused before the reading, or the answer to its words.
use Prim.Native.Nat.{ℕ, zero, suc, ◌+◌, ◌*◌, ◌/◌, ◌^◌, ◌≤◌, ◌<◌, min}
use mathlib.Core.Path.{◌≡◌, refl, sym, ap, ◌∙◌, subst, subst₂}
use mathlib.Core.Bool.{Bool, true, false}
use mathlib.Core.List.{List, [], ◌∷◌, ◌++◌}
use native.Mathlib.Omega.{arith}
use lib.ListN.{length, take, drop}
use borrow.Author.Tests.{ltb-false}
use Rattle.table.specs.Scan.{first_of}
use Rattle.calculus.specs.Answer.{Answer, refused, answer}
use Rattle.little_endian.specs.LittleEndian.{words_of}
use Rattle.little_endian.proofs.Laws.{words-read}
use Rattle.capi.specs.Interface.{bytes_answer, estimate_bytes, work_bytes, Answered, CorrectNumber, GuaranteedNumber}
use Rattle.interface.specs.Numbers.{system_tests, answer_number}
use Rattle.capi.proofs.Demands.{demands}

-- all words of a system of at most 1,024 bytes
pub system-read : (bs own now : List ℕ) (n : ℕ) → n ≡ min (length bs / 4) (length own) → now ≡ take n (words_of bs) ++ drop n own
    → length own ≡ 256 → length bs ≤ 1024 → take n now ≡ words_of bs
system-read bs own now n count content room most = words-read bs own now n count content (omega arith)

first-left : (a b : Bool) → first_of ((a, 31) ∷ (b, 30) ∷ []) ≡ 0 → a ≡ false
unfolding first_of
first-left true b h = absurd (omega arith)
first-left false b h = refl

pub system-size : (size : ℕ) → first_of (system_tests size) ≡ 0 → size ≤ 1024
unfolding system_tests
system-size size h = ltb-false 1024 size (first-left _ _ h)

module _ (system : List ℕ) (ρ bound est work : ℕ) where
  pub refused-before : (f : ℕ) → f ≡ first_of (system_tests (length system)) → 0 < f → bytes_answer system ρ bound est work ≡ refused f 0
  unfolding bytes_answer
  refused-before f e h = go (first_of (system_tests (length system))) f e h
    where
      go : (n f : ℕ) → f ≡ n → 0 < f
          → (elim n as (λ k. Answer) [ zero ↦ answer (words_of system) ρ bound (est / 4) (work / 4) | suc k ↦ refused (suc k) 0 ]) ≡ refused f 0
      go zero f e h = absurd (omega arith)
      go (suc n) f e h = ap (λ (m : ℕ). refused m 0) (sym e)

  pub answered-after : first_of (system_tests (length system)) ≡ 0
      → answer (words_of system) ρ bound (est / 4) (work / 4) ≡ bytes_answer system ρ bound est work
  unfolding bytes_answer
  answered-after e = sym (rw (e, bytes_answer))

-- what a refusal leaves
pub refused-answered : (ws : List ℕ) (ρ f : ℕ) (est work : List ℕ) (r : ℕ) → r ≡ 2 ^ 32 + f * 65536 + 0 → Answered ws ρ (refused f 0) est work r est work
unfolding answer_number estimate_bytes work_bytes
refused-answered ws ρ f est work r e = record { number = e; estimates = refl; works = refl }

-- the equations of a call and the demands, where its answer has another name
pub answered-as : (system : List ℕ) (ρ bound : ℕ) (est work : List ℕ) (a : Answer) (r : ℕ) (est' work' : List ℕ)
    → Answered (words_of system) ρ a est work r est' work' → a ≡ bytes_answer system ρ bound (length est) (length work)
    → (r ≡ answer_number (bytes_answer system ρ bound (length est) (length work)))
    × ((est' ≡ estimate_bytes (words_of system) ρ (bytes_answer system ρ bound (length est) (length work)) est)
    × ((work' ≡ work_bytes (words_of system) (bytes_answer system ρ bound (length est) (length work)) work)
    × (CorrectNumber (words_of system) ρ bound est' r × GuaranteedNumber (words_of system) ρ r)))
answered-as system ρ bound est work a r est' work' d e =
    let p = demands system ρ bound (length est) (length work) est a e in (
      d.number ∙ ap answer_number e,
      (
        d.estimates ∙ ap (λ (x : Answer). estimate_bytes (words_of system) ρ x est) e,
        (
          d.works ∙ ap (λ (x : Answer). work_bytes (words_of system) x work) e,
          (
            subst₂ (λ (us : List ℕ) (n : ℕ). CorrectNumber (words_of system) ρ bound us n) (sym d.estimates) (sym d.number) p.0,
            subst (GuaranteedNumber (words_of system) ρ) (sym d.number) p.1,
          ),
        ),
      ),
    )
