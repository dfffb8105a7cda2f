-- The check of an estimate from elsewhere over bytes (document 02, wish 12): its answer as a number, and what then holds.
use Rattle.std.specs.Prelude.{ℕ, zero, suc, ◌+◌, ◌*◌, ◌%◌, ◌^◌, ◌<◌, ◌≤◌, ◌≡◌, true, false, List, [], eqb, leb, length, take}
use Rattle.little_endian.specs.LittleEndian.{words_of}
use Rattle.table.specs.Scan.{first_of}
use Rattle.interface.specs.Numbers.{system_tests}
use Rattle.audit.specs.Audited.{Answer, refused, obeys, audited}
use Rattle.audit.specs.Passes.{Passes, Sound}

-- the leak; refused, 2^32 + number × 65,536 + place
unfoldable pub check_number : Answer → ℕ
check_number (refused number place) = 2 ^ 32 + number * 65536 + place
check_number (obeys leak) = leak

-- the words of an estimate; bytes that are no whole words are those of none
unfoldable pub estimate_from : List ℕ → List ℕ
estimate_from bytes = elim (eqb (length bytes % 4) 0) [ true ↦ words_of bytes | false ↦ [] ]

-- the answer to the bytes of a system, ρ and the bytes of an estimate
unfoldable pub bytes_audited : List ℕ → ℕ → List ℕ → Answer
unfolding system_tests estimate_from
bytes_audited system ρ est =
    elim (first_of (system_tests (length system))) [
      | zero ↦ audited (words_of system) ρ (estimate_from est)
      | suc n ↦ refused (suc n) 0
    ]

-- a system and an estimate that passes, as bytes
pub record PassesAsBytes (system : List ℕ) (ρ : ℕ) (est : List ℕ) : Type 0 where
  pub short : length system ≤ 1024
  pub whole : length system % 4 ≡ 0
  pub even : length est % 4 ≡ 0
  pub passes : Passes (words_of system) ρ (words_of est)

-- the number r is below 2^32 exactly where the estimate passes, and then it is a leak that covers every run and contains ours
pub record ExactNumber (system : List ℕ) (ρ : ℕ) (est : List ℕ) (r : ℕ) : Type 0 where
  pub yes : r < 2 ^ 32 → PassesAsBytes system ρ est × Sound (words_of system) ρ (words_of est) r
  pub no : 2 ^ 32 ≤ r → PassesAsBytes system ρ est → ⊥

-- ---- what the parts of a call promise

-- the words that are copied: none where there are more than an estimate of 256 system words has
unfoldable pub taken : List ℕ → List ℕ
unfolding estimate_from
taken bytes = elim (leb (length bytes) 23552) [ true ↦ estimate_from bytes | false ↦ [] ]

pub record TakenIn (bytes room' : List ℕ) (n : ℕ) : Type 0 where
  pub words : take n room' ≡ taken bytes
  pub count : n ≡ length (taken bytes)
  pub most : n ≤ 5888
