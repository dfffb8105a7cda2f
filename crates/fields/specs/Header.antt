-- What each macro of include/wiphosega.h computes of an answer, and a refusal as one number.
use Rattle.std.specs.Prelude.{ℕ, ◌+◌, ◌*◌, ◌^◌, ◌≡◌}
use Rattle.fields.specs.Fields.{bits}

-- ---- every call: WIPHOSEGA_REFUSED, WIPHOSEGA_NUMBER, WIPHOSEGA_PLACE

abbrev pub refused_in : ℕ → ℕ
refused_in = bits 32 1

abbrev pub number_in : ℕ → ℕ
number_in = bits 16 16

abbrev pub place_in : ℕ → ℕ
place_in = bits 0 16

-- ---- verdict and check: WIPHOSEGA_LEAK, WIPHOSEGA_OVER

abbrev pub leak_in : ℕ → ℕ
leak_in = bits 0 24

abbrev pub over_in : ℕ → ℕ
over_in = bits 24 1

-- ---- manifests: WIPHOSEGA_MANIFEST_SET, WIPHOSEGA_MANIFEST_VERSION, WIPHOSEGA_MANIFEST_COUNT. An answer has 64 bits, so 24 from bit 40 on.

abbrev pub set_in : ℕ → ℕ
set_in = bits 0 24

abbrev pub version_in : ℕ → ℕ
version_in = bits 24 8

abbrev pub count_in : ℕ → ℕ
count_in = bits 40 24

-- ---- blocks: WIPHOSEGA_BLOCK_OFFSET, WIPHOSEGA_BLOCK_BYTES, WIPHOSEGA_BLOCK_IN_OVERLAY

abbrev pub offset_in : ℕ → ℕ
offset_in = bits 0 16

abbrev pub length_in : ℕ → ℕ
length_in = bits 16 16

abbrev pub overlay_in : ℕ → ℕ
overlay_in = bits 33 1

-- ---- refusals

-- 2^32 + number × 65,536 + place
abbrev pub refusal_number : (number place : ℕ) → ℕ
refusal_number number place = 2 ^ 32 + number * 65536 + place

-- an answer that is a refusal, as its three macros read it
pub record Refusal (number place answer : ℕ) : Type 0 where
  pub refused : refused_in answer ≡ 1
  pub numbered : number_in answer ≡ number
  pub placed : place_in answer ≡ place
