-- The published hash FNV-1a of 32 bits (Fowler, Noll, Vo): of a list of bytes, each is first xored in and the result then multiplied by the prime.
use Rattle.std.specs.Prelude.{ℕ, ◌*◌, ◌%◌, ◌^◌, List, [], ◌∷◌}
use Rattle.std.specs.Int.Bits.{bit_xor}

-- the published constants: the prime 2 ^ 24 + 2 ^ 8 + 0x93 and the offset basis
abbrev pub prime : ℕ
prime = 0x01000193

abbrev pub basis : ℕ
basis = 0x811c9dc5

-- one byte more
unfoldable pub step : (hash byte : ℕ) → ℕ
step hash byte = bit_xor hash byte * prime % 2 ^ 32

-- the bytes in order, from a hash on
unfoldable pub hash_from : ℕ → List ℕ → ℕ
hash_from hash [] = hash
hash_from hash (byte ∷ bytes) = hash_from (step hash byte) bytes

unfoldable pub fnv1a : List ℕ → ℕ
fnv1a bytes = hash_from basis bytes
