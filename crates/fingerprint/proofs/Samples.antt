-- Published values of the hash, computed from the definition. The program `fingerprint_tests` runs more of them.
use Prim.Native.Nat.{ℕ}
use Prim.Native.Char.{code}
use Prim.Native.String.{String, [] as ε, ◌∷◌ as ◌◂◌}
use mathlib.Core.Path.{◌≡◌, refl}
use mathlib.Core.List.{List, [], ◌∷◌}
use Rattle.fingerprint.specs.Fnv.{step, hash_from, fnv1a}

-- the bytes of a text that is ASCII
abbrev bytes : String → List ℕ
bytes ε = []
bytes (c ◂ s) = code c ∷ bytes s

published :
    (fnv1a (bytes "") ≡ 0x811c9dc5)
    × (fnv1a (bytes "a") ≡ 0xe40c292c)
    × (fnv1a (bytes "b") ≡ 0xe70c2de5)
    × (fnv1a (bytes "c") ≡ 0xe60c2c52)
    × (fnv1a (bytes "foobar") ≡ 0xbf9cf968)
    × (fnv1a (bytes "chongo was here!\n") ≡ 0xd49930d5)
unfolding step hash_from fnv1a
published = (refl, refl, refl, refl, refl, refl)
