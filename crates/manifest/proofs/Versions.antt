-- The version that a value spells, by its first byte and the one behind it.
-- Assumes nothing.
use Prim.Native.Nat.{ℕ, zero, suc, ◌<◌, ◌≤◌}
use Rattle.std.specs.Prelude.{None, Some}
use native.Mathlib.Omega.{arith}
use mathlib.Core.Path.{◌≡◌, refl, ap, ◌∙◌}
use mathlib.Core.Bool.{Bool, true, false, ◌||◌}
use mathlib.Core.List.{List}
use lib.Dec.{eqb}
use borrow.Author.Tests.{le-leb, ne_eqb}
use Rattle.json_text.specs.Bytes.{head, tail, nothing, rest}
use Rattle.json_text.specs.Numbers.{is_digit, int, number}
use Rattle.json_text.proofs.Numerals.{digits-yes, minus-no, int-more, frac-no, exp-no, number-whole}
use Rattle.json_text.proofs.Places.{digits-end}
use Rattle.manifest.specs.Manifest.{goes_on, version}
use Rattle.manifest.specs.Answer.{spelled}

none_of : (a b : Bool) → (a || b) ≡ false → (a ≡ false) × (b ≡ false)
none_of true b e = let z : ◌≡◌ {A = ℕ} 0 1 = cc in absurd (omega arith)
none_of false b e = (refl, e)

pub version-missing : version nothing ≡ 0
unfolding version
version-missing = refl

module _ (bs : List ℕ) where
  pub version-long : goes_on (head (tail bs)) ≡ true → version (rest bs) ≡ 0
  unfolding version
  version-long e = rw (e, version)

  module _ (alone : goes_on (head (tail bs)) ≡ false) where
    pub version-two : eqb (head bs) 0x32 ≡ true → version (rest bs) ≡ 2
    unfolding version
    version-two e = rw (alone, e, version)

    pub version-three : eqb (head bs) 0x32 ≡ false → eqb (head bs) 0x33 ≡ true → version (rest bs) ≡ 3
    unfolding version
    version-three n e = rw (alone, n, e, version)

    pub version-other : eqb (head bs) 0x32 ≡ false → eqb (head bs) 0x33 ≡ false → version (rest bs) ≡ 0
    unfolding version
    version-other n e = rw (alone, n, e, version)

-- ---- a version that is spelled

pub unspelled : (v : ℕ) → None ≡ spelled v → v ≡ 0
unspelled zero e = refl
unspelled (suc v) e = cc

pub spelled-is : (w v : ℕ) → Some v ≡ spelled w → (w ≡ v) × (v ≡ 0 → ⊥)
spelled-is zero v e = cc
spelled-is (suc w) v e = let q : suc w ≡ v = cc in (q, λ z. omega arith)

-- ---- a value that spells a version is a number of that one byte

module _ (bs : List ℕ) (digit : ℕ) (is : head bs ≡ digit) (low : 0x30 < digit) (high : digit ≤ 0x39) where
  pub one-digit : goes_on (head (tail bs)) ≡ false → number bs ≡ rest (tail bs)
  one-digit alone =
      let no : (is_digit (head (tail bs)) ≡ false) × (eqb (head (tail bs)) 0x2e ≡ false) × ((eqb (head (tail bs)) 0x65 || eqb (head (tail bs)) 0x45) ≡ false) = ends (tail bs) alone in
      number-whole bs (tail bs) (tail bs)
      (ap int (minus-no bs (ne_eqb (head bs) 0x2d (λ e. omega arith)))
      ∙ int-more bs (ne_eqb (head bs) 0x30 (λ e. omega arith))
      ∙ digits-yes bs within
      ∙ ap rest (digits-end (tail bs) no.0))
      (frac-no (tail bs) no.1)
      ∙ exp-no (tail bs) no.2
    where
      within : is_digit (head bs) ≡ true
      within = rw (le-leb 0x30 (head bs) (omega arith), le-leb (head bs) 0x39 (omega arith))

      ends : (cs : List ℕ) → goes_on (head cs) ≡ false
          → (is_digit (head cs) ≡ false) × (eqb (head cs) 0x2e ≡ false) × ((eqb (head cs) 0x65 || eqb (head cs) 0x45) ≡ false)
      ends cs e =
          let a = none_of (is_digit (head cs)) (eqb (head cs) 0x2e || (eqb (head cs) 0x65 || eqb (head cs) 0x45)) e in
          let b = none_of (eqb (head cs) 0x2e) (eqb (head cs) 0x65 || eqb (head cs) 0x45) a.1 in
          (a.0, b.0, b.1)
