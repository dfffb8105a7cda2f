-- What a manifest says, test by test.
-- Assumes nothing.
use Prim.Native.Nat.{ℕ, zero, suc}
use mathlib.Core.Path.{◌≡◌, refl}
use mathlib.Core.Bool.{Bool, true, false}
use mathlib.Core.List.{List, []}
use lib.Dec.{eqb, leb}
use lib.ListN.{length}
use borrow.Author.Tests.{eq-eqb, ne_eqb}
use Rattle.json_text.specs.Bytes.{head, tail, space}
use Rattle.json_text.specs.Values.{value, first, starts_from, parts, is_text}
use Rattle.manifest.specs.Strings.{ascii}
use Rattle.manifest.specs.Members.{deepest, members, repeated, find, Count, strings, listed}
use Rattle.manifest.specs.Manifest.{sources, total, version, refused, is_object, counts, judged_from, judged}

-- ---- the lists of a version

module _ (ms : List (List ℕ)) (c : Count) where
  total-sources : (v : ℕ) (b : Bool) → eqb v 2 ≡ b
      → total (sources v) ms c ≡ elim b [
        | true ↦ listed true true (find (ascii "permissions") ms) c
        | false ↦ listed false true (find (ascii "host_permissions") ms) (listed true false (find (ascii "permissions") ms) c)
      ]
  unfolding sources total
  total-sources v true e = rw (e, sources)
  total-sources v false e = rw (e, sources)

  pub total-two : (v : ℕ) → v ≡ 2 → total (sources v) ms c ≡ listed true true (find (ascii "permissions") ms) c
  total-two v e = total-sources v true (eq-eqb v 2 e)

  pub total-three : (v : ℕ) → (v ≡ 2 → ⊥)
      → total (sources v) ms c ≡ listed false true (find (ascii "host_permissions") ms) (listed true false (find (ascii "permissions") ms) c)
  total-three v n = total-sources v false (ne_eqb v 2 n)

-- ---- the members

module _ (ms : List (List ℕ)) where
  pub judged-repeated : repeated [] ms ≡ true → judged_from ms ≡ refused 44 0
  unfolding judged_from
  judged-repeated e = rw (e, judged_from)

  module _ (e : repeated [] ms ≡ false) where
    pub judged-unversioned : version (find (ascii "manifest_version") ms) ≡ 0 → judged_from ms ≡ refused 45 0
    unfolding judged_from
    judged-unversioned q = rw (e, q, judged_from)

    pub judged-versioned : (v : ℕ) → version (find (ascii "manifest_version") ms) ≡ v → (v ≡ 0 → ⊥)
        → judged_from ms ≡ counts v (total (sources v) ms (strings 0 0))
    unfolding judged_from
    judged-versioned zero q n = absurd (n refl)
    judged-versioned (suc v) q n = rw (e, q, judged_from)

-- ---- the text

module _ (text : List ℕ) where
  pub judged-not : is_object text ≡ false → judged text ≡ refused 43 0
  unfolding judged
  judged-not e = rw (e, judged)

  pub judged-object : is_object text ≡ true → judged text ≡ judged_from (starts_from (value 15) true (first true (tail (space text))))
  unfolding judged members parts
  judged-object e = rw (e, judged)

  pub too_long : leb (length text) 16384 ≡ false → is_object text ≡ false
  unfolding is_object
  too_long e = rw (e, is_object)

  module _ (l : leb (length text) 16384 ≡ true) where
    pub no_text : is_text deepest text ≡ false → is_object text ≡ false
    unfolding is_object
    no_text e = rw (l, e, is_object)

    module _ (t : is_text deepest text ≡ true) where
      pub no-object : eqb (head (space text)) 0x7b ≡ false → is_object text ≡ false
      unfolding is_object
      no-object e = rw (l, t, e, is_object)

      pub an-object : eqb (head (space text)) 0x7b ≡ true → is_object text ≡ true
      unfolding is_object
      an-object e = rw (l, t, e, is_object)
