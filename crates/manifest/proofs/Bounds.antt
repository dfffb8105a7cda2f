-- An accepted manifest has a version below 4 and a set within the 24 permissions.
-- Assumes nothing.
use Prim.Native.Nat.{ℕ, zero, zero-le, suc, ◌*◌, ◌^◌, ◌<◌, ◌≤◌}
use native.Mathlib.Nat.{le_refl}
use native.Mathlib.Omega.{arith}
use mathlib.Core.Path.{◌≡◌, refl, sym, subst}
use mathlib.Core.Bool.{Bool, true, false}
use mathlib.Core.List.{List, [], ◌∷◌}
use lib.Dec.{eqb}
use Rattle.permset.specs.Sets.{union}
use Rattle.permset.proofs.Laws.{union-lt}
use Rattle.json_text.specs.Bytes.{head, tail, Rest, nothing, rest}
use Rattle.json_text.specs.Strings.{units}
use Rattle.json_text.specs.Units.{matches}
use Rattle.manifest.specs.Strings.{ascii, names, named, is_host, name_set, host_set, set_of}
use Rattle.manifest.specs.Members.{members, repeated, find, Count, not_strings, strings}
use Rattle.manifest.specs.Manifest.{Source, sources, total, goes_on, version, Outcome, refused, accepted, is_object, counts, judged_from, judged}
use Rattle.manifest.proofs.Judged.{judged-repeated, judged-unversioned, judged-versioned}
use Rattle.manifest.proofs.Unions.{unite, strings_of, unite_all, Sets, total-set}

-- either way of a choice
pick : {A : Type 0} (P : A → Type 0) (t : Bool) (x y : A) → P x → P y → P (elim t [ true ↦ x | false ↦ y ])
pick P true x y p q = p
pick P false x y p q = q

-- twice the bit of the last name, where `bit` is that of the first
top : List (List ℕ) → ℕ → ℕ
top [] bit = bit
top (n ∷ ns) bit = top ns (2 * bit)

bit-top : (ns : List (List ℕ)) (bit : ℕ) → bit ≤ top ns bit
unfolding top
bit-top [] bit = le_refl bit
bit-top (n ∷ ns) bit = let h : 2 * bit ≤ top ns (2 * bit) = bit-top ns (2 * bit) in omega arith

named-top : (ns : List (List ℕ)) (bit : ℕ) (us : List ℕ) → named ns bit us ≤ top ns bit
unfolding top named
named-top [] bit us = zero-le
named-top (n ∷ ns) bit us =
    pick (λ (x : ℕ). x ≤ top ns (2 * bit)) (matches true n us) bit (named ns (2 * bit) us)
    (let h : 2 * bit ≤ top ns (2 * bit) = bit-top ns (2 * bit) in omega arith) (named-top ns (2 * bit) us)

name-small : (b : Bool) (us : List ℕ) → name_set b us < 2 ^ 24
unfolding name_set top
name-small false us = omega arith
name-small true us = let h : named names 1 us ≤ 1024 = named-top names 1 us in omega arith

host-small : (b : Bool) (us : List ℕ) → host_set b us < 2 ^ 24
unfolding host_set
host-small false us = omega arith
host-small true us = pick (λ (x : ℕ). x < 2 ^ 24) (is_host us) (2 ^ 23) 0 (omega arith) (omega arith)

pub set-small : (n h : Bool) (us : List ℕ) → set_of n h us < 2 ^ 24
unfolding set_of
set-small n h us = union-lt 24 (name_set n us) (host_set h us) (name-small n us) (host-small h us)

unite-small : (n h : Bool) (s : ℕ) (es : List (List ℕ)) → s < 2 ^ 24 → unite n h s es < 2 ^ 24
unfolding unite
unite-small n h s [] l = l
unite-small n h s (e ∷ es) l = unite-small n h (union s (set_of n h (units (tail e)))) es (union-lt 24 s (set_of n h (units (tail e))) l (set-small n h (units (tail e))))

unite-all-small : (s : ℕ) (rs : List Source) (ms : List (List ℕ)) → s < 2 ^ 24 → unite_all s rs ms < 2 ^ 24
unfolding unite_all
unite-all-small s [] ms l = l
unite-all-small s (r ∷ rs) ms l =
    unite-all-small (unite r.by_name r.by_host s (strings_of (find r.key ms))) rs ms (unite-small r.by_name r.by_host s (strings_of (find r.key ms)) l)

version-small : (r : Rest) → version r < 4
unfolding version
version-small nothing = omega arith
version-small (rest bs) = pick P (goes_on (head (tail bs))) 0 alone (omega arith) (pick P (eqb (head bs) 0x32) 2 three (omega arith) (pick P (eqb (head bs) 0x33) 3 0 (omega arith) (omega arith)))
  where
    P : ℕ → Type 0
    P x = x < 4

    three : ℕ
    three = elim (eqb (head bs) 0x33) [ true ↦ 3 | false ↦ 0 ]

    alone : ℕ
    alone = elim (eqb (head bs) 0x32) [ true ↦ 2 | false ↦ three ]

abbrev pub Small : Outcome → Type 0
Small (refused number place) = Unit {0}
Small (accepted v set others) = (v < 4) × (set < 2 ^ 24)

counts-small : (v : ℕ) (s : ℕ) (c : Count) → v < 4 → s < 2 ^ 24 → Sets s c → Small (counts v c)
counts-small v s not_strings l m h = tt
counts-small v s (strings set others) l m h = (l, subst (λ (x : ℕ). x < 2 ^ 24) (sym h) m)

from-small : (ms : List (List ℕ)) → Small (judged_from ms)
from-small ms = by (repeated [] ms) (version (find (ascii "manifest_version") ms)) refl refl
  where
    by : (b : Bool) (v : ℕ) → repeated [] ms ≡ b → version (find (ascii "manifest_version") ms) ≡ v → Small (judged_from ms)
    by true v p q = subst Small (sym (judged-repeated ms p)) tt
    by false zero p q = subst Small (sym (judged-unversioned ms p q)) tt
    by false (suc v) p q =
        subst Small (sym (judged-versioned ms p (suc v) q (λ z. omega arith)))
        (counts-small (suc v) (unite_all 0 (sources (suc v)) ms) (total (sources (suc v)) ms (strings 0 0))
        (subst (λ (x : ℕ). x < 4) q (version-small (find (ascii "manifest_version") ms)))
        (unite-all-small 0 (sources (suc v)) ms (omega arith))
        (total-set (sources (suc v)) ms 0 0))

pub judged-small : (text : List ℕ) → Small (judged text)
unfolding judged
judged-small text = by (is_object text)
  where
    by : (b : Bool) → Small (elim b [ false ↦ refused 43 0 | true ↦ judged_from (members text) ])
    by true = from-small (members text)
    by false = tt
