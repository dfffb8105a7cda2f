-- The names of permissions, one by one, and hosts.
-- Assumes nothing.
use Prim.Native.Nat.{ℕ, zero, suc, ◌+◌, ◌*◌, ◌^◌, ◌<◌, ◌≤◌}
use native.Mathlib.Numerals.{add-one}
use native.Mathlib.Omega.{arith}
use mathlib.Core.Path.{◌≡◌, refl, ap, ◌∙◌}
use mathlib.Core.Bool.{Bool, true, false}
use mathlib.Core.List.{List, [], ◌∷◌, map}
use lib.ListN.{length, get_or, drop}
use Rattle.std.proofs.lemmas.Nat.{pow_below}
use Rattle.std.proofs.Math.Nat.{two-pow-succ}
use Rattle.json_text.specs.Units.{matches, contains}
use Rattle.manifest.specs.Strings.{ascii, names, named, is_host, name_set, host_set}

module _ (n : List ℕ) (ns : List (List ℕ)) (bit : ℕ) (us : List ℕ) where
  pub named-yes : matches true n us ≡ true → named (n ∷ ns) bit us ≡ bit
  unfolding named
  named-yes e = rw (e, named)

  pub named-no : matches true n us ≡ false → named (n ∷ ns) bit us ≡ named ns (2 * bit) us
  unfolding named
  named-no e = rw (e, named)

pub named_none : (bit : ℕ) (us : List ℕ) → named [] bit us ≡ 0
unfolding named
named_none bit us = refl

-- the names in the elements of a list, from a place on
module _ {A : Type 0} (f : A → List ℕ) (us : List ℕ) where
  split : (ws : List A) (i : ℕ) (d : A) → i < length ws → drop i (map f ws) ≡ f (get_or ws i d) ∷ drop (i + 1) (map f ws)
  split ws i d h = rw add-one (go ws i h)
    where
      go : (ws : List A) (i : ℕ) → i < length ws → drop i (map f ws) ≡ f (get_or ws i d) ∷ drop (suc i) (map f ws)
      go [] i h = absurd (omega arith)
      go (w ∷ ws) zero h = refl
      go (w ∷ ws) (suc i) h = go ws i (omega arith)

  past : (ws : List A) (i : ℕ) → length ws ≤ i → drop i (map f ws) ≡ []
  past [] zero h = refl
  past [] (suc i) h = refl
  past (w ∷ ws) zero h = absurd (omega arith)
  past (w ∷ ws) (suc i) h = past ws i (omega arith)

  module _ (ws : List A) (i bit : ℕ) where
    pub named-at : (d : A) → i < length ws → matches true (f (get_or ws i d)) us ≡ true → named (drop i (map f ws)) bit us ≡ bit
    named-at d h e = ap (λ (ns : List (List ℕ)). named ns bit us) (split ws i d h) ∙ named-yes _ _ bit us e

    pub named-behind : (d : A) → i < length ws → matches true (f (get_or ws i d)) us ≡ false
        → named (drop i (map f ws)) bit us ≡ named (drop (i + 1) (map f ws)) (bit * 2) us
    named-behind d h e =
        let t : 2 * bit ≡ bit * 2 = omega arith in
        ap (λ (ns : List (List ℕ)). named ns bit us) (split ws i d h) ∙ named-no _ _ bit us e ∙ ap (λ (b : ℕ). named (drop (i + 1) (map f ws)) b us) t

    pub named-past : length ws ≤ i → named (drop i (map f ws)) bit us ≡ 0
    named-past h = ap (λ (ns : List (List ℕ)). named ns bit us) (past ws i h) ∙ named_none bit us

-- the next bit, and that there is one
pub twice : (i bit : ℕ) → bit ≡ 2 ^ i → bit * 2 ≡ 2 ^ (i + 1)
twice i bit e = let p : 2 ^ suc i ≡ 2 ^ i + 2 ^ i = two-pow-succ i in rw add-one (omega arith)

pub bit-fits : (i bit : ℕ) → bit ≡ 2 ^ i → i < 31 → bit * 2 < 2 ^ 32
bit-fits i bit e h = let p : 2 ^ (i + 1) < 2 ^ 32 = pow_below (i + 1) 32 (omega arith) in let t = twice i bit e in omega arith

host-there : (us : List ℕ) → is_host us ≡ true → host_set true us ≡ 2 ^ 23
unfolding host_set
host-there us e = rw (e, host_set)

host-absent : (us : List ℕ) → is_host us ≡ false → host_set true us ≡ 0
unfolding host_set
host-absent us e = rw (e, host_set)

module _ (us : List ℕ) where
  pub host-all : matches true (ascii "<all_urls>") us ≡ true → is_host us ≡ true
  unfolding is_host
  host-all e = rw (e, is_host)

  pub host-other : matches true (ascii "<all_urls>") us ≡ false → is_host us ≡ contains (ascii "://") us
  unfolding is_host
  host-other e = rw (e, is_host)

  module _ (counts : Bool) where
    pub name-counts : counts ≡ true → name_set counts us ≡ named names 1 us
    unfolding name_set
    name-counts e = ap (λ (b : Bool). name_set b us) e

    pub name-not : counts ≡ false → name_set counts us ≡ 0
    unfolding name_set
    name-not e = ap (λ (b : Bool). name_set b us) e

    pub host-not : counts ≡ false → host_set counts us ≡ 0
    unfolding host_set
    host-not e = ap (λ (b : Bool). host_set b us) e

    pub host-yes : counts ≡ true → is_host us ≡ true → host_set counts us ≡ 2 ^ 23
    host-yes e h = ap (λ (b : Bool). host_set b us) e ∙ host-there us h

    pub host-no : counts ≡ true → is_host us ≡ false → host_set counts us ≡ 0
    host-no e h = ap (λ (b : Bool). host_set b us) e ∙ host-absent us h
