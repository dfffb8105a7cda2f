-- The set that a manifest gives is the union over the strings of the lists read, and lies within the 24 permissions.
-- Assumes nothing.
use Prim.Native.Nat.{ℕ, ◌+◌}
use mathlib.Core.Path.{◌≡◌, refl, sym, ap, subst, ◌∙◌}
use mathlib.Core.Bool.{Bool, true, false}
use mathlib.Core.List.{List, [], ◌∷◌}
use lib.Dec.{eqb}
use borrow.Author.Tests.{eqb-true}
use Rattle.permset.specs.Sets.{union}
use Rattle.permset.proofs.Laws.{union-absorbs, empty-within}
use Rattle.json_text.specs.Bytes.{head, tail, Rest, nothing, rest}
use Rattle.json_text.specs.Strings.{units}
use Rattle.json_text.specs.Values.{value, parts}
use Rattle.manifest.specs.Strings.{set_of}
use Rattle.manifest.specs.Members.{find, Count, not_strings, strings, counted, listed}
use Rattle.manifest.specs.Manifest.{Source, total}
use Rattle.manifest.proofs.Lists.{counted-not, counted_none, no-string, sets-nothing, sets-some}

-- the union of a set and of those of some strings
unfoldable pub unite : (by_name by_host : Bool) → ℕ → List (List ℕ) → ℕ
unite n h s [] = s
unite n h s (e ∷ es) = unite n h (union s (set_of n h (units (tail e)))) es

-- the strings of a list, where it is there
unfoldable pub strings_of : Rest → List (List ℕ)
strings_of nothing = []
strings_of (rest bs) = parts (value 14) false (tail bs)

-- and over all lists that are read
unfoldable pub unite_all : ℕ → List Source → List (List ℕ) → ℕ
unite_all s [] ms = s
unite_all s (r ∷ rs) ms = unite_all (unite r.by_name r.by_host s (strings_of (find r.key ms))) rs ms

-- a count that is of strings has this set
abbrev pub Sets : ℕ → Count → Type 0
Sets s not_strings = Unit {0}
Sets s (strings set others) = set ≡ s

module _ (n h : Bool) where
  counted-set : (es : List (List ℕ)) (s o : ℕ) → Sets (unite n h s es) (counted n h es (strings s o))
  unfolding unite
  counted-set [] s o = subst (Sets s) (sym (counted_none n h (strings s o))) refl
  counted-set (e ∷ es) s o = by (eqb (head e) 0x22) (eqb (set_of n h (units (tail e))) 0) refl refl (counted-set es)
    where
      by : (a b : Bool) → eqb (head e) 0x22 ≡ a → eqb (set_of n h (units (tail e))) 0 ≡ b
          → ((s o : ℕ) → Sets (unite n h s es) (counted n h es (strings s o)))
          → Sets (unite n h (union s (set_of n h (units (tail e)))) es) (counted n h (e ∷ es) (strings s o))
      by false b p q r = subst (Sets (unite n h (union s (set_of n h (units (tail e)))) es)) (sym (no-string n h e es s o p)) tt
      by true true p q r =
          let z : set_of n h (units (tail e)) ≡ 0 = eqb-true (set_of n h (units (tail e))) 0 q in
          let u : union s (set_of n h (units (tail e))) ≡ s = ap (union s) z ∙ union-absorbs s 0 (empty-within s) in
          subst (Sets (unite n h (union s (set_of n h (units (tail e)))) es)) (sym (sets-nothing n h e es s o p q))
          (subst (λ (x : ℕ). Sets (unite n h x es) (counted n h es (strings s (o + 1)))) (sym u) (r s (o + 1)))
      by true false p q r =
          subst (Sets (unite n h (union s (set_of n h (units (tail e)))) es)) (sym (sets-some n h e es s o p q))
          (r (union s (set_of n h (units (tail e)))) o)

  listed-set : (r : Rest) (s o : ℕ) → Sets (unite n h s (strings_of r)) (listed n h r (strings s o))
  unfolding unite strings_of listed
  listed-set nothing s o = refl
  listed-set (rest bs) s o = by (eqb (head bs) 0x5b)
    where
      by : (a : Bool) → Sets (unite n h s (parts (value 14) false (tail bs))) (elim a [ true ↦ counted n h (parts (value 14) false (tail bs)) (strings s o) | false ↦ not_strings ])
      by true = counted-set (parts (value 14) false (tail bs)) s o
      by false = tt

  pub listed-not : (r : Rest) → listed n h r not_strings ≡ not_strings
  unfolding listed
  listed-not nothing = refl
  listed-not (rest bs) = by (eqb (head bs) 0x5b)
    where
      by : (a : Bool) → ◌≡◌ {A = Count} (elim a [ true ↦ counted n h (parts (value 14) false (tail bs)) not_strings | false ↦ not_strings ]) not_strings
      by true = counted-not n h (parts (value 14) false (tail bs))
      by false = refl

total-not : (rs : List Source) (ms : List (List ℕ)) → total rs ms not_strings ≡ not_strings
unfolding total
total-not [] ms = refl
total-not (r ∷ rs) ms = ap (total rs ms) (listed-not r.by_name r.by_host (find r.key ms)) ∙ total-not rs ms

-- the set is the union over the strings of the lists read
pub total-set : (rs : List Source) (ms : List (List ℕ)) (s o : ℕ) → Sets (unite_all s rs ms) (total rs ms (strings s o))
unfolding total unite_all
total-set [] ms s o = refl
total-set (r ∷ rs) ms s o =
    by (listed r.by_name r.by_host (find r.key ms) (strings s o)) (listed-set r.by_name r.by_host (find r.key ms) s o) (total-set rs ms)
  where
    by : (c : Count) → Sets (unite r.by_name r.by_host s (strings_of (find r.key ms))) c
        → ((s o : ℕ) → Sets (unite_all s rs ms) (total rs ms (strings s o)))
        → Sets (unite_all (unite r.by_name r.by_host s (strings_of (find r.key ms))) rs ms) (total rs ms c)
    by not_strings h f = subst (Sets (unite_all (unite r.by_name r.by_host s (strings_of (find r.key ms))) rs ms)) (sym (total-not rs ms)) tt
    by (strings set others) h f =
        subst (λ (x : ℕ). Sets (unite_all x rs ms) (total rs ms (strings set others))) h (f set others)
