-- What a list of strings says, one element at a time.
-- Assumes nothing.
use Prim.Native.Nat.{ℕ, ◌+◌}
use mathlib.Core.Path.{◌≡◌, refl, sym, ap, ◌∙◌}
use mathlib.Core.Bool.{Bool, true, false}
use mathlib.Core.List.{List, [], ◌∷◌}
use lib.Dec.{eqb}
use lib.ListN.{drop, length}
use Rattle.permset.specs.Sets.{union}
use Rattle.json_text.specs.Bytes.{head, tail, nothing, rest, Step, fails, goes, ends, starts_by, starts}
use Rattle.json_text.specs.Strings.{units}
use Rattle.json_text.specs.Values.{value, first, starts_from, parts}
use Rattle.json_text.proofs.Places.{tail-drop}
use Rattle.manifest.specs.Strings.{set_of}
use Rattle.manifest.specs.Members.{Count, not_strings, strings, counted, listed}

module _ (n h : Bool) where
  pub counted-not : (es : List (List ℕ)) → counted n h es not_strings ≡ not_strings
  unfolding counted
  counted-not [] = refl
  counted-not (e ∷ es) = refl

  module _ (e : List ℕ) (es : List (List ℕ)) (set others : ℕ) where
    pub no-string : eqb (head e) 0x22 ≡ false → counted n h (e ∷ es) (strings set others) ≡ not_strings
    unfolding counted
    no-string q = rw (q, counted)

    pub sets-nothing : eqb (head e) 0x22 ≡ true → eqb (set_of n h (units (tail e))) 0 ≡ true
        → counted n h (e ∷ es) (strings set others) ≡ counted n h es (strings set (others + 1))
    unfolding counted
    sets-nothing q s = rw (q, s, counted)

    pub sets-some : eqb (head e) 0x22 ≡ true → eqb (set_of n h (units (tail e))) 0 ≡ false
        → counted n h (e ∷ es) (strings set others) ≡ counted n h es (strings (union set (set_of n h (units (tail e)))) others)
    unfolding counted
    sets-some q s = rw (q, s, counted)

  pub counted_none : (c : Count) → counted n h [] c ≡ c
  unfolding counted
  counted_none c = refl

  -- an element, and then the rest
  pub counted-cons : (e : List ℕ) (es : List (List ℕ)) (c : Count) → counted n h (e ∷ es) c ≡ counted n h es (counted n h (e ∷ []) c)
  counted-cons e es not_strings = counted-not (e ∷ es) ∙ sym (counted-not es) ∙ ap (counted n h es) (sym (counted-not (e ∷ [])))
  counted-cons e es (strings set others) = by (eqb (head e) 0x22) (eqb (set_of n h (units (tail e))) 0) refl refl
    where
      by : (a b : Bool) → eqb (head e) 0x22 ≡ a → eqb (set_of n h (units (tail e))) 0 ≡ b
          → counted n h (e ∷ es) (strings set others) ≡ counted n h es (counted n h (e ∷ []) (strings set others))
      by false b p q =
          no-string e es set others p ∙ sym (counted-not es) ∙ ap (counted n h es) (sym (no-string e [] set others p))
      by true true p q =
          sets-nothing e es set others p q ∙ ap (counted n h es) (sym (sets-nothing e [] set others p q ∙ counted_none _))
      by true false p q =
          sets-some e es set others p q ∙ ap (counted n h es) (sym (sets-some e [] set others p q ∙ counted_none _))

  -- of the items from a place on, where the first is no string
  pub counted-bad : (f : List ℕ → Step) (bs : List ℕ) (c : Count) → counted n h (bs ∷ []) c ≡ not_strings → counted n h (starts f bs) c ≡ not_strings
  unfolding starts_by
  counted-bad f bs c e =
      let es : List (List ℕ) = elim (f bs) [ fails ↦ [] | goes us cs ↦ starts_by f (length bs) cs | ends cs ↦ [] ] in
      counted-cons bs es c ∙ ap (counted n h es) e ∙ counted-not es

  module _ (c : Count) where
    pub list-missing : listed n h nothing c ≡ c
    unfolding listed
    list-missing = refl

    module _ (bs : List ℕ) where
      pub no-array : eqb (head bs) 0x5b ≡ false → listed n h (rest bs) c ≡ not_strings
      unfolding listed
      no-array e = rw (e, listed)

      pub array : eqb (head bs) 0x5b ≡ true → listed n h (rest bs) c ≡ counted n h (starts_from (value 14) false (first false (tail bs))) c
      unfolding listed parts
      array e = rw (e, listed)

-- ---- one element, from a place of a text

module _ (n h : Bool) (text : List ℕ) (at m set others : ℕ) (read : m ≡ set_of n h (units (drop (at + 1) text))) (quote : eqb (head (drop at text)) 0x22 ≡ true) where
  same_set : set_of n h (units (tail (drop at text))) ≡ m
  same_set = ap (λ (bs : List ℕ). set_of n h (units bs)) (tail-drop text at) ∙ sym read

  pub element-other : eqb m 0 ≡ true → counted n h (drop at text ∷ []) (strings set others) ≡ strings set (others + 1)
  element-other z = sets-nothing n h (drop at text) [] set others quote (ap (λ (x : ℕ). eqb x 0) same_set ∙ z) ∙ counted_none n h _

  pub element-sets : eqb m 0 ≡ false → counted n h (drop at text ∷ []) (strings set others) ≡ strings (union set m) others
  element-sets z =
      sets-some n h (drop at text) [] set others quote (ap (λ (x : ℕ). eqb x 0) same_set ∙ z)
      ∙ counted_none n h _
      ∙ ap (λ (x : ℕ). strings (union set x) others) same_set
