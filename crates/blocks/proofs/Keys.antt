-- Keys that are distinct are those that are new one after the other.
use mathlib.Core.Path.{◌≡◌, refl, sym, ap, ◌∙◌}
use mathlib.Core.List.{List, [], ◌∷◌, ◌++◌}
use mathlib.Core.Bool.{Bool, true, false, ◌||◌, false≢true}
use Prim.Native.Nat.{ℕ}
use borrow.Author.Tests.{eqb-false, ne_eqb, eq-eqb}
use lib.Dec.{eqb}
use Rattle.table.specs.Scan.{has}
use Rattle.blocks.specs.Blocks.{Distinct}

pub neither : (a b : Bool) → (a || b) ≡ false → (a ≡ false) × (b ≡ false)
neither true b e = absurd (false≢true (sym e))
neither false b e = (refl, e)

-- none of them is among the keys
abbrev pub Apart : List ℕ → List ℕ → Type 0
Apart keys [] = Unit {0}
Apart keys (k ∷ ks) = (has keys k ≡ false) × Apart keys ks

-- none of them is among the keys or before it
abbrev pub Unused : List ℕ → List ℕ → Type 0
Unused keys [] = Unit {0}
Unused keys (k ∷ ks) = (has keys k ≡ false) × Unused (k ∷ keys) ks

-- a key of the list is none of those that are unused
unused-lacks : (keys ks : List ℕ) (k : ℕ) → has keys k ≡ true → Unused keys ks → has ks k ≡ false
unfolding has
unused-lacks keys [] k h u = refl
unused-lacks keys (x ∷ ks) k h u =
    let e : eqb x k ≡ false = ne_eqb x k (λ i. false≢true (sym u.0 ∙ ap (has keys) i ∙ h)) in
    rw e (unused-lacks (x ∷ keys) ks k (rw e h) u.1)

pub unused-distinct : (keys ks : List ℕ) → Unused keys ks → Distinct ks
unfolding has
unused-distinct keys [] u = tt
unused-distinct keys (k ∷ ks) u =
    let here : has (k ∷ keys) k ≡ true = rw (eq-eqb k k refl) in
    (unused-lacks (k ∷ keys) ks k here u.1, unused-distinct (k ∷ keys) ks u.1)

-- one more key
apart_more : (keys ks : List ℕ) (k : ℕ) → has ks k ≡ false → Apart keys ks → Apart (k ∷ keys) ks
unfolding has
apart_more keys [] k l a = tt
apart_more keys (x ∷ ks) k l a =
    let n = neither (eqb x k) (has ks k) l in
    (rw (ne_eqb k x (λ e. eqb-false x k n.0 (sym e))) a.0, apart_more keys ks k n.1 a.1)

pub distinct-unused : (keys ks : List ℕ) → Distinct ks → Apart keys ks → Unused keys ks
distinct-unused keys [] d a = tt
distinct-unused keys (k ∷ ks) d a = (a.0, distinct-unused (k ∷ keys) ks d.1 (apart_more keys ks k d.0 a.1))

pub apart_none : (ks : List ℕ) → Apart [] ks
unfolding has
apart_none [] = tt
apart_none (k ∷ ks) = (refl, apart_none ks)

-- ---- lists of keys one behind the other

has-append : (ks ls : List ℕ) (k : ℕ) → has ks k ≡ false → has ls k ≡ false → has (ks ++ ls) k ≡ false
unfolding has
has-append [] ls k a b = b
has-append (x ∷ ks) ls k a b = let n = neither (eqb x k) (has ks k) a in rw n.0 (has-append ks ls k n.1 b)

apart-lacks : (keys ls : List ℕ) (k : ℕ) → has keys k ≡ true → Apart keys ls → has ls k ≡ false
unfolding has
apart-lacks keys [] k h a = refl
apart-lacks keys (x ∷ ls) k h a =
    let e : eqb x k ≡ false = ne_eqb x k (λ i. false≢true (sym a.0 ∙ ap (has keys) i ∙ h)) in
    rw e (apart-lacks keys ls k h a.1)

apart-fewer : (k : ℕ) (keys ls : List ℕ) → Apart (k ∷ keys) ls → Apart keys ls
unfolding has
apart-fewer k keys [] a = tt
apart-fewer k keys (x ∷ ls) a = ((neither (eqb k x) (has keys x) a.0).1, apart-fewer k keys ls a.1)

pub distinct_append : (ks ls : List ℕ) → Distinct ks → Distinct ls → Apart ks ls → Distinct (ks ++ ls)
unfolding has
distinct_append [] ls d e a = e
distinct_append (k ∷ ks) ls d e a =
    let here : has (k ∷ ks) k ≡ true = rw (eq-eqb k k refl) in
    (has-append ks ls k d.0 (apart-lacks (k ∷ ks) ls k here a), distinct_append ks ls d.1 e (apart-fewer k ks ls a))
