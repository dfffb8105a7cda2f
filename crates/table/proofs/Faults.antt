-- What it means that no test refuses a word: `fault` is 0 exactly if the word may stand for the task.
use mathlib.Core.Path.{◌≡◌, refl, ap, subst}
use mathlib.Core.List.{List, [], ◌∷◌}
use mathlib.Core.Logic.{◌⊎◌, inl, inr}
use mathlib.Core.Bool.{Bool, true, false, not, ◌&&◌, ◌||◌, false≢true}
use Prim.Native.Nat.{ℕ, suc, ◌≤◌, ◌<◌}
use native.Mathlib.Nat.{zero-lt-suc, lt_irrefl}
use borrow.Author.Tests.{ltb-false, leb-false, eqb-true, le-ltb, lt-leb, eq-eqb, not-false}
use lib.ListN.{length}
use lib.Dec.{eqb, leb, ltb}
use Rattle.table.specs.Words.{kind, argument, size, depths, limit}
use Rattle.table.specs.Scan.{Task, head, name, perms, guard, term, first_of, has, key, tests, fault}

module _ (names : ℕ) where
  -- the word w may stand where a task waits for it
  abbrev pub Stands : List ℕ → ℕ → Task → Type 0
  Stands keys w (head n) = ((kind w ≡ 1) ⊎ (kind w ≡ 5)) × (n ≤ size) × (argument w ≤ names)
  Stands keys w name = (kind w ≡ 2) × (argument w < names)
  Stands keys w (perms n) = (kind w ≡ 3) × (has keys (key n (argument w)) ≡ false)
  Stands keys w guard = kind w ≡ 4
  Stands keys w (term d h s) =
      (16 ≤ kind w) × (kind w ≤ 36) × (argument w < limit w) × (kind w ≡ 20 → argument w < length s) × (d ≤ depths) × (kind w ≡ 19 → argument w < names)

-- a kind that starts a table
pub either : (k : ℕ) → (eqb k 1 || eqb k 5) ≡ true → (k ≡ 1) ⊎ (k ≡ 5)
either k e = go (eqb k 1) (eqb k 5) (eqb-true k 1) (eqb-true k 5) e
  where
    go : (a b : Bool) → (a ≡ true → k ≡ 1) → (b ≡ true → k ≡ 5) → (a || b) ≡ true → (k ≡ 1) ⊎ (k ≡ 5)
    go true b f g h = inl (f refl)
    go false b f g h = inr (g h)

pub one_of : (k : ℕ) → (k ≡ 1) ⊎ (k ≡ 5) → (eqb k 1 || eqb k 5) ≡ true
one_of k (inl e) = rw (eq-eqb k 1 e)
one_of k (inr e) = or-true (eqb k 1) (eqb k 5) (eq-eqb k 5 e)
  where
    or-true : (a b : Bool) → b ≡ true → (a || b) ≡ true
    or-true true b h = refl
    or-true false b h = h

-- one test of the list
first-no : (b : Bool) (n : ℕ) (ts : List (Bool × ℕ)) → first_of ((b, suc n) ∷ ts) ≡ 0 → (b ≡ false) × (first_of ts ≡ 0)
unfolding first_of
first-no true n ts e = absurd (lt_irrefl 0 (subst (λ (m : ℕ). 0 < m) e (zero-lt-suc n)))
first-no false n ts e = (refl, e)

no-first : (b : Bool) (n : ℕ) (ts : List (Bool × ℕ)) → b ≡ false → first_of ts ≡ 0 → first_of ((b, n) ∷ ts) ≡ 0
unfolding first_of
no-first b n ts e r = rw e r

no-tests : first_of [] ≡ 0
unfolding first_of
no-tests = refl

and-false : (a b : Bool) → (a ≡ true → b ≡ false) → (a && b) ≡ false
and-false true b h = h refl
and-false false b h = refl

false-and : (a b : Bool) → (a && b) ≡ false → a ≡ true → b ≡ false
false-and true b e t = e
false-and false b e t = absurd (false≢true t)

module _ (names : ℕ) where
  pub stands : (keys : List ℕ) (w : ℕ) (t : Task) → fault names keys w t ≡ 0 → Stands names keys w t
  unfolding fault tests
  stands keys w (head n) e =
      let a = first-no (not (eqb (kind w) 1 || eqb (kind w) 5)) 0 _ e in
      let b = first-no (ltb size n) 1 _ a.1 in
      let c = first-no (ltb names (argument w)) 2 _ b.1 in
      (either (kind w) (not-false _ a.0), ltb-false size n b.0, ltb-false names (argument w) c.0)
  stands keys w name e =
      let a = first-no (not (eqb (kind w) 2)) 3 _ e in
      let b = first-no (leb names (argument w)) 4 _ a.1 in
      (eqb-true (kind w) 2 (not-false _ a.0), leb-false names (argument w) b.0)
  stands keys w (perms n) e =
      let a = first-no (not (eqb (kind w) 3)) 3 _ e in
      let b = first-no (has keys (key n (argument w))) 5 _ a.1 in
      (eqb-true (kind w) 3 (not-false _ a.0), b.0)
  stands keys w guard e = eqb-true (kind w) 4 (not-false _ (first-no (not (eqb (kind w) 4)) 3 _ e).0)
  stands keys w (term d h s) e =
      let a = first-no (ltb (kind w) 16) 6 _ e in
      let b = first-no (ltb 36 (kind w)) 6 _ a.1 in
      let c = first-no (leb (limit w) (argument w)) 8 _ b.1 in
      let x = first-no (eqb (kind w) 19 && leb names (argument w)) 8 _ c.1 in
      let f = first-no (eqb (kind w) 20 && leb (length s) (argument w)) 9 _ x.1 in
      let g = first-no (ltb depths d) 10 _ f.1 in (
        ltb-false (kind w) 16 a.0,
        ltb-false 36 (kind w) b.0,
        leb-false (limit w) (argument w) c.0,
        λ k. leb-false (length s) (argument w) (false-and (eqb (kind w) 20) _ f.0 (eq-eqb (kind w) 20 k)),
        ltb-false depths d g.0,
        λ k. leb-false names (argument w) (false-and (eqb (kind w) 19) _ x.0 (eq-eqb (kind w) 19 k)),
      )

  -- and nothing else is refused
  pub faultless : (keys : List ℕ) (w : ℕ) (t : Task) → Stands names keys w t → fault names keys w t ≡ 0
  unfolding fault tests
  faultless keys w (head n) r =
      no-first _ _ _ (ap not (one_of (kind w) r.0))
      (no-first _ _ _ (le-ltb size n r.1) (no-first _ _ _ (le-ltb names (argument w) r.2) no-tests))
  faultless keys w name r =
      no-first _ _ _ (ap not (eq-eqb (kind w) 2 r.0)) (no-first _ _ _ (lt-leb names (argument w) r.1) no-tests)
  faultless keys w (perms n) r =
      no-first _ _ _ (ap not (eq-eqb (kind w) 3 r.0)) (no-first _ _ _ r.1 no-tests)
  faultless keys w guard r = no-first _ _ _ (ap not (eq-eqb (kind w) 4 r)) no-tests
  faultless keys w (term d h s) r =
      no-first _ _ _ (le-ltb (kind w) 16 r.0)
      (no-first _ _ _ (le-ltb 36 (kind w) r.1)
      (no-first _ _ _ (lt-leb (limit w) (argument w) r.2)
      (no-first _ _ _ (and-false (eqb (kind w) 19) _ (λ k. lt-leb names (argument w) (r.5 (eqb-true (kind w) 19 k))))
      (no-first _ _ _
      (and-false (eqb (kind w) 20) _ (λ k. lt-leb (length s) (argument w) (r.3 (eqb-true (kind w) 20 k))))
      (no-first _ _ _ (le-ltb depths d r.4) no-tests)))))
