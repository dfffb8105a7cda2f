-- A refusal has one of the numbers 1 to 12, and a place of the table or the place behind it.
use Prim.Native.Nat.{ℕ, zero, suc, ◌+◌, ◌≤◌}
use mathlib.Core.Path.{◌≡◌, subst}
use mathlib.Core.Bool.{Bool, true, false}
use mathlib.Core.List.{List, [], ◌∷◌, ◌++◌}
use native.Mathlib.Omega.{arith}
use lib.Dec.{eqb}
use lib.ListN.{length, get_or}
use Rattle.table.specs.Words.{kind}
use Rattle.table.specs.Scan.{Task, head, name, perms, guard, term, Outcome, accepted, refused, first_of, tests, fault, missing, keep, next, scan, names_at, reading, narrow_reading}

-- the first of tests that holds has a number up to m if all have
pub first_small : (b : Bool) (n m : ℕ) (ts : List (Bool × ℕ)) → n ≤ m → first_of ts ≤ m → first_of ((b, n) ∷ ts) ≤ m
unfolding first_of
first_small true n m ts h k = h
first_small false n m ts h k = k

pub no-test-small : (m : ℕ) → first_of [] ≤ m
unfolding first_of
no-test-small m = omega arith

fault-small : (names : ℕ) (keys : List ℕ) (w : ℕ) (t : Task) → fault names keys w t ≤ 12
unfolding fault tests
fault-small names keys w (head n) =
    first_small _ 1 12 _ (omega arith) (first_small _ 2 12 _ (omega arith) (first_small _ 3 12 _ (omega arith) (no-test-small 12)))
fault-small names keys w name = first_small _ 4 12 _ (omega arith) (first_small _ 5 12 _ (omega arith) (no-test-small 12))
fault-small names keys w (perms n) = first_small _ 4 12 _ (omega arith) (first_small _ 6 12 _ (omega arith) (no-test-small 12))
fault-small names keys w guard = first_small _ 4 12 _ (omega arith) (no-test-small 12)
fault-small names keys w (term d h s) =
    first_small _ 7 12 _ (omega arith)
    (first_small _ 7 12 _ (omega arith)
    (first_small _ 9 12 _ (omega arith)
    (first_small _ 9 12 _ (omega arith)
    (first_small _ 10 12 _ (omega arith) (first_small _ 11 12 _ (omega arith) (no-test-small 12))))))

missing-small : (t : Task) → missing t ≤ 12
unfolding missing
missing-small (head n) = omega arith
missing-small name = omega arith
missing-small (perms n) = omega arith
missing-small guard = omega arith
missing-small (term d h s) = omega arith

-- a refusal has a number up to 12 and a place up to m
abbrev pub Bounded : ℕ → Outcome → Type 0
Bounded m accepted = Unit {0}
Bounded m (refused n p) = (n ≤ 12) × (p ≤ m)

bounded-more : (a b : ℕ) → a ≤ b → (o : Outcome) → Bounded a o → Bounded b o
bounded-more a b h accepted u = tt
bounded-more a b h (refused n p) u = (u.0, omega (arith, u.1))

scan-bounded : (names : ℕ) (ws keys : List ℕ) (at : ℕ) (ts : List Task) → Bounded (at + length ws) (scan names ws keys at ts)
unfolding scan
scan-bounded names [] keys at [] = tt
scan-bounded names [] keys at (t ∷ ts) = (missing-small t, omega arith)
scan-bounded names (w ∷ ws) keys at [] = (omega arith, omega arith)
scan-bounded names (w ∷ ws) keys at (t ∷ ts) =
    go (fault names keys w t) (fault-small names keys w t) (scan-bounded names ws (keep keys w t) (suc at) (next at w t ++ ts))
  where
    go : (f : ℕ) → f ≤ 12 → Bounded (suc at + length ws) (scan names ws (keep keys w t) (suc at) (next at w t ++ ts))
        → Bounded (at + suc (length ws)) (elim f [ zero ↦ scan names ws (keep keys w t) (suc at) (next at w t ++ ts) | suc k ↦ refused (suc k) at ])
    go zero s u = bounded-more (suc at + length ws) (at + suc (length ws)) (omega arith) (scan names ws (keep keys w t) (suc at) (next at w t ++ ts)) u
    go (suc k) s u = (s, omega arith)

module _ (ws : List ℕ) where
  pub reading-bounded : Bounded (length ws) (reading ws)
  unfolding reading
  reading-bounded = bounded-more (0 + length ws) (length ws) (omega arith) (reading ws) (scan-bounded (names_at ws) ws [] 0 (head (length ws) ∷ []))

  pub narrow-bounded : Bounded (length ws) (narrow_reading ws)
  unfolding narrow_reading
  narrow-bounded = go (eqb (kind (get_or ws 0 0)) 5)
    where
      go : (b : Bool) → Bounded (length ws) (elim b [ true ↦ refused 1 0 | false ↦ reading ws ])
      go true = (omega arith, omega arith)
      go false = reading-bounded

-- the same, of an outcome that is known
module _ (m : ℕ) (o : Outcome) (n p : ℕ) where
  pub bounded-number : Bounded m o → o ≡ refused n p → n ≤ 12
  bounded-number u e = (subst (Bounded m) e u).0

  pub bounded-place : Bounded m o → o ≡ refused n p → p ≤ m
  bounded-place u e = (subst (Bounded m) e u).1
