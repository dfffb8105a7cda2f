-- How many names a table has, by its word 0: 32 or 64.
use mathlib.Core.Path.{◌≡◌, refl, subst}
use mathlib.Core.Bool.{Bool, true, false}
use mathlib.Core.List.{List, [], ◌∷◌, ◌++◌}
use mathlib.Core.Logic.{◌⊎◌, inl, inr, ⊎_elim}
use Prim.Native.Nat.{ℕ, suc, ◌≤◌, ◌<◌}
use native.Mathlib.Omega.{arith}
use borrow.Author.Tests.{eq-eqb, ne_eqb}
use lib.Dec.{eqb}
use lib.ListN.{length, get_or, replicate}
use Rattle.table.specs.Words.{kind, argument, narrow, wide, names_of}
use Rattle.table.specs.Scan.{Task, head, name, perms, guard, term, accepted, refused, keep, next, names_at, reading, narrow_reading}
use Rattle.table.specs.Code.{task_at}
use Rattle.table.proofs.Faults.{Stands, stands}
use Rattle.table.proofs.Stack.{refused-not-accepted, terms-next, at-step, Fact, reach-with}
use Rattle.table.proofs.Limits.{Headless, headless-terms, headless-names}

pub either-width : (w : ℕ) → (names_of w ≡ 32) ⊎ (names_of w ≡ 64)
unfolding names_of
either-width w = go (eqb (kind w) 5)
  where
    go : (b : Bool) → (◌≡◌ {A = ℕ} (elim b [ true ↦ wide | false ↦ narrow ]) 32) ⊎ (◌≡◌ {A = ℕ} (elim b [ true ↦ wide | false ↦ narrow ]) 64)
    go true = inr refl
    go false = inl refl

pub names-most : (w : ℕ) → names_of w ≤ 64
names-most w = ⊎_elim (λ e. omega arith) (λ e. omega arith) (either-width w)

pub wide-names : (w : ℕ) → kind w ≡ 5 → names_of w ≡ 64
unfolding names_of
wide-names w e = rw (eq-eqb (kind w) 5 e, names_of)

pub narrow-names : (w : ℕ) → (kind w ≡ 5 → ⊥) → names_of w ≡ 32
unfolding names_of
narrow-names w n = rw (ne_eqb (kind w) 5 n, names_of)

-- ---- narrow tables alone

module _ (ws : List ℕ) where
  pub wide-refused : eqb (kind (get_or ws 0 0)) 5 ≡ true → narrow_reading ws ≡ refused 1 0
  unfolding narrow_reading
  wide-refused e = rw (e, narrow_reading)

  pub narrow-read : eqb (kind (get_or ws 0 0)) 5 ≡ false → narrow_reading ws ≡ reading ws
  unfolding narrow_reading
  narrow-read e = rw (e, narrow_reading)

  -- what is accepted as a narrow table is one
  pub narrow-accepted : narrow_reading ws ≡ accepted → (reading ws ≡ accepted) × (names_of (get_or ws 0 0) ≡ 32)
  unfolding narrow_reading names_of
  narrow-accepted = go (eqb (kind (get_or ws 0 0)) 5)
    where
      go : (b : Bool) → elim b [ true ↦ refused 1 0 | false ↦ reading ws ] ≡ accepted
          → (reading ws ≡ accepted) × (◌≡◌ {A = ℕ} (elim b [ true ↦ wide | false ↦ narrow ]) 32)
      go true e = absurd (refused-not-accepted e)
      go false e = (e, refl)

-- ---- the kind of word 0 stands nowhere else

-- the task of word 0 waits there alone
abbrev First : Fact
First p keys [] = Unit {0}
First p keys (head n ∷ ts) = (p ≡ 0) × Headless ts
First p keys (name ∷ ts) = Headless ts
First p keys (perms n ∷ ts) = Headless ts
First p keys (guard ∷ ts) = Headless ts
First p keys (term d h s ∷ ts) = Headless ts

headless-first : (p : ℕ) (keys : List ℕ) (ts : List Task) → Headless ts → First p keys ts
headless-first p keys [] h = tt
headless-first p keys (head n ∷ ts) h = absurd h
headless-first p keys (name ∷ ts) h = h
headless-first p keys (perms n ∷ ts) h = h
headless-first p keys (guard ∷ ts) h = h
headless-first p keys (term d k s ∷ ts) h = h

first-kept : (p q at w : ℕ) (keys : List ℕ) (t : Task) (ts : List Task) → First p keys (t ∷ ts) → First q (keep keys w t) (next at w t ++ ts)
unfolding next
first-kept p q at w keys (head n) ts h =
    headless-first q (keep keys w (head n)) (replicate (argument w) name ++ ts) (headless-names (argument w) ts h.1)
first-kept p q at w keys name ts h = h
first-kept p q at w keys (perms n) ts h = headless-first q (keep keys w (perms n)) ts h
first-kept p q at w keys guard ts h = headless-first q (keep keys w guard) ts h
first-kept p q at w keys (term d k s) ts h =
    headless-first q (keep keys w (term d k s)) (next at w (term d k s) ++ ts) (headless-terms (next at w (term d k s)) ts (terms-next at w d k s) h)

module _ (ws : List ℕ) (e : narrow_reading ws ≡ accepted) where
  pub narrow-kind : kind (get_or ws 0 0) ≡ 5 → ⊥
  narrow-kind h = let w = wide-names (get_or ws 0 0) h in let n = (narrow-accepted ws e).1 in omega arith

  -- a narrow table has no word of kind 5
  pub no-wide-word : (p : ℕ) → p < length ws → kind (get_or ws p 0) ≡ 5 → ⊥
  no-wide-word p l h =
      let r = reach-with ws First (λ q keys t ts s f. first-kept q (suc q) q (get_or ws q 0) keys t ts f) (refl, tt) (narrow-accepted ws e).0 p l in
      go (task_at ws p) r.below r.keys r.holds
      (stands (names_at ws) r.keys (get_or ws p 0) (task_at ws p) (at-step ws p r.keys (task_at ws p) r.below r.there).faultless)
    where
      go : (t : Task) (ts : List Task) (keys : List ℕ) → First p keys (t ∷ ts) → Stands (names_at ws) keys (get_or ws p 0) t → ⊥
      go (head n) ts keys f s = narrow-kind (subst (λ (q : ℕ). kind (get_or ws q 0) ≡ 5) f.0 h)
      go name ts keys f s = omega (arith, s.0)
      go (perms n) ts keys f s = omega (arith, s.0)
      go guard ts keys f s = omega (arith, s)
      go (term d k b) ts keys f s = omega (arith, s.0)
