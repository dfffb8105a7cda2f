-- Homes, scopes and depths of the terms of an accepted table.
use mathlib.Core.Path.{◌≡◌, ap, subst}
use mathlib.Core.List.{List, [], ◌∷◌, ◌++◌, map}
use mathlib.Core.Bool.{Bool, true, false}
use Prim.Native.Nat.{ℕ, zero, suc, ◌-◌, ◌≤◌, ◌<◌}
use native.Mathlib.Nat.{le_of_suc-le-suc, not-suc-le-zero, le_refl, le-suc, le_trans}
use native.Mathlib.Omega.{arith}
use lib.ListN.{length, get_or, replicate}
use Rattle.table.specs.Words.{kind, argument, parts, parts_by_kind, arity}
use Rattle.table.specs.Scan.{Task, head, name, perms, guard, term, accepted, under, next, reading}
use Rattle.table.specs.Code.{task_at}
use Rattle.table.proofs.Stack.{reach-with}

-- ---- a fact of each task and the places up to its own

abbrev pub All : (Task → Type 0) → List Task → Type 0
All Q [] = Unit {0}
All Q (t ∷ ts) = Q t × All Q ts

pub all_append : (Q : Task → Type 0) (ts us : List Task) → All Q ts → All Q us → All Q (ts ++ us)
all_append Q [] us a b = b
all_append Q (t ∷ ts) us a b = (a.0, all_append Q ts us a.1 b)

pub all_map : (Q R : Task → Type 0) → ((t : Task) → Q t → R t) → (ts : List Task) → All Q ts → All R ts
all_map Q R f [] a = tt
all_map Q R f (t ∷ ts) a = (f t a.0, all_map Q R f ts a.1)

-- a fact of a term, by its place, depth, home and scope
abbrev pub TermFact : Type 1
TermFact = ℕ → ℕ → ℕ → List ℕ → Type 0

abbrev OnTerm : TermFact → ℕ → Task → Type 0
OnTerm Q p (head n) = Unit {0}
OnTerm Q p name = Unit {0}
OnTerm Q p (perms n) = Unit {0}
OnTerm Q p guard = Unit {0}
OnTerm Q p (term d h s) = Q p d h s

-- What holds of a term while it waits, of a block's body, and of the parts of a term of which it holds, holds of every term at its place.
module _ (ws : List ℕ) (e : reading ws ≡ accepted) (Q : TermFact) (later : (p d h : ℕ) (s : List ℕ) → Q p d h s → Q (suc p) d h s)
    (body : (b : ℕ) → task_at ws b ≡ name → Q (suc b) 1 b (b ∷ []))
    (part : (p d h : ℕ) (s : List ℕ) → task_at ws p ≡ term d h s → Q p d h s → (b : Bool) → 0 < arity (get_or ws p 0)
    → Q (suc p) (suc d) h (under b p s)) where
  on-later : (p : ℕ) (t : Task) → OnTerm Q p t → OnTerm Q (suc p) t
  on-later p (head n) q = tt
  on-later p name q = tt
  on-later p (perms n) q = tt
  on-later p guard q = tt
  on-later p (term d h s) q = later p d h s q

  on-names : (p n : ℕ) → All (OnTerm Q p) (replicate n name)
  on-names p zero = tt
  on-names p (suc n) = (tt, on-names p n)

  on-parts : (p d h : ℕ) (s : List ℕ) → task_at ws p ≡ term d h s → Q p d h s → (bs : List Bool) → length bs ≤ arity (get_or ws p 0)
      → All (OnTerm Q (suc p)) (map (λ b. term (suc d) h (under b p s)) bs)
  on-parts p d h s t q [] l = tt
  on-parts p d h s t q (b ∷ bs) l = (part p d h s t q b (omega arith), on-parts p d h s t q bs (omega arith))

  on-next : (p : ℕ) (t : Task) → task_at ws p ≡ t → OnTerm Q p t → All (OnTerm Q (suc p)) (next p (get_or ws p 0) t)
  unfolding next arity
  on-next p (head n) t q = on-names (suc p) (argument (get_or ws p 0))
  on-next p name t q = (tt, (tt, (body p t, tt)))
  on-next p (perms n) t q = tt
  on-next p guard t q = tt
  on-next p (term d h s) t q = on-parts p d h s t q (parts (get_or ws p 0)) (le_refl (length (parts (get_or ws p 0))))

  pub every-term : (p d h : ℕ) (s : List ℕ) → p < length ws → task_at ws p ≡ term d h s → Q p d h s
  every-term p d h s l t =
      subst (OnTerm Q p) t
      (reach-with ws (λ q keys ts. All (OnTerm Q q) ts)
      (λ q keys u ts z a.
      all_append (OnTerm Q (suc q)) (next q (get_or ws q 0) u) ts (on-next q u z.task a.0)
      (all_map (OnTerm Q q) (OnTerm Q (suc q)) (on-later q) ts a.1))
      (tt, tt) e p l).holds.0

-- ---- homes and scopes

-- the term's home is a block before p, and its binders stand before p, no more of them than its depth
pub record Scoped (ws : List ℕ) (p d h : ℕ) (s : List ℕ) : Type 0 where
  pub home-task : task_at ws h ≡ name
  pub home-before : h < p
  pub shallow : length s ≤ d
  pub binders-before : (k : ℕ) → k < length s → get_or s k 0 < p

scoped-later : (ws : List ℕ) (p d h : ℕ) (s : List ℕ) → Scoped ws p d h s → Scoped ws (suc p) d h s
scoped-later ws p d h s q =
    record {
      home-task = q.home-task;
      home-before = le_trans q.home-before (le-suc p);
      shallow = q.shallow;
      binders-before = λ k l. le_trans (q.binders-before k l) (le-suc p);
    }

-- under one binder more, or not
scoped-under : (ws : List ℕ) (p d h : ℕ) (s : List ℕ) → Scoped ws p d h s → (b : Bool) → Scoped ws (suc p) (suc d) h (under b p s)
unfolding under
scoped-under ws p d h s q true =
    record {
      home-task = q.home-task;
      home-before = le_trans q.home-before (le-suc p);
      shallow = let l = q.shallow in omega arith;
      binders-before = bound;
    }
  where
    bound : (k : ℕ) → k < suc (length s) → get_or (p ∷ s) k 0 < suc p
    bound zero l = le_refl (suc p)
    bound (suc k) l = le_trans (q.binders-before k (le_of_suc-le-suc l)) (le-suc p)
scoped-under ws p d h s q false =
    record {
      home-task = q.home-task;
      home-before = le_trans q.home-before (le-suc p);
      shallow = let l = q.shallow in omega arith;
      binders-before = λ k l. le_trans (q.binders-before k l) (le-suc p);
    }

scoped-body : (ws : List ℕ) (b : ℕ) → task_at ws b ≡ name → Scoped ws (suc b) 1 b (b ∷ [])
scoped-body ws b t =
    record { home-task = t; home-before = le_refl (suc b); shallow = le_refl 1; binders-before = bound }
  where
    bound : (k : ℕ) → k < 1 → get_or (b ∷ []) k 0 < suc b
    bound zero l = le_refl (suc b)
    bound (suc k) l = absurd (not-suc-le-zero (le_of_suc-le-suc l))

-- ---- binders of binders

-- b binds, and stands itself under the binders s: it is a block, or a term that is no variable
pub data Binder (ws : List ℕ) (b : ℕ) : List ℕ → Type 0 where
  of-block : task_at ws b ≡ name → Binder ws b []
  of-term : {d h : ℕ} {s : List ℕ} → task_at ws b ≡ term d h s → (kind (get_or ws b 0) ≡ 20 → ⊥) → Binder ws b s

-- each binder of a scope stands under those further out
abbrev pub Chained : List ℕ → List ℕ → Type 0
Chained ws [] = Unit {0}
Chained ws (b ∷ s) = Binder ws b s × Chained ws s

-- a variable has no parts
pub parts-variable : (w : ℕ) → kind w ≡ 20 → parts w ≡ []
unfolding parts parts_by_kind
parts-variable w k = ap (λ (n : ℕ). get_or parts_by_kind (n - 16) []) k

no-variable : (w : ℕ) → 0 < arity w → kind w ≡ 20 → ⊥
unfolding arity
no-variable w h k = let z = ap length (parts-variable w k) in omega arith

chained-under : (ws : List ℕ) (p d h : ℕ) (s : List ℕ) → task_at ws p ≡ term d h s → Chained ws s → (b : Bool) → 0 < arity (get_or ws p 0)
    → Chained ws (under b p s)
unfolding under
chained-under ws p d h s t c true a = (of-term t (no-variable (get_or ws p 0) a), c)
chained-under ws p d h s t c false a = c

module _ (ws : List ℕ) (e : reading ws ≡ accepted) (p d h : ℕ) (s : List ℕ) (l : p < length ws) (t : task_at ws p ≡ term d h s) where
  pub scoped : Scoped ws p d h s
  scoped =
      every-term ws e (Scoped ws) (scoped-later ws) (scoped-body ws) (λ p d h s t q b a. scoped-under ws p d h s q b) p d h s l t

  pub chained : Chained ws s
  chained =
      every-term ws e (λ p d h s. Chained ws s) (λ p d h s q. q) (λ b t. (of-block t, tt))
      (λ p d h s t q b a. chained-under ws p d h s t q b a)
      p d h s l t
