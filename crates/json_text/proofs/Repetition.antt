-- Repetition: where every step that goes on takes a byte, more steps than bytes change nothing, so a step can be taken off the front.
-- Assumes nothing.
use Prim.Native.Nat.{ℕ, zero, suc, ◌<◌}
use native.Mathlib.Omega.{arith}
use mathlib.Core.Path.{◌≡◌, refl, ap}
use mathlib.Core.List.{List, [], ◌∷◌, ◌++◌}
use lib.ListN.{length}
use Rattle.json_text.specs.Bytes.{nothing, rest, Step, fails, goes, ends, after_by, starts_by, units_by, after, starts}

abbrev pub Narrow : (List ℕ → Step) → Type 0
Narrow f = (bs us cs : List ℕ) → f bs ≡ goes us cs → length cs < length bs

-- what a number of steps gives that goes by what fewer steps give for fewer bytes
abbrev Local : {R : Type 0} → (ℕ → List ℕ → R) → Type 0
Local F = (n m : ℕ) (bs : List ℕ) → ((cs : List ℕ) → length cs < length bs → F n cs ≡ F m cs) → F (suc n) bs ≡ F (suc m) bs

enough : {R : Type 0} (F : ℕ → List ℕ → R) → Local F → (n m : ℕ) (bs : List ℕ) → length bs < n → length bs < m → F n bs ≡ F m bs
enough F local zero m bs h k = absurd (omega arith)
enough F local (suc n) zero bs h k = absurd (omega arith)
enough F local (suc n) (suc m) bs h k = local n m bs (λ cs l. enough F local n m cs (omega arith) (omega arith))

module _ (f : List ℕ → Step) (narrow : Narrow f) where
  after-local : Local (after_by f)
  unfolding after_by
  after-local n m bs same = by (f bs) refl
    where
      by : (s : Step) → f bs ≡ s → after_by f (suc n) bs ≡ after_by f (suc m) bs
      by fails e = rw (e, after_by)
      by (goes us cs) e = rw (e, after_by) (same cs (narrow bs us cs e))
      by (ends cs) e = rw (e, after_by)

  starts-local : Local (starts_by f)
  unfolding starts_by
  starts-local n m bs same = by (f bs) refl
    where
      by : (s : Step) → f bs ≡ s → starts_by f (suc n) bs ≡ starts_by f (suc m) bs
      by fails e = rw (e, starts_by)
      by (goes us cs) e = rw (e, starts_by) (ap (λ (l : List (List ℕ)). bs ∷ l) (same cs (narrow bs us cs e)))
      by (ends cs) e = rw (e, starts_by)

  units-local : Local (units_by f)
  unfolding units_by
  units-local n m bs same = by (f bs) refl
    where
      by : (s : Step) → f bs ≡ s → units_by f (suc n) bs ≡ units_by f (suc m) bs
      by fails e = rw (e, units_by)
      by (goes us cs) e = rw (e, units_by) (ap (λ (l : List ℕ). us ++ l) (same cs (narrow bs us cs e)))
      by (ends cs) e = rw (e, units_by)

  -- more steps than bytes change nothing
  pub after-enough : (n : ℕ) (bs : List ℕ) → length bs < n → after_by f n bs ≡ after f bs
  after-enough n bs h = enough (after_by f) after-local n (suc (length bs)) bs h (omega arith)

  pub starts-enough : (n : ℕ) (bs : List ℕ) → length bs < n → starts_by f n bs ≡ starts f bs
  starts-enough n bs h = enough (starts_by f) starts-local n (suc (length bs)) bs h (omega arith)

  pub units-enough : (n : ℕ) (bs : List ℕ) → length bs < n → units_by f n bs ≡ units_by f (suc (length bs)) bs
  units-enough n bs h = enough (units_by f) units-local n (suc (length bs)) bs h (omega arith)

  module _ (bs : List ℕ) where
    -- the first step
    pub after-fails : f bs ≡ fails → after f bs ≡ nothing
    unfolding after_by
    after-fails e = rw (e, after_by)

    pub after-goes : (us cs : List ℕ) → f bs ≡ goes us cs → after f bs ≡ after f cs
    unfolding after_by
    after-goes us cs e = rw (e, after_by) (after-enough (length bs) cs (narrow bs us cs e))

    pub after-ends : (cs : List ℕ) → f bs ≡ ends cs → after f bs ≡ rest cs
    unfolding after_by
    after-ends cs e = rw (e, after_by)

    pub starts-goes : (us cs : List ℕ) → f bs ≡ goes us cs → starts f bs ≡ bs ∷ starts f cs
    unfolding starts_by
    starts-goes us cs e = rw (e, starts_by) (ap (λ (l : List (List ℕ)). bs ∷ l) (starts-enough (length bs) cs (narrow bs us cs e)))

    pub starts-fails : f bs ≡ fails → starts f bs ≡ bs ∷ []
    unfolding starts_by
    starts-fails e = rw (e, starts_by)

    pub starts-ends : (cs : List ℕ) → f bs ≡ ends cs → starts f bs ≡ bs ∷ []
    unfolding starts_by
    starts-ends cs e = rw (e, starts_by)

    pub units-goes : (us cs : List ℕ) → f bs ≡ goes us cs → units_by f (suc (length bs)) bs ≡ us ++ units_by f (suc (length cs)) cs
    unfolding units_by
    units-goes us cs e = rw (e, units_by) (ap (λ (l : List ℕ). us ++ l) (units-enough (length bs) cs (narrow bs us cs e)))

    pub units-fails : f bs ≡ fails → units_by f (suc (length bs)) bs ≡ []
    unfolding units_by
    units-fails e = rw (e, units_by)

    pub units-ends : (cs : List ℕ) → f bs ≡ ends cs → units_by f (suc (length bs)) bs ≡ []
    unfolding units_by
    units-ends cs e = rw (e, units_by)
