-- Laws of lists: where a member stands, and how many different numbers a list may have.
use Prim.Native.Nat.{ℕ, zero, suc, ◌+◌, ◌≤◌, ◌<◌}
use mathlib.Core.Path.{◌≡◌, refl, sym, ap, ◌∙◌, subst}
use mathlib.Core.Logic.{⊎_elim}
use mathlib.Core.List.Memᴰ
use mathlib.Core.List.{List, [], ◌∷◌, ◌++◌, Memᴰ}
use native.Mathlib.Decide.{ℕ_discrete}
use native.Mathlib.Omega.{arith}
use lib.ListN.{length, length-append}
use Rattle.graph.specs.Loop.{Distinct}

-- a member stands somewhere
pub record Cut (x : ℕ) (xs : List ℕ) : Type 0 where
  pub before : List ℕ
  pub after : List ℕ
  pub cut : xs ≡ before ++ x ∷ after

pub cut_at : {x : ℕ} (xs : List ℕ) → Memᴰ x xs → Cut x xs
cut_at [] m = absurd (Memᴰ.not-nil m)
cut_at {x} (y ∷ ys) m = ⊎_elim here (λ k. later (cut_at ys k)) (Memᴰ.cases_cons m)
  where
    here : x ≡ y → Cut x (y ∷ ys)
    here e = record { before = []; after = ys; cut = ap (λ (z : ℕ). z ∷ ys) (sym e) }

    later : Cut x ys → Cut x (y ∷ ys)
    later r = record { before = y ∷ r.before; after = r.after; cut = ap (λ (l : List ℕ). y ∷ l) r.cut }

-- the length of a list that is cut
pub length_cut : (before : List ℕ) (x : ℕ) (after : List ℕ) → length (before ++ x ∷ after) ≡ suc (length before + length after)
length_cut before x after = length-append before (x ∷ after) ∙ omega arith

-- a number more at the end
pub distinct_snoc : (xs : List ℕ) (x : ℕ) → Distinct xs → (Memᴰ x xs → ⊥) → Distinct (xs ++ x ∷ [])
distinct_snoc [] x d f = (λ m. Memᴰ.not-nil m, tt)
distinct_snoc (y ∷ ys) x d f = (
  λ m. ⊎_elim d.0 (λ k. f (Memᴰ.head (sym (Memᴰ.eq_of_singleton k)))) (Memᴰ.append_cases ys m),
  distinct_snoc ys x d.1 (λ m. f (Memᴰ.tail m)),
)

-- a member of a list that is cut, other than the number at the cut
beside : (x : ℕ) (before after : List ℕ) (y : ℕ) → (y ≡ x → ⊥) → Memᴰ y (before ++ x ∷ after) → Memᴰ y (before ++ after)
beside x before after y f m =
    ⊎_elim (λ k. Memᴰ.append_left after k)
    (λ k. ⊎_elim (λ e. absurd (f e)) (λ l. Memᴰ.append_right before l) (Memᴰ.cases_cons k))
    (Memᴰ.append_cases before m)

-- different numbers that are all in another list are no more than it has
pub distinct-within : (xs pool : List ℕ) → Distinct xs → ((y : ℕ) → Memᴰ y xs → Memᴰ y pool) → length xs ≤ length pool
distinct-within [] pool d h = omega arith
distinct-within (x ∷ xs) pool d h =
    let r = cut_at pool (h x (Memᴰ.head refl)) in
    let less =
    distinct-within xs (r.before ++ r.after) d.1
    (λ y m. beside x r.before r.after y (λ e. d.0 (Memᴰ.cast (sym e) m)) (subst (Memᴰ y) r.cut (h y (Memᴰ.tail m)))) in
    let e = ap length r.cut ∙ length_cut r.before x r.after in
    let f = length-append r.before r.after in
    omega arith

down_from : ℕ → List ℕ
down_from zero = []
down_from (suc n) = n ∷ down_from n

length-down_from : (n : ℕ) → length (down_from n) ≡ n
unfolding down_from
length-down_from zero = refl
length-down_from (suc n) = ap suc (length-down_from n)

in-down_from : (n y : ℕ) → y < n → Memᴰ y (down_from n)
unfolding down_from
in-down_from zero y l = absurd (omega arith)
in-down_from (suc n) y l = go (ℕ_discrete y n) (in-down_from n y)
  where
    go : Dec (y ≡ n) → (y < n → Memᴰ y (down_from n)) → Memᴰ y (n ∷ down_from n)
    go (yes e) r = Memᴰ.head e
    go (no e) r = Memᴰ.tail (r (omega arith))

-- there are at most n different numbers below n
pub distinct-below : (n : ℕ) (xs : List ℕ) → Distinct xs → ((y : ℕ) → Memᴰ y xs → y < n) → length xs ≤ n
distinct-below n xs d h =
    subst (λ (k : ℕ). length xs ≤ k) (length-down_from n) (distinct-within xs (down_from n) d (λ y m. in-down_from n y (h y m)))
