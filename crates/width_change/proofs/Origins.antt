-- The origins of an element: what holds of the element in the code with other names holds of its origins.
use Prim.Native.Nat.{ℕ, ◌-◌, ◌≤◌, ◌<◌}
use mathlib.Core.Path.{◌≡◌, refl, sym, ap, ◌∙◌, subst}
use mathlib.Core.Bool.{Bool, true, false, not, ◌||◌}
use mathlib.Core.List.Memᴰ
use mathlib.Core.List.{[], ◌∷◌, Memᴰ}
use mathlib.Core.Logic.{⊎_elim}
use native.Mathlib.Omega.{arith}
use borrow.Author.Tests.{lt-ltb, le-ltb, lt-leb, le-leb, ne_eqb, ltb-true, ltb-false}
use lib.Dec.{T, eqb, leb, ltb, ltb→lt, eqb→eq}
use Rattle.table.specs.Code.{Code}
use Rattle.widths.specs.Converters.{with_names}
use Rattle.calculus.specs.Elements.{plain, made, elements, is_string, is_function, is_record, is_cell, makes, making}
use Rattle.calculus.specs.Elements.{sendable, any_record}
use Rattle.calculus.specs.Constraint.{range}
use Rattle.permset.proofs.Digits.{T-snd}
use Rattle.calculus.proofs.Ranges.{below_in, in-below}
use Rattle.width_change.specs.Transfer.{origins}

-- ---- what a code says of its elements

module _ (c : Code) where
  making-made : (i : ℕ) → making c (made c i) ≡ makes (c.node i)
  unfolding making
  making-made i = ap (λ (x : ℕ). makes (c.node x)) (let e : made c i - plain c ≡ i = omega arith in e)

  sendable-plain : (v : ℕ) → v < plain c → T (sendable c v)
  unfolding sendable
  sendable-plain v h = rw (lt-ltb v (plain c) h) tt

  sendable-made : (i : ℕ) → sendable c (made c i) ≡ not (is_function (makes (c.node i)) || is_cell (makes (c.node i)))
  unfolding sendable
  sendable-made i = rw (le-ltb (made c i) (plain c) (omega arith), making-made i) refl

  record-plain : (v : ℕ) → v < plain c → any_record c v ≡ (eqb v 7 || false)
  unfolding any_record
  record-plain v h = rw (lt-leb (plain c) v h) refl

  record-made : (i : ℕ) → any_record c (made c i) ≡ is_record (makes (c.node i))
  unfolding any_record
  record-made i = rw (ne_eqb (made c i) 7 (λ e. omega arith), le-leb (plain c) (made c i) (omega arith), making-made i) refl

or-false : (b : Bool) → T (b || false) → T b
or-false true t = tt
or-false false t = t

string-low : (v : ℕ) → T (is_string v) → v < 32
unfolding is_string
string-low v t = ltb→lt v 32 (T-snd (leb 8 v) (ltb v 32) t)

pub only_one : {x w : ℕ} → Memᴰ w (x ∷ []) → w ≡ x
only_one m = ⊎_elim (λ e. e) (λ n. absurd (Memᴰ.not-nil n)) (Memᴰ.cases_cons m)

-- ---- which elements there are

module _ (c : Code) (n : ℕ) where
  abbrev d : Code
  d = with_names n c

  -- plain data that both codes have, a name that c has not, and what a word makes
  pub data Sort (v : ℕ) : Type 0 where
    shared : v < plain c → v < plain d → Sort v
    new : plain c ≤ v → v < plain d → Sort v
    of_word : (i : ℕ) → v ≡ made d i → Sort v

  pub sort : (v : ℕ) → Sort v
  sort v = go (ltb v (plain d)) (ltb v (plain c)) (ltb-true v (plain d)) (ltb-false v (plain d)) (ltb-true v (plain c)) (ltb-false v (plain c))
    where
      go : (a b : Bool) → (a ≡ true → v < plain d) → (a ≡ false → plain d ≤ v) → (b ≡ true → v < plain c) → (b ≡ false → plain c ≤ v) → Sort v
      go true true f g h k = shared (h refl) (f refl)
      go true false f g h k = new (k refl) (f refl)
      go false b f g h k = of_word (v - plain d) (let l = g refl in omega arith)

  pub origins-shared : {v : ℕ} → v < plain c → v < plain d → origins c d v ≡ v ∷ []
  unfolding origins
  origins-shared {v} h k = rw (lt-ltb v (plain d) k, origins, lt-ltb v (plain c) h)

  origins-new : {v : ℕ} → plain c ≤ v → v < plain d → origins c d v ≡ range (plain c) 0
  unfolding origins
  origins-new {v} h k = rw (lt-ltb v (plain d) k, origins, le-ltb v (plain c) h)

  pub origins-made : (i : ℕ) → origins c d (made d i) ≡ made c i ∷ []
  unfolding origins
  origins-made i =
      let e : made c (made d i - plain d) ≡ made c i = omega arith in
      rw (le-ltb (made d i) (plain d) (omega arith), origins) (ap (λ (x : ℕ). x ∷ []) e)

  -- w is an origin of v
  abbrev pub Origin : ℕ → ℕ → Type 0
  Origin v w = Memᴰ w (origins c d v)

  pub itself : {v : ℕ} → v < plain c → v < plain d → Origin v v
  itself {v} h k = subst (Memᴰ v) (sym (origins-shared h k)) (Memᴰ.head refl)

  pub any-plain : {v w : ℕ} → plain c ≤ v → v < plain d → w < plain c → Origin v w
  any-plain {w = w} h k l = subst (Memᴰ w) (sym (origins-new h k)) (below_in l)

  pub by_word : (i : ℕ) → Origin (made d i) (made c i)
  by_word i = subst (Memᴰ (made c i)) (sym (origins-made i)) (Memᴰ.head refl)

  -- there is one
  pub origin : (v : ℕ) → (w : ℕ) × Origin v w
  origin v = go (sort v)
    where
      go : Sort v → (w : ℕ) × Origin v w
      go (shared h k) = (v, itself h k)
      go (new h k) = (0, any-plain h k (omega arith))
      go (of_word i e) = (made c i, subst (λ (x : ℕ). Origin x (made c i)) (sym e) (by_word i))

  -- what the origins are
  is-itself : {v w : ℕ} → v < plain c → v < plain d → Origin v w → w ≡ v
  is-itself {v} {w} h k m = only_one (subst (Memᴰ w) (origins-shared h k) m)

  is_plain : {v w : ℕ} → plain c ≤ v → v < plain d → Origin v w → w < plain c
  is_plain {w = w} h k m = in-below (subst (Memᴰ w) (origins-new h k) m)

  is-by-word : {v w : ℕ} (i : ℕ) → v ≡ made d i → Origin v w → w ≡ made c i
  is-by-word {v} {w} i e m = only_one (subst (Memᴰ w) (ap (origins c d) e ∙ origins-made i) m)

  pub origin-plain : (v w : ℕ) → v < plain d → Origin v w → w < plain c
  origin-plain v w l m = go (sort v)
    where
      go : Sort v → w < plain c
      go (shared h k) = let e : w ≡ v = is-itself h k m in omega arith
      go (new h k) = is_plain h k m
      go (of_word i e) = absurd (omega arith)

  pub origin-element : (v w : ℕ) → v < elements d → Origin v w → w < elements c
  origin-element v w l m = go (sort v)
    where
      go : Sort v → w < elements c
      go (shared h k) = let e : w ≡ v = is-itself h k m in omega arith
      go (new h k) = let i : w < plain c = is_plain h k m in omega arith
      go (of_word i e) = let f : w ≡ made c i = is-by-word i e m in omega arith

  -- ---- properties: where v has it in d, each origin has it in c

  abbrev pub Kept : (q u : ℕ → Bool) → Type 0
  Kept q u = (v w : ℕ) → Origin v w → T (u v) → T (q w)

  pub strings-kept : Kept is_string is_string
  strings-kept v w m t =
      let l : v < 32 = string-low v t in subst (λ (x : ℕ). T (is_string x)) (sym (is-itself (omega arith) (omega arith) m)) t

  pub sendable-kept : Kept (sendable c) (sendable d)
  sendable-kept v w m t = go (sort v)
    where
      go : Sort v → T (sendable c w)
      go (shared h k) = sendable-plain c w (let e : w ≡ v = is-itself h k m in omega arith)
      go (new h k) = sendable-plain c w (is_plain h k m)
      go (of_word i e) =
          subst (λ (x : ℕ). T (sendable c x)) (sym (is-by-word i e m))
          (subst T (ap (sendable d) e ∙ sendable-made d i ∙ sym (sendable-made c i)) t)

  pub records-kept : Kept (any_record c) (any_record d)
  records-kept v w m t = go (sort v)
    where
      go : Sort v → T (any_record c w)
      go (shared h k) =
          subst (λ (x : ℕ). T (any_record c x)) (sym (is-itself h k m)) (subst T (record-plain d v k ∙ sym (record-plain c v h)) t)
      go (new h k) = let e : v ≡ 7 = eqb→eq v 7 (or-false (eqb v 7) (subst T (record-plain d v k) t)) in absurd (omega arith)
      go (of_word i e) =
          subst (λ (x : ℕ). T (any_record c x)) (sym (is-by-word i e m))
          (subst T (ap (any_record d) e ∙ record-made d i ∙ sym (record-made c i)) t)
