-- The results of equal, from the digits of two sides without the opponent's record: true where they share a digit; false where they
-- share one that stands for more than one value, differ, or have more than one digit. A side has as many words as plain elements fill.
use Prim.Native.Nat.{ℕ, zero, suc, ◌+◌, ◌-◌, ◌*◌, ◌/◌, ◌%◌, ◌^◌, ◌≤◌, ◌<◌}
use mathlib.Core.Path.{◌≡◌, refl, sym, ap, ap₂, ◌∙◌, subst}
use mathlib.Core.List.{List, [], ◌∷◌, Memᴰ}
use mathlib.Core.Logic.{◌⊎◌, inl, inr, ⊎_elim}
use mathlib.Core.Bool.{Bool, true, false, not, ◌&&◌, ◌||◌}
use native.Mathlib.Nat.{lt_of_le_of_lt}
use native.Mathlib.Decide.{dec_lt, ℕ_discrete}
use native.Mathlib.Omega.{arith}
use lib.Dec.{T, eqb, ltb, eqb→eq, eqb_refl, ltb→lt, lt→ltb, lit<}
use lib.Bits.{bit_and, bit_or, and_le_l}
use lib.ListN.{get_or, length}
use Rattle.permset.specs.Sets.{member, difference, lowest}
use Rattle.permset.proofs.Laws.{member-empty, member-and, difference-first, difference-second, difference-lt, empty-difference, within-antisym, lowest-lt, lowest-member}
use Rattle.table.specs.declared.Operation.TheVariants as operations
use Rattle.table.specs.Code.{Code}
use Rattle.calculus.specs.Elements.{plain, comparable, is_many, equal_results, results}
use Rattle.calculus.specs.Layout.{bit, Words}
use Rattle.calculus.specs.Estimate.{same, facts}
unfoldable pub use Rattle.calculus.specs.ResultWords.{comparables, same_mask, apart, apart_mask, equal_mask}
use Rattle.calculus.proofs.Digits.{T_and, T-fst, T-snd, T_true, T-or, T-or-left, T-or-right, member-or, member-single-only}
use Rattle.calculus.proofs.Slices.{bit_at, bit-short}
use Rattle.calculus.proofs.Counting.{count, facts-count}
use Rattle.calculus.proofs.Several.{Two, some-two, two-some}
use Rattle.calculus.proofs.Least.{same-eq}
use Rattle.calculus.specs.Layout.{masked}
use Rattle.calculus.proofs.Masks.{T_false, agree, agree-below, bit_masked, masked-words, nonzero, digit-nonzero, nonzero-digit}
use Rattle.calculus.proofs.OperationMasks.{Gives, result_mask, results-are}

-- 4, 6 and 8
many-lt : (v : ℕ) → T (is_many v) → v < 9
unfolding is_many
many-lt v h =
    ⊎_elim
    (λ a. ⊎_elim (λ b. let e : v ≡ 4 = eqb→eq v 4 b in omega arith) (λ b. let e : v ≡ 6 = eqb→eq v 6 b in omega arith) (T-or (eqb v 4) (eqb v 6) a))
    (λ b. let e : v ≡ 8 = eqb→eq v 8 b in omega arith) (T-or (eqb v 4 || eqb v 6) (eqb v 8) h)

many-mask : (v : ℕ) → bit (0x150 ∷ []) v ≡ is_many v
unfolding agree bit member is_many
many-mask v = go (dec_lt v 32)
  where
    go : Dec (v < 32) → bit (0x150 ∷ []) v ≡ is_many v
    go (yes l) = agree-below 32 (bit (0x150 ∷ [])) is_many tt v l
    go (no l) =
        T_false (bit (0x150 ∷ []) v) (λ h. l (omega (arith, bit-short (0x150 ∷ []) v h)))
        ∙ sym (T_false (is_many v) (λ h. l (omega (arith, many-lt v h))))

-- numbers that differ have a digit that only one of them has
record Differ (f g : ℕ → Bool) : Type 0 where
  digit : ℕ
  one-sided : (T (f digit) × (T (g digit) → ⊥)) ⊎ (T (g digit) × (T (f digit) → ⊥))

differ-number : (s t : ℕ) → s < 2 ^ 32 → t < 2 ^ 32 → (s ≡ t → ⊥) → (i : ℕ) × (i < 32) × ((T (member s i) × (T (member t i) → ⊥)) ⊎ (T (member t i) × (T (member s i) → ⊥)))
differ-number s t hs ht n = go (ℕ_discrete (difference s t) 0) (ℕ_discrete (difference t s) 0)
  where
    low : (s t : ℕ) → s < 2 ^ 32 → (difference s t ≡ 0 → ⊥) → (i : ℕ) × (i < 32) × T (member s i) × (T (member t i) → ⊥)
    low s t hs z =
        let l : lowest (difference s t) < 32 = lowest-lt 32 (difference s t) (omega arith) (difference-lt 32 s t hs) z in
        let m : T (member (difference s t) (lowest (difference s t))) = lowest-member (difference s t) l in (
          lowest (difference s t),
          l,
          difference-first s t (lowest (difference s t)) m,
          difference-second s t (lowest (difference s t)) m,
        )

    go : Dec (difference s t ≡ 0) → Dec (difference t s ≡ 0) → (i : ℕ) × (i < 32) × ((T (member s i) × (T (member t i) → ⊥)) ⊎ (T (member t i) × (T (member s i) → ⊥)))
    go (no z) e = let x : (i : ℕ) × (i < 32) × T (member s i) × (T (member t i) → ⊥) = low s t hs z in (x.0, x.1, inl (x.2, x.3))
    go (yes z) (no e) = let x : (i : ℕ) × (i < 32) × T (member t i) × (T (member s i) → ⊥) = low t s ht e in (x.0, x.1, inr (x.2, x.3))
    go (yes z) (yes e) = absurd (n (within-antisym s t (empty-difference s t z) (empty-difference t s e)))

-- what `equal` gives on two elements that it compares
verdicts : ℕ → ℕ → List ℕ
verdicts x y = elim (eqb x y) [ true ↦ elim (is_many x) [ true ↦ 2 ∷ 3 ∷ [] | false ↦ 2 ∷ [] ] | false ↦ 3 ∷ [] ]

record Compared (f g : ℕ → Bool) (z : ℕ) : Type 0 where
  left : ℕ
  right : ℕ
  in_left : T (f left)
  in_right : T (g right)
  verdict : Memᴰ z (verdicts left right)

verdict-same : (x : ℕ) → Memᴰ {A = ℕ} 2 (verdicts x x)
unfolding verdicts
verdict-same x = go (eqb x x) (eqb_refl x) (is_many x)
  where
    go : (a : Bool) → T a → (b : Bool)
        → Memᴰ {A = ℕ} 2 (elim a [ true ↦ elim b [ true ↦ 2 ∷ 3 ∷ [] | false ↦ 2 ∷ [] ] | false ↦ 3 ∷ [] ])
    go true h true = mathlib.Core.List.Memᴰ.head refl
    go true h false = mathlib.Core.List.Memᴰ.head refl
    go false h b = absurd h

verdict-many : (x : ℕ) → T (is_many x) → Memᴰ {A = ℕ} 3 (verdicts x x)
unfolding verdicts
verdict-many x t = go (eqb x x) (eqb_refl x) (is_many x) t
  where
    go : (a : Bool) → T a → (b : Bool) → T b
        → Memᴰ {A = ℕ} 3 (elim a [ true ↦ elim b [ true ↦ 2 ∷ 3 ∷ [] | false ↦ 2 ∷ [] ] | false ↦ 3 ∷ [] ])
    go true h true k = mathlib.Core.List.Memᴰ.tail (mathlib.Core.List.Memᴰ.head refl)
    go true h false k = absurd k
    go false h b k = absurd h

verdict-apart : (x y : ℕ) → (x ≡ y → ⊥) → Memᴰ {A = ℕ} 3 (verdicts x y)
unfolding verdicts
verdict-apart x y n = go (eqb x y) refl
  where
    go : (a : Bool) → eqb x y ≡ a
        → Memᴰ {A = ℕ} 3 (elim a [ true ↦ elim (is_many x) [ true ↦ 2 ∷ 3 ∷ [] | false ↦ 2 ∷ [] ] | false ↦ 3 ∷ [] ])
    go true e = absurd (n (eqb→eq x y (subst T (sym e) tt)))
    go false e = mathlib.Core.List.Memᴰ.head refl

-- which verdict it is, and why
data Reason (x y z : ℕ) : Type 0 where
  alike : z ≡ 2 → x ≡ y → Reason x y z
  many : z ≡ 3 → x ≡ y → T (is_many x) → Reason x y z
  unlike : z ≡ 3 → (x ≡ y → ⊥) → Reason x y z

reason : (x y z : ℕ) → Memᴰ z (verdicts x y) → Reason x y z
unfolding verdicts
reason x y z m = go (eqb x y) refl (is_many x) refl m
  where
    lone : (k : ℕ) → Memᴰ z (k ∷ []) → z ≡ k
    lone k n = ⊎_elim (λ e. e) (λ r. absurd (mathlib.Core.List.Memᴰ.not-nil r)) (mathlib.Core.List.Memᴰ.cases_cons n)

    go : (a : Bool) → eqb x y ≡ a → (b : Bool) → is_many x ≡ b
        → Memᴰ z (elim a [ true ↦ elim b [ true ↦ 2 ∷ 3 ∷ [] | false ↦ 2 ∷ [] ] | false ↦ 3 ∷ [] ]) → Reason x y z
    go true e true f n =
        let q : x ≡ y = eqb→eq x y (subst T (sym e) tt) in
        ⊎_elim (λ r. alike r q) (λ r. many (lone 3 r) q (subst T (sym f) tt)) (mathlib.Core.List.Memᴰ.cases_cons n)
    go true e false f n = alike (lone 2 n) (eqb→eq x y (subst T (sym e) tt))
    go false e b f n = unlike (lone 3 n) (λ q. subst T (sym (T_true (eqb x y) (subst (λ (u : ℕ). T (eqb x u)) q (eqb_refl x))) ∙ e) tt)

-- words that are not the same differ at some place
unlike-at : (xs ys : List ℕ) → length xs ≡ length ys → T (not (same xs ys)) → (k : ℕ) × (get_or xs k 0 ≡ get_or ys k 0 → ⊥)
unfolding same
unlike-at [] [] e t = absurd t
unlike-at [] (y ∷ ys) e t = absurd (omega arith)
unlike-at (x ∷ xs) [] e t = absurd (omega arith)
unlike-at (x ∷ xs) (y ∷ ys) e t = go (unlike-at xs ys (omega arith)) (eqb x y) refl t
  where
    go : (T (not (same xs ys)) → (k : ℕ) × (get_or xs k 0 ≡ get_or ys k 0 → ⊥)) → (b : Bool) → eqb x y ≡ b
        → T (not (elim b [ true ↦ same xs ys | false ↦ false ])) → (k : ℕ) × (get_or (x ∷ xs) k 0 ≡ get_or (y ∷ ys) k 0 → ⊥)
    go r true q u = let k : (k : ℕ) × (get_or xs k 0 ≡ get_or ys k 0 → ⊥) = r u in (suc k.0, k.1)
    go r false q u = (zero, λ z. subst T (sym (T_true (eqb x y) (subst (λ (v : ℕ). T (eqb x v)) z (eqb_refl x))) ∙ q) tt)

-- ---- the mask of two sides

module _ (xs ys : List ℕ) (long : length xs ≡ length ys) (hx : Words xs) (hy : Words ys) where
  abbrev A : ℕ → Bool
  A = bit xs

  abbrev D : ℕ → Bool
  D = bit ys

  -- a digit that is shared
  shared : (n : ℕ) → bit (masked xs ys) n ≡ A n && D n
  shared n = bit_masked xs ys n

  shared-many : (n : ℕ) → bit (masked (masked xs ys) (0x150 ∷ [])) n ≡ (A n && D n) && is_many n
  shared-many n = bit_masked (masked xs ys) (0x150 ∷ []) n ∙ ap₂ (λ (x y : Bool). x && y) (shared n) (many-mask n)

  shared-words : Words (masked xs ys)
  shared-words = masked-words xs ys hy

  same_in : (n : ℕ) → T (A n) → T (D n) → T (member (same_mask xs ys) 2)
  unfolding same_mask member
  same_in n h k = go (nonzero (masked xs ys)) (digit-nonzero (masked xs ys) n (subst T (sym (shared n)) (T_and (A n) (D n) h k)))
    where
      go : (b : Bool) → T b → T (member (elim b [ true ↦ 4 | false ↦ 0 ]) 2)
      go true t = tt
      go false t = absurd t

  same-only : (z : ℕ) → T (member (same_mask xs ys) z) → (z ≡ 2) × T (nonzero (masked xs ys))
  unfolding same_mask
  same-only z h = go (nonzero (masked xs ys)) h
    where
      go : (b : Bool) → T (member (elim b [ true ↦ 4 | false ↦ 0 ]) z) → (z ≡ 2) × T b
      go true t = (sym (member-single-only 2 z t), tt)
      go false t = absurd (subst T (member-empty z) t)

  apart_in : T (apart xs ys) → T (member (apart_mask xs ys) 3)
  unfolding apart_mask member
  apart_in h = go (apart xs ys) h
    where
      go : (b : Bool) → T b → T (member (elim b [ true ↦ 8 | false ↦ 0 ]) 3)
      go true t = tt
      go false t = absurd t

  apart-only : (z : ℕ) → T (member (apart_mask xs ys) z) → (z ≡ 3) × T (apart xs ys)
  unfolding apart_mask
  apart-only z h = go (apart xs ys) h
    where
      go : (b : Bool) → T (member (elim b [ true ↦ 8 | false ↦ 0 ]) z) → (z ≡ 3) × T b
      go true t = (sym (member-single-only 3 z t), tt)
      go false t = absurd (subst T (member-empty z) t)

  -- the three reasons why two values may be different
  abbrev many_test : Bool
  many_test = nonzero (masked (masked xs ys) (0x150 ∷ []))

  abbrev differ_test : Bool
  differ_test = not (same xs ys)

  abbrev several_test : Bool
  several_test = ltb 1 (facts xs)

  by-many : (n : ℕ) → T (A n) → T (D n) → T (is_many n) → T (apart xs ys)
  unfolding apart
  by-many n h k m =
      T-or-left many_test (differ_test || several_test)
      (digit-nonzero (masked (masked xs ys) (0x150 ∷ [])) n
      (subst T (sym (shared-many n)) (T_and (A n && D n) (is_many n) (T_and (A n) (D n) h k) m)))

  several : (x y : ℕ) → (x ≡ y → ⊥) → T (A x) → T (A y) → T several_test
  several x y n h k = lt→ltb 1 (facts xs) (omega (arith, facts-count xs, go (dec_lt x y)))
    where
      go : Dec (x < y) → 1 < count (32 * length xs) A
      go (yes l) = two-some (32 * length xs) A x y l (bit-short xs y k) h k
      go (no l) = two-some (32 * length xs) A y x (omega arith) (bit-short xs x h) k h

  by-unlike : (x y : ℕ) → (x ≡ y → ⊥) → T (A x) → T (D y) → T (apart xs ys)
  unfolding apart
  by-unlike x y n h k = T-or-right many_test (differ_test || several_test) (go (same xs ys) refl)
    where
      go : (b : Bool) → same xs ys ≡ b → T (not b || several_test)
      go true e = several x y n h (subst (λ (zs : List ℕ). T (bit zs y)) (sym (same-eq xs ys (subst T (sym e) tt))) k)
      go false e = tt

  compared-in : (z : ℕ) → Compared A D z → T (member (equal_mask xs ys) z)
  unfolding equal_mask
  compared-in z r =
      let x : ℕ = r.left in
      let y : ℕ = r.right in
      open-mask (nonzero xs && nonzero ys)
      (T_and (nonzero xs) (nonzero ys) (digit-nonzero xs x r.in_left) (digit-nonzero ys y r.in_right))
      (subst T (sym (member-or (same_mask xs ys) (apart_mask xs ys) z)) (go (reason x y z r.verdict)))
    where
      open-mask : (b : Bool) → T b → T (member (bit_or (same_mask xs ys) (apart_mask xs ys)) z)
          → T (member (elim b [ true ↦ bit_or (same_mask xs ys) (apart_mask xs ys) | false ↦ 0 ]) z)
      open-mask true t h = h
      open-mask false t h = absurd t

      go : Reason r.left r.right z → T (member (same_mask xs ys) z || member (apart_mask xs ys) z)
      go (alike e q) =
          T-or-left (member (same_mask xs ys) z) (member (apart_mask xs ys) z)
          (subst (λ (u : ℕ). T (member (same_mask xs ys) u)) (sym e) (same_in r.left r.in_left (subst (λ (u : ℕ). T (D u)) (sym q) r.in_right)))
      go (many e q m) =
          T-or-right (member (same_mask xs ys) z) (member (apart_mask xs ys) z)
          (subst (λ (u : ℕ). T (member (apart_mask xs ys) u)) (sym e)
          (apart_in (by-many r.left r.in_left (subst (λ (u : ℕ). T (D u)) (sym q) r.in_right) m)))
      go (unlike e n) =
          T-or-right (member (same_mask xs ys) z) (member (apart_mask xs ys) z)
          (subst (λ (u : ℕ). T (member (apart_mask xs ys) u)) (sym e) (apart_in (by-unlike r.left r.right n r.in_left r.in_right)))

  -- ---- the other way round

  from-same : T (nonzero (masked xs ys)) → Compared A D 2
  from-same t =
      let n : (n : ℕ) × T (bit (masked xs ys) n) = nonzero-digit (masked xs ys) shared-words t in
      let b : T (A n.0 && D n.0) = subst T (shared n.0) n.1 in
      record {
        left = n.0;
        right = n.0;
        in_left = T-fst (A n.0) (D n.0) b;
        in_right = T-snd (A n.0) (D n.0) b;
        verdict = verdict-same n.0;
      }

  from-many : T many_test → Compared A D 3
  from-many t =
      let n : (n : ℕ) × T (bit (masked (masked xs ys) (0x150 ∷ [])) n) = nonzero-digit (masked (masked xs ys) (0x150 ∷ [])) words t in
      let b : T ((A n.0 && D n.0) && is_many n.0) = subst T (shared-many n.0) n.1 in
      let s : T (A n.0 && D n.0) = T-fst (A n.0 && D n.0) (is_many n.0) b in
      record {
        left = n.0;
        right = n.0;
        in_left = T-fst (A n.0) (D n.0) s;
        in_right = T-snd (A n.0) (D n.0) s;
        verdict = verdict-many n.0 (T-snd (A n.0 && D n.0) (is_many n.0) b);
      }
    where
      many : Words (0x150 ∷ [])
      many zero = lit< tt
      many (suc k) = lit< tt

      words : Words (masked (masked xs ys) (0x150 ∷ []))
      words = masked-words (masked xs ys) (0x150 ∷ []) many

  from-pair : (x y : ℕ) → T (A x) → T (D y) → (x ≡ y → ⊥) → Compared A D 3
  from-pair x y h k n = record { left = x; right = y; in_left = h; in_right = k; verdict = verdict-apart x y n }

  -- a digit of one side alone is apart from every digit of the other
  from-differ : Differ A D → (x y : ℕ) → T (A x) → T (D y) → Compared A D 3
  from-differ e x y h k =
      ⊎_elim (λ (s : T (A e.digit) × (T (D e.digit) → ⊥)). from-pair e.digit y s.0 k (λ q. s.1 (subst (λ (u : ℕ). T (D u)) (sym q) k)))
      (λ (s : T (D e.digit) × (T (A e.digit) → ⊥)). from-pair x e.digit h s.0 (λ q. s.1 (subst (λ (u : ℕ). T (A u)) q h))) e.one-sided

  from-two : Two A → (y : ℕ) → T (D y) → Compared A D 3
  from-two t y k = go (ℕ_discrete y t.lower)
    where
      go : Dec (y ≡ t.lower) → Compared A D 3
      go (yes e) = let l : t.lower < t.upper = t.ordered in from-pair t.upper y t.at-upper k (λ q. absurd (omega arith))
      go (no e) = from-pair t.lower y t.at-lower k (λ q. e (sym q))

  differ : T differ_test → Differ A D
  differ t =
      let k : (k : ℕ) × (get_or xs k 0 ≡ get_or ys k 0 → ⊥) = unlike-at xs ys long t in
      let x = differ-number (get_or xs k.0 0) (get_or ys k.0 0) (hx k.0) (hy k.0) k.1 in
      record {
        digit = 32 * k.0 + x.0;
        one-sided = rw (bit_at xs k.0 x.0 x.1, bit_at ys k.0 x.0 x.1) x.2;
      }

  from-apart : T (nonzero xs) → T (nonzero ys) → T (apart xs ys) → Compared A D 3
  unfolding apart
  from-apart ta td h =
      let x : (n : ℕ) × T (A n) = nonzero-digit xs hx ta in
      let y : (n : ℕ) × T (D n) = nonzero-digit ys hy td in
      ⊎_elim (λ t. from-many t)
      (λ r. ⊎_elim (λ t. from-differ (differ t) x.0 y.0 x.1 y.1)
      (λ t. from-two (some-two (32 * length xs) A (omega (arith, ltb→lt 1 (facts xs) t, facts-count xs))) y.0 y.1)
      (T-or differ_test several_test r))
      (T-or many_test (differ_test || several_test) h)

  compared-only : (z : ℕ) → T (member (equal_mask xs ys) z) → Compared A D z
  unfolding equal_mask
  compared-only z h = go (nonzero xs && nonzero ys) refl h
    where
      go : (b : Bool) → (nonzero xs && nonzero ys) ≡ b
          → T (member (elim b [ true ↦ bit_or (same_mask xs ys) (apart_mask xs ys) | false ↦ 0 ]) z) → Compared A D z
      go true e t =
          let both : T (nonzero xs && nonzero ys) = subst T (sym e) tt in
          ⊎_elim
          (λ s. let o : (z ≡ 2) × T (nonzero (masked xs ys)) = same-only z s in
          subst (λ (u : ℕ). Compared A D u) (sym o.0) (from-same o.1))
          (λ s. let o : (z ≡ 3) × T (apart xs ys) = apart-only z s in
          subst (λ (u : ℕ). Compared A D u) (sym o.0)
          (from-apart (T-fst (nonzero xs) (nonzero ys) both) (T-snd (nonzero xs) (nonzero ys) both) o.1))
          (T-or (member (same_mask xs ys) z) (member (apart_mask xs ys) z) (subst T (member-or (same_mask xs ys) (apart_mask xs ys) z) t))
      go false e t = absurd (subst T (member-empty z) t)

-- ---- without the opponent's record

seven-mask : (v : ℕ) → v < 32 → member 0xffffff7f v ≡ not (eqb v 7)
unfolding agree member
seven-mask v h = agree-below 32 (member 0xffffff7f) (λ v. not (eqb v 7)) tt v h

comparables-words : (xs : List ℕ) → Words xs → Words (comparables xs)
unfolding comparables
comparables-words [] h k = h k
comparables-words (x ∷ xs) h zero = lt_of_le_of_lt (and_le_l x 0xffffff7f) (h zero)
comparables-words (x ∷ xs) h (suc k) = h (suc k)

comparables-length : (xs : List ℕ) → length (comparables xs) ≡ length xs
unfolding comparables
comparables-length [] = refl
comparables-length (x ∷ xs) = refl

-- digits from 32 on do not depend on the first word
later-digit : (x y : ℕ) (ws : List ℕ) (v : ℕ) → 32 ≤ v → bit (x ∷ ws) v ≡ bit (y ∷ ws) v
unfolding bit
later-digit x y ws v h =
    let e : v / 32 ≡ suc (v / 32 - 1) = omega arith in
    ap (λ (k : ℕ). member (get_or (x ∷ ws) k 0) (v % 32)) e ∙ sym (ap (λ (k : ℕ). member (get_or (y ∷ ws) k 0) (v % 32)) e)

and-not : (b t : Bool) → t ≡ false → b ≡ b && not t
and-not true t e = sym (ap not e)
and-not false t e = refl

without-seven : (xs : List ℕ) (v : ℕ) → bit (comparables xs) v ≡ bit xs v && not (eqb v 7)
unfolding comparables
without-seven [] v = no_digit (bit [] v) (λ h. omega (arith, bit-short [] v h))
  where
    no_digit : (b : Bool) → (T b → ⊥) → b ≡ b && not (eqb v 7)
    no_digit true h = absurd (h tt)
    no_digit false h = refl
without-seven (x ∷ xs) v = go (dec_lt v 32)
  where
    first : (y : ℕ) → v < 32 → bit (y ∷ xs) v ≡ member y v
    first y h = let e : v ≡ 32 * 0 + v = omega arith in ap (bit (y ∷ xs)) e ∙ bit_at (y ∷ xs) 0 v h

    go : Dec (v < 32) → bit (bit_and x 0xffffff7f ∷ xs) v ≡ bit (x ∷ xs) v && not (eqb v 7)
    go (yes h) =
        first (bit_and x 0xffffff7f) h ∙ member-and x 0xffffff7f v ∙ ap₂ (λ (a b : Bool). a && b) (sym (first x h)) (seven-mask v h)
    go (no h) =
        later-digit (bit_and x 0xffffff7f) x xs v (omega arith)
        ∙ and-not (bit (x ∷ xs) v) (eqb v 7) (T_false (eqb v 7) (λ t. let e : v ≡ 7 = eqb→eq v 7 t in omega arith))

module _ (c : Code) (x y z : ℕ) where
  equal-in : T (comparable c x) → T (comparable c y) → Memᴰ z (verdicts x y) → Memᴰ z (results c operations.Equal x y)
  unfolding results equal_results verdicts
  equal-in h k m = go (comparable c x && comparable c y) (T_and (comparable c x) (comparable c y) h k)
    where
      go : (b : Bool) → T b → Memᴰ z (elim b [ true ↦ verdicts x y | false ↦ [] ])
      go true t = m
      go false t = absurd t

  equal-only : Memᴰ z (results c operations.Equal x y) → T (comparable c x && comparable c y) × Memᴰ z (verdicts x y)
  unfolding results equal_results verdicts
  equal-only m = go (comparable c x && comparable c y) m
    where
      go : (b : Bool) → Memᴰ z (elim b [ true ↦ verdicts x y | false ↦ [] ]) → T b × Memᴰ z (verdicts x y)
      go true n = (tt, n)
      go false n = absurd (mathlib.Core.List.Memᴰ.not-nil n)

-- elements that are compared are those of a side without the opponent's record
module _ (c : Code) (lead : ℕ) (n : plain c ≡ 32 * lead) (xs : List ℕ) (long : length xs ≡ lead) (v : ℕ) where
  compared-to : T (bit (comparables xs) v) → (v < plain c) × T (bit xs v) × T (comparable c v)
  unfolding comparable
  compared-to h =
      let b : T (bit xs v && not (eqb v 7)) = subst T (without-seven xs v) h in
      let l : v < plain c = omega (arith, bit-short (comparables xs) v h, comparables-length xs) in (
        l,
        T-fst (bit xs v) (not (eqb v 7)) b,
        T_and (ltb v (plain c)) (not (eqb v 7)) (lt→ltb v (plain c) l) (T-snd (bit xs v) (not (eqb v 7)) b),
      )

  compared-from : T (bit xs v) → T (comparable c v) → T (bit (comparables xs) v)
  unfolding comparable
  compared-from h k =
      subst T (sym (without-seven xs v)) (T_and (bit xs v) (not (eqb v 7)) h (T-snd (ltb v (plain c)) (not (eqb v 7)) k))

pub equal-results : (c : Code) (lead : ℕ) → plain c ≡ 32 * lead → (xs ys : List ℕ) → length xs ≡ lead → length ys ≡ lead → Words xs → Words ys
    → result_mask c operations.Equal xs ys ≡ equal_mask (comparables xs) (comparables ys)
equal-results c lead n xs ys lx ly hx hy =
    results-are c operations.Equal xs ys (equal_mask (comparables xs) (comparables ys))
    (λ z h. to z (compared-only (comparables xs) (comparables ys) long (comparables-words xs hx) (comparables-words ys hy) z h))
    (λ z g. compared-in (comparables xs) (comparables ys) long (comparables-words xs hx) (comparables-words ys hy) z (from z g))
  where
    long : length (comparables xs) ≡ length (comparables ys)
    long = omega (arith, comparables-length xs, comparables-length ys)

    to : (z : ℕ) → Compared (bit (comparables xs)) (bit (comparables ys)) z → Gives c operations.Equal (bit xs) (bit ys) z
    to z r =
        let x : (r.left < plain c) × T (bit xs r.left) × T (comparable c r.left) = compared-to c lead n xs lx r.left r.in_left in
        let y : (r.right < plain c) × T (bit ys r.right) × T (comparable c r.right) = compared-to c lead n ys ly r.right r.in_right in
        record {
          first = r.left;
          second = r.right;
          first_plain = x.0;
          second_plain = y.0;
          in-first = x.1;
          in-second = y.1;
          result = equal-in c r.left r.right z x.2 y.2 r.verdict;
        }

    from : (z : ℕ) → Gives c operations.Equal (bit xs) (bit ys) z → Compared (bit (comparables xs)) (bit (comparables ys)) z
    from z g =
        let m : T (comparable c g.first && comparable c g.second) × Memᴰ z (verdicts g.first g.second) =
        equal-only c g.first g.second z g.result
        in
        record {
          left = g.first;
          right = g.second;
          in_left = compared-from c lead n xs lx g.first g.in-first (T-fst (comparable c g.first) (comparable c g.second) m.0);
          in_right = compared-from c lead n ys ly g.second g.in-second (T-snd (comparable c g.first) (comparable c g.second) m.0);
          verdict = m.1;
        }
