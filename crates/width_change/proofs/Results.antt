-- What an operation gives on two elements it gives on some origins of them.
use Prim.Native.Nat.{ℕ, ◌≤◌, ◌<◌}
use mathlib.Core.Path.{◌≡◌, refl, sym, ap₂, subst, ◌∙◌}
use mathlib.Core.Bool.{Bool, true, false, ◌&&◌}
use mathlib.Core.List.Memᴰ
use mathlib.Core.List.{List, [], ◌∷◌, Memᴰ}
use native.Mathlib.Decide.{ℕ_discrete}
use native.Mathlib.Omega.{arith}
use borrow.Author.Tests.{lt-ltb, ne_eqb, eqb-true, eqb-false}
use lib.Dec.{T, eqb, leb, leb→le}
use lib.ListN.{get_or}
use Rattle.table.specs.declared.Operation.{Operation}
use Rattle.table.specs.declared.Operation.TheVariants as operations
use Rattle.table.specs.Code.{Code}
use Rattle.widths.specs.Converters.{with_names}
use Rattle.calculus.specs.Elements.{plain, is_sign, sign_place, by_signs, sum_signs, less_signs, comparable, is_many}
use Rattle.calculus.specs.Elements.{truth, falsehood, equal_results, results}
use Rattle.permset.proofs.Digits.{T-fst, T-snd}
use Rattle.width_change.proofs.Origins.{Sort, shared, new, of_word, sort, only_one, Origin, itself, any-plain}

sign_low : (x : ℕ) → T (is_sign x) → x < 7
unfolding is_sign
sign_low x t = let l : x ≤ 6 = leb→le x 6 (T-snd (leb 4 x) (leb x 6) t) in omega arith

-- operations on signs give nothing elsewhere
by-signs-low : (t : List (List ℕ)) (x y z : ℕ) → Memᴰ z (by_signs t x y) → (x < 7) × (y < 7)
unfolding by_signs
by-signs-low t x y z = go (is_sign x && is_sign y) (T-fst (is_sign x) (is_sign y)) (T-snd (is_sign x) (is_sign y))
  where
    go : (b : Bool) → (T b → T (is_sign x)) → (T b → T (is_sign y)) → Memᴰ z (elim b [ true ↦ get_or t (sign_place x y) [] | false ↦ [] ])
        → (x < 7) × (y < 7)
    go true f g m = (sign_low x (f tt), sign_low y (g tt))
    go false f g m = absurd (Memᴰ.not-nil m)

-- ---- equal

-- `equal` by its four tests: both comparable, the same, one that stands for more than one value
abbrev tested : (a b e k : Bool) → List ℕ
tested a b e k =
    elim (a && b) [ true ↦ elim e [ true ↦ elim k [ true ↦ truth ∷ falsehood ∷ [] | false ↦ truth ∷ [] ] | false ↦ falsehood ∷ [] ] | false ↦ [] ]

many-low : (v : ℕ) → is_many v ≡ true → 32 ≤ v → ⊥
unfolding is_many
many-low v e h =
    let f : is_many v ≡ false = rw (ne_eqb v 4 (λ i. omega arith), ne_eqb v 6 (λ i. omega arith), ne_eqb v 8 (λ i. omega arith)) refl in
    subst T (sym e ∙ f) tt

module _ (c : Code) where
  comparable-low : (v : ℕ) → v < 7 → T (comparable c v)
  unfolding comparable
  comparable-low v l = rw (lt-ltb v (plain c) (omega arith), ne_eqb v 7 (λ e. omega arith)) tt

  equal-different : {x y : ℕ} → T (comparable c x) → T (comparable c y) → (x ≡ y → ⊥) → Memᴰ falsehood (equal_results c x y)
  unfolding equal_results
  equal-different {x} {y} s t n = go (comparable c x) (comparable c y) (eqb x y) s t (ne_eqb x y n)
    where
      go : (a b e : Bool) → T a → T b → e ≡ false → Memᴰ falsehood (tested a b e (is_many x))
      go true true true s t h = absurd (subst T h tt)
      go true true false s t h = Memᴰ.head refl
      go true false e s t h = absurd t
      go false b e s t h = absurd s

  equal-alike : Memᴰ truth (equal_results c 0 0)
  unfolding equal_results comparable is_many
  equal-alike = rw (lt-ltb 0 (plain c) (omega arith), equal_results, comparable) (Memᴰ.head refl)

  -- what a result says of the elements
  record Result (x y z : ℕ) : Type 0 where
    first : T (comparable c x)
    second : T (comparable c y)
    different : (x ≡ y → ⊥) → z ≡ falsehood
    alike : x ≡ y → 32 ≤ x → z ≡ truth

  result : (x y z : ℕ) → Memᴰ z (equal_results c x y) → Result x y z
  unfolding equal_results
  result x y z m = go (comparable c x) (comparable c y) (eqb x y) (is_many x) refl refl (eqb-true x y) (eqb-false x y) (many-low x) m
    where
      go : (a b e k : Bool) → comparable c x ≡ a → comparable c y ≡ b → (e ≡ true → x ≡ y) → (e ≡ false → x ≡ y → ⊥)
          → (k ≡ true → 32 ≤ x → ⊥) → Memᴰ z (tested a b e k) → Result x y z
      go true true true k s t f g h m =
          record {
            first = subst T (sym s) tt;
            second = subst T (sym t) tt;
            different = λ n. absurd (n (f refl));
            alike = λ e l. true-only k (λ i. h i l) m;
          }
        where
          true-only : (k : Bool) → (k ≡ true → ⊥) → Memᴰ z (tested true true true k) → z ≡ truth
          true-only true n m = absurd (n refl)
          true-only false n m = only_one m
      go true true false k s t f g h m =
          record {
            first = subst T (sym s) tt;
            second = subst T (sym t) tt;
            different = λ n. only_one m;
            alike = λ e. absurd (g refl e);
          }
      go true false e k s t f g h m = absurd (Memᴰ.not-nil m)
      go false b e k s t f g h m = absurd (Memᴰ.not-nil m)

module _ (c : Code) (n : ℕ) where
  abbrev d : Code
  d = with_names n c

  -- origins of x and y on which the operation gives z
  pub record Given (o : Operation) (x y z : ℕ) : Type 0 where
    pub left : ℕ
    pub right : ℕ
    pub of_left : Origin c n x left
    pub of_right : Origin c n y right
    pub gives : Memᴰ z (results c o left right)

  comparable-shared : (v : ℕ) → v < plain c → v < plain d → comparable d v ≡ comparable c v
  unfolding comparable
  comparable-shared v h k = rw (lt-ltb v (plain c) h, lt-ltb v (plain d) k) refl

  equal-shared : (x y : ℕ) → x < plain c → x < plain d → y < plain c → y < plain d → equal_results d x y ≡ equal_results c x y
  unfolding equal_results
  equal-shared x y h k i l = ap₂ (λ (a b : Bool). tested a b (eqb x y) (is_many x)) (comparable-shared x h k) (comparable-shared y i l)

  -- an element below 2 other than x
  other : ℕ → ℕ
  other x = elim (eqb x 0) [ true ↦ 1 | false ↦ 0 ]

  record IsOther (x w : ℕ) : Type 0 where
    low : w < 2
    differs : x ≡ w → ⊥

  is-other : (x : ℕ) → IsOther x (other x)
  unfolding other
  is-other x = go (eqb x 0) (eqb-true x 0) (eqb-false x 0)
    where
      go : (b : Bool) → (b ≡ true → x ≡ 0) → (b ≡ false → x ≡ 0 → ⊥) → IsOther x (elim b [ true ↦ 1 | false ↦ 0 ])
      go true f g = record { low = omega arith; differs = λ e. let i = f refl in omega arith }
      go false f g = record { low = omega arith; differs = g refl }

  differing : {x y z : ℕ} (v w : ℕ) → Result d x y z → (x ≡ y → ⊥) → Origin c n x v → Origin c n y w → T (comparable c v) → T (comparable c w)
      → (v ≡ w → ⊥) → Given operations.Equal x y z
  unfolding results
  differing v w r h i j s t m =
      record {
        left = v;
        right = w;
        of_left = i;
        of_right = j;
        gives = subst (λ (u : ℕ). Memᴰ u (equal_results c v w)) (sym (r.different h)) (equal-different c s t m);
      }

  equal-given : (x y z : ℕ) → Memᴰ z (equal_results d x y) → Result d x y z → Sort c n x → Sort c n y → x < plain d → y < plain d
      → Given operations.Equal x y z
  unfolding results
  equal-given x y z m r (shared h k) (shared i l) p q =
      record {
        left = x;
        right = y;
        of_left = itself c n h k;
        of_right = itself c n i l;
        gives = subst (Memᴰ z) (equal-shared x y h k i l) m;
      }
  equal-given x y z m r (shared h k) (new i l) p q =
      let o : IsOther x (other x) = is-other x in
      let s : other x < 2 = o.low in
      differing x (other x) r (λ e. omega arith) (itself c n h k) (any-plain c n i l (omega arith)) (subst T (comparable-shared x h k) r.first)
      (comparable-low c (other x) (omega arith)) o.differs
  equal-given x y z m r (new h k) (shared i l) p q =
      let o : IsOther y (other y) = is-other y in
      let s : other y < 2 = o.low in
      differing (other y) y r (λ e. omega arith) (any-plain c n h k (omega arith)) (itself c n i l) (comparable-low c (other y) (omega arith))
      (subst T (comparable-shared y i l) r.second) (λ e. o.differs (sym e))
  equal-given x y z m r (new h k) (new i l) p q = go (ℕ_discrete x y)
    where
      go : Dec (x ≡ y) → Given operations.Equal x y z
      go (yes e) =
          record {
            left = 0;
            right = 0;
            of_left = any-plain c n h k (omega arith);
            of_right = any-plain c n i l (omega arith);
            gives = subst (λ (w : ℕ). Memᴰ w (equal_results c 0 0)) (sym (r.alike e (omega arith))) (equal-alike c);
          }
      go (no e) =
          differing 0 1 r e (any-plain c n h k (omega arith)) (any-plain c n i l (omega arith)) (comparable-low c 0 (omega arith))
          (comparable-low c 1 (omega arith)) (λ i. omega arith)
  equal-given x y z m r (of_word i e) s p q = absurd (omega arith)
  equal-given x y z m r (shared h k) (of_word i e) p q = absurd (omega arith)
  equal-given x y z m r (new h k) (of_word i e) p q = absurd (omega arith)

  signs-given : (o : Operation) (t : List (List ℕ)) (x y z : ℕ) → ((x y : ℕ) → results c o x y ≡ by_signs t x y) → Memᴰ z (by_signs t x y) → Given o x y z
  signs-given o t x y z e m =
      let l = by-signs-low t x y z m in
      let h : x < 7 = l.0 in
      let k : y < 7 = l.1 in
      record {
        left = x;
        right = y;
        of_left = itself c n (omega arith) (omega arith);
        of_right = itself c n (omega arith) (omega arith);
        gives = subst (Memᴰ z) (sym (e x y)) m;
      }

  pub results-given : (o : Operation) (x y z : ℕ) → x < plain d → y < plain d → Memᴰ z (results d o x y) → Given o x y z
  unfolding results
  results-given operations.Add x y z h l m = signs-given operations.Add sum_signs x y z (λ x y. refl) m
  results-given operations.Less x y z h l m = signs-given operations.Less less_signs x y z (λ x y. refl) m
  results-given operations.Equal x y z h l m = equal-given x y z m (result d x y z m) (sort c n x) (sort c n y) h l
