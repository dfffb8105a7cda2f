-- The first number that fails a test: ranges put together, and the first word of a list with a stray digit.
use Prim.Native.Nat.{ℕ, suc, ◌+◌, ◌-◌, ◌≤◌, ◌<◌}
use mathlib.Core.Path.{◌≡◌, refl, sym, ap, ap₂, ◌∙◌}
use mathlib.Core.Bool.{Bool, true, false, not, true≢false}
use mathlib.Core.List.{List, [], ◌∷◌}
use native.Mathlib.Decide.{dec_lt, ℕ_discrete}
use native.Mathlib.Omega.{arith}
use lib.ListN.{length, get_or}
use Rattle.table.specs.Code.{Code}
use Rattle.stray.specs.Stray.{stray, stray_from, first_stray}
use Rattle.stray.specs.First.{First}
use Rattle.stray.specs.Allowed.{clean}

module _ {p q : ℕ → Bool} {a b r : ℕ} where
  -- a test that agrees with another on the range
  pub first-same : ((k : ℕ) → a ≤ k → k < b → p k ≡ q k) → First p a b r → First q a b r
  first-same e f =
      record {
        low = f.low;
        most = f.most;
        before = λ k h i. sym (e k h (omega (arith, f.most))) ∙ f.before k h i;
        fails = λ h. sym (e r f.low h) ∙ f.fails h;
      }

module _ {q : ℕ → Bool} where
  -- numbers that pass, and then the first of those that follow
  pub first-after : {a b r : ℕ} → ((k : ℕ) → k < a → q k ≡ true) → First q a b r → First q 0 b r
  first-after {a} {b} {r} f g =
      record { low = omega arith; most = g.most; before = λ k h i. go k i (dec_lt k a); fails = g.fails }
    where
      go : (k : ℕ) → k < r → Dec (k < a) → q k ≡ true
      go k i (yes j) = f k j
      go k i (no j) = g.before k (omega arith) i

  -- one that is found is the first of a longer range
  pub first-longer : {a b n r : ℕ} → First q a b r → r < b → b ≤ n → First q a n r
  first-longer f h l = record { low = f.low; most = omega arith; before = f.before; fails = λ i. f.fails h }

  -- where none is found, all pass
  pub first-none : {a b r : ℕ} → First q a b r → b ≤ r → (k : ℕ) → a ≤ k → k < b → q k ≡ true
  first-none f h k i j = f.before k i (omega arith)

  -- numbers that pass, and those that follow
  pub pass-more : {a b r : ℕ} → ((k : ℕ) → k < a → q k ≡ true) → First q a b r → b ≤ r → (k : ℕ) → k < b → q k ≡ true
  pass-more f g h k i = (first-after f g).before k (omega arith) (omega arith)

  pub all_pass : {n : ℕ} → ((k : ℕ) → k < n → q k ≡ true) → First q 0 n n
  all_pass f = record { low = omega arith; most = omega arith; before = λ k h i. f k i; fails = λ h. absurd (omega arith) }

-- ---- the words of a list

module _ (c : Code) where
  negated : (b : Bool) → not b ≡ false → b ≡ true
  negated true e = refl
  negated false e = sym e

  abbrev passes : ℕ → List ℕ → ℕ → Bool
  passes i ws k = not (stray c k (get_or ws (k - i) 0))

  first-from : (ws : List ℕ) (i r : ℕ) → First (passes i ws) i (i + length ws) r → r ≡ stray_from c i ws
  unfolding stray_from
  first-from [] i r f = omega (arith, f.low, f.most)
  first-from (w ∷ ws) i r f = go (stray c i w) refl (ℕ_discrete r i) (first-from ws (suc i) r)
    where
      here : passes i (w ∷ ws) i ≡ not (stray c i w)
      here = let z : i - i ≡ 0 = omega arith in ap (λ (j : ℕ). not (stray c i (get_or (w ∷ ws) j 0))) z

      next : (k : ℕ) → suc i ≤ k → passes i (w ∷ ws) k ≡ passes (suc i) ws k
      next k h = let z : k - i ≡ suc (k - suc i) = omega arith in ap (λ (j : ℕ). not (stray c k (get_or (w ∷ ws) j 0))) z

      go : (b : Bool) → stray c i w ≡ b → Dec (r ≡ i) → (First (passes (suc i) ws) (suc i) (suc i + length ws) r → r ≡ stray_from c (suc i) ws)
          → r ≡ elim b [ true ↦ i | false ↦ stray_from c (suc i) ws ]
      go true e (yes s) g = s
      go true e (no s) g =
          absurd (true≢false (sym (f.before i (omega arith) (omega (arith, f.low))) ∙ here ∙ ap not e))
      go false e (yes s) g =
          absurd (true≢false (sym (ap not e) ∙ sym here ∙ ap (passes i (w ∷ ws)) (sym s) ∙ f.fails (omega arith)))
      go false e (no s) g =
          g (record {
            low = omega (arith, f.low);
            most = omega (arith, f.most);
            before = λ k h j. sym (next k h) ∙ f.before k (omega arith) j;
            fails = λ h. sym (next r (omega (arith, f.low))) ∙ f.fails (omega arith);
          })

  pub first-is : (ws : List ℕ) (r : ℕ) → First (clean c ws) 0 (length ws) r → r ≡ first_stray c ws
  unfolding first_stray
  first-is ws r f =
      first-from ws 0 r
      (record {
        low = f.low;
        most = omega (arith, f.most);
        before = λ k h j. same k ∙ f.before k h j;
        fails = λ h. same r ∙ f.fails (omega arith);
      })
    where
      same : (k : ℕ) → passes 0 ws k ≡ clean c ws k
      same k = let z : k - 0 ≡ k = omega arith in ap (λ (j : ℕ). not (stray c k (get_or ws j 0))) z

  -- where no word is found, none has a stray digit
  none_from : (ws : List ℕ) (i : ℕ) → stray_from c i ws ≡ i + length ws → (k : ℕ) → i ≤ k → k < i + length ws → passes i ws k ≡ true
  unfolding stray_from
  none_from [] i e k h j = absurd (omega arith)
  none_from (w ∷ ws) i e k h j = go (stray c i w) refl e (ℕ_discrete k i) (λ z l. none_from ws (suc i) z k l)
    where
      go : (b : Bool) → stray c i w ≡ b → elim b as (λ z. ℕ) [ true ↦ i | false ↦ stray_from c (suc i) ws ] ≡ i + suc (length ws) → Dec (k ≡ i)
          → (stray_from c (suc i) ws ≡ suc i + length ws → suc i ≤ k → k < suc i + length ws → passes (suc i) ws k ≡ true) → passes i (w ∷ ws) k ≡ true
      go true f z d g = absurd (omega arith)
      go false f z (yes s) g =
          let m : k - i ≡ 0 = omega arith in
          ap₂ (λ (x j : ℕ). not (stray c x (get_or (w ∷ ws) j 0))) s m ∙ ap not f
      go false f z (no s) g =
          let m : k - i ≡ suc (k - suc i) = omega arith in
          ap (λ (j : ℕ). not (stray c k (get_or (w ∷ ws) j 0))) m ∙ g (omega arith) (omega arith) (omega arith)

  pub none-stray : (ws : List ℕ) → first_stray c ws ≡ length ws → (k : ℕ) → k < length ws → clean c ws k ≡ true
  unfolding first_stray
  none-stray ws e k h =
      let z : k ≡ k - 0 = omega arith in
      ap (λ (j : ℕ). not (stray c k (get_or ws j 0))) z ∙ none_from ws 0 (omega arith) k (omega arith) (omega arith)
