-- Equations of `fire` for the forms of rules that hold other rules: both in turn, under a test, and at each of a list of numbers, as
-- the loop invariants of the code want them.
use Prim.Native.Nat.{ℕ, zero, suc, ◌+◌, ◌-◌, ◌≤◌, ◌<◌}
use mathlib.Core.Path.{◌≡◌, refl, ap, ◌∙◌}
use mathlib.Core.List.{List, [], ◌∷◌}
use mathlib.Core.Bool.{Bool, true, false, ◌&&◌}
use native.Mathlib.Omega.{arith}
use native.Mathlib.Nat.{sub-zero}
use Rattle.table.specs.Code.{Code}
use Rattle.calculus.specs.Constraint.{Row, Rule, none, given, some, only, each, range, every, ◌and◌}
use Rattle.calculus.specs.Layout.{span, sets}
use Rattle.calculus.specs.Estimate.{any_from, through, fire}
unfoldable pub use Rattle.calculus.specs.Estimate.{found}
use Rattle.calculus.proofs.Firing.{whole_is}

-- ---- a branch whose test is known

taken : (b : Bool) (xs ys : List ℕ) → b ≡ true → elim b [ true ↦ xs | false ↦ ys ] ≡ xs
taken b xs ys e = ap (λ (t : Bool). elim t [ true ↦ xs | false ↦ ys ]) e

left : (b : Bool) (xs ys : List ℕ) → b ≡ false → elim b [ true ↦ xs | false ↦ ys ] ≡ ys
left b xs ys e = ap (λ (t : Bool). elim t [ true ↦ xs | false ↦ ys ]) e

both-same : (b : Bool) (xs ys : List ℕ) → xs ≡ ys → elim b [ true ↦ xs | false ↦ ys ] ≡ ys
both-same true xs ys e = e
both-same false xs ys e = refl

module _ (c : Code) where
  pub fire-none : (ws : List ℕ) → fire c none ws ≡ ws
  unfolding fire
  fire-none ws = refl

  pub fire-and : (k l : Rule) (ws : List ℕ) → fire c (k and l) ws ≡ fire c l (fire c k ws)
  unfolding fire
  fire-and k l ws = whole_is (fire c k ws) (fire c l)

  -- ---- rules under a test

  pub fire-only : (t : Bool) (k : Rule) (ws : List ℕ) → t ≡ true → fire c (only t k) ws ≡ fire c k ws
  unfolding fire
  fire-only t k ws e = taken t (fire c k ws) ws e

  pub fire-only-not : (t : Bool) (k : Rule) (ws : List ℕ) → t ≡ false → fire c (only t k) ws ≡ ws
  unfolding fire
  fire-only-not t k ws e = left t (fire c k ws) ws e

  pub fire-given : (r : Row) (v : ℕ) (k : Rule) (ws : List ℕ) → sets c ws r v ≡ true → fire c (given r v k) ws ≡ fire c k ws
  unfolding fire
  fire-given r v k ws e = taken (sets c ws r v) (fire c k ws) ws e

  pub fire-given-not : (r : Row) (v : ℕ) (k : Rule) (ws : List ℕ) → sets c ws r v ≡ false → fire c (given r v k) ws ≡ ws
  unfolding fire
  fire-given-not r v k ws e = left (sets c ws r v) (fire c k ws) ws e

  pub fire-some : (r : Row) (q : ℕ → Bool) (k : Rule) (ws : List ℕ) → found c ws r q ≡ true → fire c (some r q k) ws ≡ fire c k ws
  unfolding fire found
  fire-some r q k ws e = taken (any_from (span c r) 0 (λ v. q v && sets c ws r v)) (fire c k ws) ws e

  pub fire-some-not : (r : Row) (q : ℕ → Bool) (k : Rule) (ws : List ℕ) → found c ws r q ≡ false → fire c (some r q k) ws ≡ ws
  unfolding fire found
  fire-some-not r q k ws e = left (any_from (span c r) 0 (λ v. q v && sets c ws r v)) (fire c k ws) ws e

  -- a rule that does nothing does nothing under a test
  pub fire-only-same : (t : Bool) (k : Rule) (ws : List ℕ) → fire c k ws ≡ ws → fire c (only t k) ws ≡ ws
  unfolding fire
  fire-only-same t k ws e = both-same t (fire c k ws) ws e

  -- the rule of `each_made` and `pass` at an element that is there and of the right sort, and at one that is not there
  pub fire-present : (t : Bool) (r : Row) (v : ℕ) (k : Rule) (ws : List ℕ) → t ≡ true → sets c ws r v ≡ true
      → fire c (only t (given r v k)) ws ≡ fire c k ws
  fire-present t r v k ws e f = fire-only t (given r v k) ws e ∙ fire-given r v k ws f

  pub fire-absent : (t : Bool) (r : Row) (v : ℕ) (k : Rule) (ws : List ℕ) → sets c ws r v ≡ false → fire c (only t (given r v k)) ws ≡ ws
  fire-absent t r v k ws e = fire-only-same t (given r v k) ws (fire-given-not r v k ws e)

  -- ---- a rule at each of a list of numbers

  pub each_nil : (k : ℕ → Rule) (ws : List ℕ) → fire c (each [] k) ws ≡ ws
  unfolding fire
  each_nil k ws = refl

  pub each-cons : (x : ℕ) (xs : List ℕ) (k : ℕ → Rule) (ws : List ℕ) → fire c (each (x ∷ xs) k) ws ≡ fire c (each xs k) (fire c (k x) ws)
  unfolding fire
  each-cons x xs k ws = whole_is (fire c (k x) ws) (through xs (λ i. fire c (k i)))

  module _ (k : ℕ → Rule) where
    pub range-nil : (i : ℕ) (ws : List ℕ) → fire c (each (range zero i) k) ws ≡ ws
    unfolding range
    range-nil i ws = each_nil k ws

    pub range-suc : (n i : ℕ) (ws : List ℕ) → fire c (each (range (suc n) i) k) ws ≡ fire c (each (range n (suc i)) k) (fire c (k i) ws)
    unfolding range
    range-suc n i ws = each-cons i (range n (suc i)) k ws

    -- numbers at which the rule does nothing are skipped
    pub range-skip : (m n i : ℕ) (ws : List ℕ) → m ≤ n → ((j : ℕ) → i ≤ j → j < i + m → fire c (k j) ws ≡ ws)
        → fire c (each (range n i) k) ws ≡ fire c (each (range (n - m) (i + m)) k) ws
    range-skip zero n i ws h s =
        let e : n - zero ≡ n = omega arith in
        let f : i + zero ≡ i = omega arith in
        rw (e, f)
    range-skip (suc m) zero i ws h s = absurd (omega arith)
    range-skip (suc m) (suc n) i ws h s =
        let e : suc n - suc m ≡ n - m = omega arith in
        let f : i + suc m ≡ suc i + m = omega arith in
        range-suc n i ws ∙ ap (fire c (each (range n (suc i)) k)) (s i (omega arith) (omega arith))
        ∙ rw (e, f) (range-skip m n (suc i) ws (omega arith) (λ j a b. s j (omega arith) (omega arith)))

    -- ---- in a loop over the numbers below n: what is left to do at number i is `each (range (n - i) i) k`

    pub loop-start : (n : ℕ) (ws : List ℕ) → fire c (each (range (n - 0) 0) k) ws ≡ fire c (every n k) ws
    loop-start n ws = rw sub-zero

    pub loop-end : (n i : ℕ) (ws : List ℕ) → n ≤ i → fire c (each (range (n - i) i) k) ws ≡ ws
    loop-end n i ws h = let e : n - i ≡ zero = omega arith in rw e (range-nil i ws)

    pub loop-step : (n i : ℕ) (ws : List ℕ) → i < n
        → fire c (each (range (n - i) i) k) ws ≡ fire c (each (range (n - (i + 1)) (i + 1)) k) (fire c (k i) ws)
    loop-step n i ws h =
        let e : n - i ≡ suc (n - (i + 1)) = omega arith in
        let f : i + 1 ≡ suc i = omega arith in
        rw e (range-suc (n - (i + 1)) i ws ∙ rw f)

    pub loop-skip : (n i j : ℕ) (ws : List ℕ) → i ≤ j → j ≤ n → ((l : ℕ) → i ≤ l → l < j → fire c (k l) ws ≡ ws)
        → fire c (each (range (n - i) i) k) ws ≡ fire c (each (range (n - j) j) k) ws
    loop-skip n i j ws h g s =
        let e : n - i - (j - i) ≡ n - j = omega arith in
        let f : i + (j - i) ≡ j = omega arith in
        range-skip (j - i) (n - i) i ws (omega arith) (λ l a b. s l a (omega arith)) ∙ rw (e, f)
    -- ---- in a loop over a list: what is left to do at place i is `each (drop i xs) k`
