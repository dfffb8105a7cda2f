-- The length of the shortest loop, found from one position to the next: each looks for a shorter one than those before it.
use Prim.Native.Nat.{ℕ, ◌+◌, ◌-◌, ◌≤◌, ◌<◌}
use mathlib.Core.Path.{◌≡◌, sym, subst}
use mathlib.Core.Bool.{Bool}
use mathlib.Core.List.{List}
use native.Mathlib.Decide.{ℕ_discrete, dec_lt}
use native.Mathlib.Omega.{arith}
use lib.Dec.{T, ltb→lt, lt→ltb}
use Rattle.graph.specs.Search.{lowest_from, closes, loop_start, some_closes, loop_length}
use Rattle.graph.proofs.Lowest.{lowest-least, lowest-most, lowest-passes, lowest-le, lowest-is, lowest-end}

module _ (rows : List ℕ) (alive n : ℕ) where
  -- a position below t that reaches itself in m messages
  pub record Closer (t m : ℕ) : Type 0 where
    pub at : ℕ
    pub below : at < t
    pub closing : T (closes rows alive m at)

  -- in fewer than `best` messages none below t reaches itself; and one does in `best`, unless that is n + 1
  pub record Best (t best : ℕ) : Type 0 where
    pub positive : 1 ≤ best
    pub most : best ≤ n + 1
    pub none : (m : ℕ) → 1 ≤ m → m < best → Closer t m → ⊥
    pub one : best ≤ n → Closer t best

  pub best-start : Best 0 (n + 1)
  best-start =
      record {
        positive = omega arith;
        most = omega arith;
        none = λ m h l c. let b = c.below in omega arith;
        one = λ h. absurd (omega arith);
      }

  pub best-next : (t best : ℕ) → Best t best → Best (t + 1) (lowest_from (best - 1) 1 (λ m. closes rows alive m t))
  best-next t best b =
      record {
        positive = lowest-least reaches (best - 1) 1;
        most = omega (arith, limit, b.most);
        none = fewer;
        one = λ h. found h (dec_lt next best);
      }
    where
      reaches : ℕ → Bool
      reaches m = closes rows alive m t

      next : ℕ
      next = lowest_from (best - 1) 1 reaches

      limit : next ≤ best
      limit = omega (arith, lowest-most reaches (best - 1) 1, b.positive)

      fewer : (m : ℕ) → 1 ≤ m → m < next → Closer (t + 1) m → ⊥
      fewer m h l c = go (ℕ_discrete c.at t)
        where
          go : Dec (c.at ≡ t) → ⊥
          go (yes e) =
              let k = lowest-le reaches (best - 1) 1 m h (subst (λ (i : ℕ). T (closes rows alive m i)) e c.closing) (omega (arith, limit)) in
              omega arith
          go (no e) =
              b.none m h (omega (arith, limit)) (record { at = c.at; below = (let d = c.below in omega arith); closing = c.closing })

      found : next ≤ n → Dec (next < best) → Closer (t + 1) next
      found h (yes l) = record { at = t; below = omega arith; closing = lowest-passes reaches (best - 1) 1 (omega (arith, b.positive)) }
      found h (no l) =
          let e : best ≡ next = omega (arith, limit) in
          let c = b.one (omega arith) in
          record { at = c.at; below = (let d = c.below in omega arith); closing = subst (λ (m : ℕ). T (closes rows alive m c.at)) e c.closing }

  some-closer : (m : ℕ) → T (some_closes rows alive n m) → Closer n m
  unfolding some_closes loop_start
  some-closer m h =
      let l = ltb→lt (loop_start rows alive n m) n h in
      record { at = loop_start rows alive n m; below = l; closing = lowest-passes (closes rows alive m) n 0 (omega arith) }

  closer-some : (m : ℕ) → Closer n m → T (some_closes rows alive n m)
  unfolding some_closes loop_start
  closer-some m c =
      lt→ltb (loop_start rows alive n m) n
      (let b = c.below in let k = lowest-le (closes rows alive m) n 0 c.at (omega arith) c.closing (omega arith) in omega arith)

  pub best-end : (best : ℕ) → Best n best → best ≡ loop_length rows alive n
  unfolding loop_length
  best-end best b = sym (go (dec_lt n best))
    where
      go : Dec (n < best) → loop_length rows alive n ≡ best
      go (yes l) =
          let e = lowest-end (some_closes rows alive n) n 1 (λ z h k t. b.none z h (omega arith) (some-closer z t)) in
          omega (arith, b.most)
      go (no l) =
          lowest-is (some_closes rows alive n) n 1 best b.positive (omega arith) (closer-some best (b.one (omega arith)))
          (λ z h k t. b.none z h k (some-closer z t))
