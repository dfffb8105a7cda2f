-- The loop that the search finds is the first of the shortest, and where it finds none there is none.
use Prim.Native.Nat.{ℕ, zero, suc, ◌^◌, ◌≤◌, ◌<◌}
use mathlib.Core.Path.{◌≡◌, refl, sym, ap, ◌∙◌, subst}
use mathlib.Core.Logic.{inl, inr, ◌↔◌}
use mathlib.Core.List.Memᴰ
use mathlib.Core.List.{List, [], ◌∷◌, ◌++◌, Memᴰ}
use native.Mathlib.Decide.{ℕ_discrete, dec_le}
use native.Mathlib.Omega.{arith}
use lib.Dec.{T, ltb→lt, lt→ltb}
use lib.ListN.{length}
use Rattle.permset.specs.Sets.{member}
use Rattle.permset.proofs.Digits.{member-lt}
use Rattle.graph.specs.Relation.{Live}
use Rattle.graph.specs.Loop.{Walk, Distinct, Loop, NotAfter, Shortest}
use Rattle.graph.specs.Search.{lowest_from, closes, loop_start, some_closes, loop_length, follow, loop_of}
use Rattle.graph.proofs.Lists.{cut_at, length_cut, distinct-below}
use Rattle.graph.proofs.Lowest.{lowest-least, lowest-most, lowest-passes, lowest-le}
use Rattle.graph.proofs.Walks.{walk-cut, walk-join, walk-live, walk-reaches, onward, follow-walk, follow-length, follow-first}

-- where every closed walk has m positions or more, a walk of m positions has none twice
pub walk-distinct : (rows : List ℕ) (live m : ℕ) → ((y : ℕ) (ys : List ℕ) → Walk rows live y ys y → m ≤ suc (length ys))
    → (x : ℕ) (xs : List ℕ) (t : ℕ) → suc (length xs) ≤ m → Walk rows live x xs t → Distinct (x ∷ xs)
walk-distinct rows live m least x [] t l w = (λ k. Memᴰ.not-nil k, tt)
walk-distinct rows live m least x (y ∷ ys) t l w = (again, walk-distinct rows live m least y ys t (omega arith) w.1)
  where
    again : Memᴰ x (y ∷ ys) → ⊥
    again k =
        let r = cut_at (y ∷ ys) k in
        let v : Walk rows live x (r.before ++ x ∷ r.after) t = subst (λ (l : List ℕ). Walk rows live x l t) r.cut w in
        let h = least x r.before (walk-cut rows live x r.before x r.after t v).0 in
        let e = ap length r.cut ∙ length_cut r.before x r.after in
        omega arith

module _ (rows : List ℕ) (live alive n : ℕ) (below : alive < 2 ^ n) (same : (p : ℕ) → T (member alive p) ↔ Live rows live p) where
  pub live_below : (p : ℕ) → Live rows live p → p < n
  live_below p l = member-lt n alive p below ((same p).1 l)

  -- a closed walk closes, and starts no lower than the first that does
  walk-closes : (x : ℕ) (xs : List ℕ) → Walk rows live x xs x → T (closes rows alive (suc (length xs)) x)
  unfolding closes
  walk-closes x xs w = walk-reaches rows live alive n below same x x xs w

  start-le : (x : ℕ) (xs : List ℕ) → Walk rows live x xs x → loop_start rows alive n (suc (length xs)) ≤ x
  unfolding loop_start
  start-le x xs w =
      lowest-le (closes rows alive (suc (length xs))) n 0 x (omega arith) (walk-closes x xs w)
      (let h = live_below x (walk-live rows live x xs x w x (Memᴰ.head refl)) in omega arith)

  -- no closed walk is shorter than the search says
  pub length-least : (x : ℕ) (xs : List ℕ) → Walk rows live x xs x → loop_length rows alive n ≤ suc (length xs)
  unfolding loop_length some_closes
  length-least x xs w = go (dec_le (suc (length xs)) n)
    where
      go : Dec (suc (length xs) ≤ n) → loop_length rows alive n ≤ suc (length xs)
      go (yes l) =
          let h = start-le x xs w in
          let k = live_below x (walk-live rows live x xs x w x (Memᴰ.head refl)) in
          lowest-le (some_closes rows alive n) n 1 (suc (length xs)) (omega arith)
          (lt→ltb (loop_start rows alive n (suc (length xs))) n (omega arith)) (omega arith)
      go (no l) = omega (arith, lowest-most (some_closes rows alive n) n 1)

  -- so where it finds nothing there is no loop
  pub no_loop : n < loop_length rows alive n → (xs : List ℕ) → Loop rows live xs → ⊥
  no_loop l [] c = c
  no_loop l (x ∷ xs) c =
      let h = length-least x xs c.0 in
      let k = distinct-below n (x ∷ xs) c.1 (λ y m. live_below y (walk-live rows live x xs x c.0 y m)) in
      omega arith

  -- ---- what it finds

  pub found-start : loop_length rows alive n ≤ n → loop_start rows alive n (loop_length rows alive n) < n
  unfolding loop_length some_closes
  found-start l = ltb→lt (loop_start rows alive n (loop_length rows alive n)) n (lowest-passes (some_closes rows alive n) n 1 (omega arith))

  module _ (k : ℕ) (found : loop_length rows alive n ≡ suc k) (inside : suc k ≤ n) where
    abbrev start : ℕ
    start = loop_start rows alive n (suc k)

    abbrev rest : List ℕ
    rest = follow rows alive n start k (onward rows live alive n below same start k start)

    start-below : start < n
    start-below = subst (λ (m : ℕ). loop_start rows alive n m < n) found (found-start (omega (arith, found)))

    start-walk : Walk rows live start rest start
    unfolding loop_start closes
    start-walk =
        follow-walk rows live alive n below same start k start
        (lowest-passes (closes rows alive (suc k)) n 0 (omega (arith, start-below)))

    rest-length : length rest ≡ k
    rest-length = follow-length rows alive n start k (onward rows live alive n below same start k start)

    -- every position of the loop closes, so none is lower than the start
    start-lowest : (y : ℕ) → Memᴰ y rest → start ≤ y
    start-lowest y m =
        let r = cut_at rest m in
        let w = walk-cut rows live start r.before y r.after start (subst (λ (l : List ℕ). Walk rows live start l start) r.cut start-walk) in
        let v = walk-join rows live y r.after start r.before y w.1 w.0 in
        let e : length (r.after ++ start ∷ r.before) ≡ k =
        length_cut r.after start r.before ∙ (let f = sym (ap length r.cut ∙ length_cut r.before y r.after) ∙ rest-length in omega arith) in
        subst (λ (j : ℕ). loop_start rows alive n (suc j) ≤ y) e (start-le y (r.after ++ start ∷ r.before) v)

    start-distinct : Distinct (start ∷ rest)
    start-distinct =
        walk-distinct rows live (suc k) (λ y ys w. subst (λ (j : ℕ). j ≤ suc (length ys)) found (length-least y ys w)) start rest start
        (omega (arith, rest-length)) start-walk

    start_first : (other : List ℕ) → Loop rows live other → length other ≡ suc k → NotAfter (start ∷ rest) other
    start_first [] c e = absurd c
    start_first (y ∷ ys) c e = go (ℕ_discrete start y)
      where
        size : length ys ≡ k
        size = omega (arith, e)

        le : start ≤ y
        le = subst (λ (j : ℕ). loop_start rows alive n (suc j) ≤ y) size (start-le y ys c.0)

        after : start ≡ y → NotAfter rest ys
        after d =
            subst (λ (j : ℕ). NotAfter (follow rows alive n start j (onward rows live alive n below same start j start)) ys) size
            (follow-first rows live alive n below same start start ys
            (subst (λ (z : ℕ). Walk rows live z ys z) (sym d) c.0))

        go : Dec (start ≡ y) → NotAfter (start ∷ rest) (y ∷ ys)
        go (yes d) = inr (d, after d)
        go (no d) = inl (omega (arith, le))

    loop-shortest : Shortest rows live (start ∷ rest)
    loop-shortest =
        record {
          is_loop = (start-walk, start-distinct, start-lowest);
          fewest = fewer;
          first = λ other c e. start_first other c (e ∙ ap suc rest-length);
        }
      where
        fewer : (other : List ℕ) → Loop rows live other → suc (length rest) ≤ length other
        fewer [] c = absurd c
        fewer (y ∷ ys) c = omega (arith, rest-length, found, length-least y ys c.0)

  pub found-shortest : loop_length rows alive n ≤ n → Shortest rows live (loop_of rows alive n (loop_length rows alive n))
  unfolding loop_of follow loop_length
  found-shortest l = go (loop_length rows alive n) refl l (lowest-least (some_closes rows alive n) n 1)
    where
      go : (m : ℕ) → loop_length rows alive n ≡ m → m ≤ n → 1 ≤ lowest_from n 1 (some_closes rows alive n) → Shortest rows live (loop_of rows alive n m)
      go zero e h g = absurd (omega (arith, e))
      go (suc k) e h g = loop-shortest k e h
