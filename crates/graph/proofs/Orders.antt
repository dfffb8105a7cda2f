-- Where there is no loop, the lowest free position taken each time gives an order of all live positions.
use Prim.Native.Nat.{ℕ, zero, suc, ◌+◌, ◌^◌, ◌≤◌, ◌<◌}
use mathlib.Core.Path.{◌≡◌, refl, sym, ap, subst}
use mathlib.Core.Logic.{◌⊎◌, inl, inr, ⊎_elim, ◌↔◌}
use mathlib.Core.Bool.{Bool, true, false, not}
use mathlib.Core.List.Memᴰ
use mathlib.Core.List.{List, [], ◌∷◌, ◌++◌, append-nil, Memᴰ}
use native.Mathlib.Decide.{ℕ_discrete, dec_lt}
use native.Mathlib.Omega.{arith}
use lib.Dec.{T, eqb, eqb→eq, ltb, ltb→lt, nltb→le}
use lib.Bits.{bit_and}
use lib.ListN.{length, get_or, length-append}
use lib.Seq.{append_snoc}
use Rattle.permset.specs.Sets.{member, difference}
use Rattle.permset.proofs.Digits.{T_and, T-fst, T-snd, member-single, member-single-only}
use Rattle.permset.proofs.Laws.{member-empty, difference-first, difference-second, in-difference}
use Rattle.graph.specs.Relation.{Live, Sends}
use Rattle.graph.specs.Order.{Free, Order}
use Rattle.graph.specs.Loop.{Walk, Distinct}
use Rattle.graph.specs.Search.{lowest_from, is_free, lowest_free, order_from, loop_length}
use Rattle.graph.proofs.Digits.{in_both, both_left, both_right, no_member}
use Rattle.graph.proofs.Lists.{distinct_snoc, distinct-below}
use Rattle.graph.proofs.Lowest.{lowest-passes, lowest-le}
use Rattle.graph.proofs.Walks.{walk-live}
use Rattle.graph.proofs.Shortest.{live_below, length-least, walk-distinct}

-- ---- an order said from its start on

module _ (rows : List ℕ) (live : ℕ) where
  -- a list goes on to the end after those of `before`
  abbrev pub Rest : List ℕ → List ℕ → Type 0
  Rest before [] = (p : ℕ) → Live rows live p → Memᴰ p before
  Rest before (p ∷ after) =
      Free rows live before p × ((q : ℕ) → Free rows live before q → p ≤ q) × Rest (before ++ p ∷ []) after

  rest-whole : (before after : List ℕ) → Rest before after → (p : ℕ) → Live rows live p → Memᴰ p (before ++ after)
  rest-whole before [] r p l = Memᴰ.append_left [] (r p l)
  rest-whole before (q ∷ after) r p l = subst (Memᴰ p) (append_snoc before q after) (rest-whole (before ++ q ∷ []) after r.2 p l)

  -- where it is cut
  rest-cut : (done before : List ℕ) (p : ℕ) (after : List ℕ) → Rest done (before ++ p ∷ after)
      → Free rows live (done ++ before) p × ((q : ℕ) → Free rows live (done ++ before) q → p ≤ q)
  rest-cut done [] p after r = rw append-nil (r.0, r.1)
  rest-cut done (b ∷ before) p after r =
      subst (λ (l : List ℕ). Free rows live l p × ((q : ℕ) → Free rows live l q → p ≤ q)) (append_snoc done b before)
      (rest-cut (done ++ b ∷ []) before p after r.2)

  pub rest-order : (order : List ℕ) → Rest [] order → Order rows live order
  rest-order order r =
      record {
        whole = rest-whole [] order r;
        free = λ before p after e. (rest-cut [] before p after (subst (Rest []) e r)).0;
        lowest = λ before p after e. (rest-cut [] before p after (subst (Rest []) e r)).1;
      }

  -- ---- those that are left, as a set

  pub record Left (before : List ℕ) (left : ℕ) : Type 0 where
    pub covers : (p : ℕ) → Live rows live p → T (member left p) ⊎ Memᴰ p before
    pub lives : (p : ℕ) → T (member left p) → Live rows live p
    pub apart : (p : ℕ) → T (member left p) → Memᴰ p before → ⊥

  module _ (before : List ℕ) (left : ℕ) (those : Left before left) where
    free-passes : (p : ℕ) → Free rows live before p → T (is_free rows left p)
    unfolding is_free
    free-passes p f =
        T_and (member left p) (eqb (bit_and (get_or rows p 0) left) 0)
        (⊎_elim (λ m. m) (λ m. absurd (f.unplaced m)) (those.covers p f.lives))
        (subst (λ (s : ℕ). T (eqb s 0)) (sym (no_member (bit_and (get_or rows p 0) left) none)) tt)
      where
        none : (s : ℕ) → T (member (bit_and (get_or rows p 0) left) s) → ⊥
        none s m =
            let l = both_right (get_or rows p 0) left s m in
            those.apart s l
            (f.follows s (record { sender = those.lives s l; receiver = f.lives; bit = both_left (get_or rows p 0) left s m }))

    passes-free : (p : ℕ) → T (is_free rows left p) → Free rows live before p
    unfolding is_free
    passes-free p h =
        record {
          lives = those.lives p here;
          unplaced = those.apart p here;
          follows = λ s d. ⊎_elim (λ m. absurd (blocked s m d)) (λ m. m) (those.covers s d.sender);
        }
      where
        here : T (member left p)
        here = T-fst (member left p) (eqb (bit_and (get_or rows p 0) left) 0) h

        blocked : (s : ℕ) → T (member left s) → Sends rows live s p → ⊥
        blocked s m d =
            subst T (member-empty s)
            (subst (λ (k : ℕ). T (member k s))
            (eqb→eq (bit_and (get_or rows p 0) left) 0 (T-snd (member left p) (eqb (bit_and (get_or rows p 0) left) 0) h))
            (in_both (get_or rows p 0) left s d.bit m))

    -- one position more is placed
    left-next : (p : ℕ) → T (member left p) → Left (before ++ p ∷ []) (difference left (2 ^ p))
    left-next p h =
        record {
          covers = λ q l. ⊎_elim (stays q) (λ m. inr (Memᴰ.append_left (p ∷ []) m)) (those.covers q l);
          lives = λ q m. those.lives q (difference-first left (2 ^ p) q m);
          apart = λ q m k. ⊎_elim (those.apart q (difference-first left (2 ^ p) q m)) (gone q m) (Memᴰ.append_cases before k);
        }
      where
        stays : (q : ℕ) → T (member left q) → T (member (difference left (2 ^ p)) q) ⊎ Memᴰ q (before ++ p ∷ [])
        stays q m = go (ℕ_discrete q p)
          where
            go : Dec (q ≡ p) → T (member (difference left (2 ^ p)) q) ⊎ Memᴰ q (before ++ p ∷ [])
            go (yes e) = inr (Memᴰ.append_right before (Memᴰ.head e))
            go (no e) = inl (in-difference left (2 ^ p) q m (λ s. e (sym (member-single-only p q s))))

        gone : (q : ℕ) → T (member (difference left (2 ^ p)) q) → Memᴰ q (p ∷ []) → ⊥
        gone q m k =
            difference-second left (2 ^ p) q m
            (subst (λ (i : ℕ). T (member (2 ^ p) i)) (sym (Memᴰ.eq_of_singleton k)) (member-single p))

-- ---- the search

module _ (rows : List ℕ) (live alive n : ℕ) (below : alive < 2 ^ n) (same : (p : ℕ) → T (member alive p) ↔ Live rows live p) (none : n < loop_length rows alive n) where
  -- where none is free, each that is left has a sender that is left too
  module _ (before : List ℕ) (left : ℕ) (those : Left rows live before left) (stuck : n ≤ lowest_free rows n left) where
    pub record Sender (p : ℕ) : Type 0 where
      pub from : ℕ
      pub left-too : T (member left from)
      pub sends : Sends rows live from p

    left_below : (p : ℕ) → T (member left p) → p < n
    left_below p m = live_below rows live alive n below same p (those.lives p m)

    sender : (p : ℕ) → T (member left p) → Sender p
    unfolding lowest_free is_free
    sender p m = go (dec_lt first n)
      where
        both : ℕ
        both = bit_and (get_or rows p 0) left

        first : ℕ
        first = lowest_from n 0 (member both)

        go : Dec (first < n) → Sender p
        go (yes l) =
            let b = lowest-passes (member both) n 0 (omega arith) in
            let k = both_right (get_or rows p 0) left first b in
            record {
              from = first;
              left-too = k;
              sends = record { sender = those.lives first k; receiver = those.lives p m; bit = both_left (get_or rows p 0) left first b };
            }
        go (no l) =
            absurd
            (let e =
            no_member both
            (λ i b. let j = left_below i (both_right (get_or rows p 0) left i b) in
            let k = lowest-le (member both) n 0 i (omega arith) b (omega arith) in omega (arith, l)) in
            let f = T_and (member left p) (eqb both 0) m (subst (λ (s : ℕ). T (eqb s 0)) (sym e) tt) in
            let h = left_below p m in
            let k = lowest-le (is_free rows left) n 0 p (omega arith) f (omega arith) in
            omega (arith, stuck))

    -- so a walk of any length leads to it
    pub record Chain (k p : ℕ) : Type 0 where
      pub start : ℕ
      pub others : List ℕ
      pub walk : Walk rows live start others p
      pub size : length others ≡ k
      pub left-too : T (member left start)

    chain : (k p : ℕ) → T (member left p) → Chain k p
    chain zero p m = let s = sender p m in record { start = s.from; others = []; walk = s.sends; size = refl; left-too = s.left-too }
    chain (suc k) p m =
        let c = chain k p m in
        let s = sender c.start c.left-too in
        record { start = s.from; others = c.start ∷ c.others; walk = (s.sends, c.walk); size = ap suc c.size; left-too = s.left-too }

    -- and one of n + 1 positions has one of them twice
    none_left : (p : ℕ) → T (member left p) → ⊥
    none_left p m =
        let c = chain n p m in
        let e = c.size in
        let d =
        walk-distinct rows live (loop_length rows alive n) (length-least rows live alive n below same) c.start c.others p
        (omega (arith, none)) c.walk in
        let h =
        distinct-below n (c.start ∷ c.others) d
        (λ y k. live_below rows live alive n below same y (walk-live rows live c.start c.others p c.walk y k)) in
        omega arith

  order-rest : (count : ℕ) (before : List ℕ) (left : ℕ) → Left rows live before left → Distinct before
      → ((y : ℕ) → Memᴰ y before → y < n) → length before + count ≡ n → Rest rows live before (order_from rows n count left)
  unfolding order_from lowest_free
  order-rest zero before left those d b e = λ p l. ⊎_elim (λ m. absurd (full p m l)) (λ m. m) (those.covers p l)
    where
      full : (p : ℕ) → T (member left p) → Live rows live p → ⊥
      full p m l =
          let h =
          distinct-below n (p ∷ before) (those.apart p m, d)
          (λ y k. ⊎_elim (λ q. subst (λ (i : ℕ). i < n) (sym q) (live_below rows live alive n below same p l)) (b y) (Memᴰ.cases_cons k)) in
          omega arith
  order-rest (suc count) before left those d b e =
      go (ltb p n) refl
      (λ l m. order-rest count (before ++ p ∷ []) (difference left (2 ^ p)) (left-next rows live before left those p m)
      (distinct_snoc before p d (those.apart p m))
      (λ y k. ⊎_elim (b y) (λ i. subst (λ (j : ℕ). j < n) (sym (Memᴰ.eq_of_singleton i)) l) (Memᴰ.append_cases before k))
      (let k = length-append before (p ∷ []) in omega arith))
    where
      p : ℕ
      p = lowest_free rows n left

      free : p < n → Free rows live before p
      free l = passes-free rows live before left those p (lowest-passes (is_free rows left) n 0 (omega arith))

      least : (q : ℕ) → Free rows live before q → p ≤ q
      least q f =
          lowest-le (is_free rows left) n 0 q (omega arith) (free-passes rows live before left those q f)
          (let h = live_below rows live alive n below same q f.lives in omega arith)

      here : (f : Free rows live before p) → T (member left p)
      here f = ⊎_elim (λ m. m) (λ m. absurd (f.unplaced m)) (those.covers p f.lives)

      go : (t : Bool) → ltb p n ≡ t → (p < n → T (member left p) → Rest rows live (before ++ p ∷ []) (order_from rows n count (difference left (2 ^ p))))
          → Rest rows live before (elim t [ true ↦ p ∷ order_from rows n count (difference left (2 ^ p)) | false ↦ [] ])
      go true q r = let l = ltb→lt p n (subst T (sym q) tt) in let f = free l in (f, least, r l (here f))
      go false q r =
          λ x l. ⊎_elim
          (λ m. absurd (none_left before left those (nltb→le p n (subst (λ (t : Bool). T (not t)) (sym q) tt)) x m)) (λ m. m) (those.covers x l)

  -- the whole order
  pub found-order : Order rows live (order_from rows n n alive)
  found-order =
      rest-order rows live (order_from rows n n alive)
      (order-rest n [] alive
      (record { covers = λ p l. inl ((same p).1 l); lives = λ p m. (same p).0 m; apart = λ p m k. Memᴰ.not-nil k })
      tt (λ y k. absurd (Memᴰ.not-nil k)) (omega arith))
