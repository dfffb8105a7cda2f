-- There is an order exactly if there is no loop; and there is at most one order, and one loop that is the first of the shortest.
use Prim.Native.Nat.{ℕ, zero, suc, ◌+◌, ◌%◌, ◌^◌, ◌≤◌, ◌<◌}
use mathlib.Core.Path.{◌≡◌, refl, sym, ap₂, ◌∙◌, subst}
use mathlib.Core.Logic.{◌⊎◌, inl, inr, ⊎_elim, ◌↔◌}
use mathlib.Core.List.Memᴰ
use mathlib.Core.List.{List, [], ◌∷◌, ◌++◌, Memᴰ}
use native.Mathlib.Decide.{dec_le, dec_lt}
use native.Mathlib.Nat.{mod-lt, le_antisymm}
use native.Mathlib.Omega.{arith}
use lib.Dec.{T}
use lib.ListN.{length, get_or, take, drop}
use lib.Pow.{pow_pos}
use lib.Seq.{split_at, take-suc, take_all, take-length}
use Rattle.permset.specs.Sets.{member}
use Rattle.permset.proofs.Digits.{member-low, member-lt}
use Rattle.graph.specs.Relation.{Live, Sends}
use Rattle.graph.specs.Order.{Free, Order}
use Rattle.graph.specs.Loop.{Walk, Loop, NotAfter, Shortest}
use Rattle.graph.specs.Search.{loop_length, loop_of, order_from}
use Rattle.graph.proofs.Walks.{walk-live}
use Rattle.graph.proofs.Shortest.{found-shortest}
use Rattle.graph.proofs.Orders.{found-order}

-- the live positions as the low digits of a set
pub low-live : (rows : List ℕ) (live n : ℕ) → n ≤ length rows → ((p : ℕ) → Live rows live p → p < n)
    → (p : ℕ) → T (member (live % 2 ^ n) p) ↔ Live rows live p
low-live rows live n fits inside p = (
  λ m. let l = member-lt n (live % 2 ^ n) p (mod-lt live (pow_pos n)) m in (omega (arith, l), subst T (member-low live n p l) m),
  λ l. subst T (sym (member-low live n p (inside p l))) l.1,
)

module _ (rows : List ℕ) (live : ℕ) where
  -- whoever is in a loop, one of the loop may send to it
  sender-in-walk : (x : ℕ) (xs : List ℕ) (t : ℕ) → Walk rows live x xs t → (y : ℕ) → (y ≡ t) ⊎ Memᴰ y xs
      → (s : ℕ) × Memᴰ s (x ∷ xs) × Sends rows live s y
  sender-in-walk x [] t w y (inl e) = (x, Memᴰ.head refl, subst (Sends rows live x) (sym e) w)
  sender-in-walk x [] t w y (inr m) = absurd (Memᴰ.not-nil m)
  sender-in-walk x (z ∷ zs) t w y (inl e) =
      let r = sender-in-walk z zs t w.1 y (inl e) in (r.0, Memᴰ.tail r.1, r.2)
  sender-in-walk x (z ∷ zs) t w y (inr m) =
      ⊎_elim (λ e. (x, Memᴰ.head refl, subst (Sends rows live x) (sym e) w.0))
      (λ k. let r = sender-in-walk z zs t w.1 y (inr k) in (r.0, Memᴰ.tail r.1, r.2))
      (Memᴰ.cases_cons m)

  module _ (order : List ℕ) (ordered : Order rows live order) where
    -- the positions of a loop would all have one of the loop before them
    none-taken : (x : ℕ) (xs : List ℕ) → Walk rows live x xs x → (k : ℕ) (y : ℕ) → Memᴰ y (x ∷ xs) → Memᴰ y (take k order) → ⊥
    none-taken x xs w zero y m t = Memᴰ.not-nil t
    none-taken x xs w (suc k) y m t = go (dec_lt k (length order)) (none-taken x xs w k)
      where
        from : (s : ℕ) × Memᴰ s (x ∷ xs) × Sends rows live s y
        from = sender-in-walk x xs x w y (Memᴰ.cases_cons m)

        go : Dec (k < length order) → ((z : ℕ) → Memᴰ z (x ∷ xs) → Memᴰ z (take k order) → ⊥) → ⊥
        go (no l) r =
            r y m
            (subst (Memᴰ y) (take_all (suc k) order (omega (arith, l)) ∙ sym (take_all k order (omega (arith, l)))) t)
        go (yes l) r =
            ⊎_elim (r y m)
            (λ i. r from.0 from.1
            ((ordered.free (take k order) (get_or order k 0) (drop (suc k) order) (split_at order k 0 l)).follows from.0
            (subst (Sends rows live from.0) (Memᴰ.eq_of_singleton i) from.2)))
            (Memᴰ.append_cases (take k order) (subst (Memᴰ y) (take-suc order k 0 l) t))

    pub order-no-loop : (xs : List ℕ) → Loop rows live xs → ⊥
    order-no-loop [] c = c
    order-no-loop (x ∷ xs) c =
        none-taken x xs c.0 (length order) x (Memᴰ.head refl)
        (subst (Memᴰ x) (sym (take-length order))
        (ordered.whole x (walk-live rows live x xs x c.0 x (Memᴰ.head refl))))

  pub no-loop-order : ((xs : List ℕ) → Loop rows live xs → ⊥) → (order : List ℕ) × Order rows live order
  no-loop-order none = go (dec_le (loop_length rows alive n) n)
    where
      n : ℕ
      n = length rows

      alive : ℕ
      alive = live % 2 ^ n

      below : alive < 2 ^ n
      below = mod-lt live (pow_pos n)

      same : (p : ℕ) → T (member alive p) ↔ Live rows live p
      same = low-live rows live n (omega arith) (λ p l. l.0)

      go : Dec (loop_length rows alive n ≤ n) → (order : List ℕ) × Order rows live order
      go (yes l) =
          absurd (none (loop_of rows alive n (loop_length rows alive n)) (found-shortest rows live alive n below same l).is_loop)
      go (no l) = (order_from rows n n alive, found-order rows live alive n below same (omega (arith, l)))

-- there is an order exactly if there is no loop
pub order-or-loop : (rows : List ℕ) (live : ℕ) → ((order : List ℕ) × Order rows live order) ↔ ((xs : List ℕ) → Loop rows live xs → ⊥)
order-or-loop rows live = (λ o. order-no-loop rows live o.0 o.1, no-loop-order rows live)

-- ---- the definitions fix the answer

module _ (rows : List ℕ) (live : ℕ) where
  -- of two orders that agree so far, one does not go on where the other ends
  both-go-on : (xs ys : List ℕ) (k : ℕ) → Order rows live xs → Order rows live ys → take k xs ≡ take k ys → k < length xs → k < length ys
  both-go-on xs ys k o u e l = go (dec_lt k (length ys))
    where
      go : Dec (k < length ys) → k < length ys
      go (yes h) = h
      go (no h) =
          let f = o.free (take k xs) (get_or xs k 0) (drop (suc k) xs) (split_at xs k 0 l) in
          absurd
          (f.unplaced (subst (Memᴰ (get_or xs k 0)) (sym (e ∙ take_all k ys (omega (arith, h)))) (u.whole (get_or xs k 0) f.lives)))

  orders-agree : (xs ys : List ℕ) → Order rows live xs → Order rows live ys → (k : ℕ) → take k xs ≡ take k ys
  orders-agree xs ys o u zero = refl
  orders-agree xs ys o u (suc k) = go (orders-agree xs ys o u k) (dec_lt k (length xs)) (dec_lt k (length ys))
    where
      le : (vs ws : List ℕ) → Order rows live vs → Order rows live ws → take k vs ≡ take k ws → k < length vs → k < length ws
          → get_or vs k 0 ≤ get_or ws k 0
      le vs ws v w e l h =
          v.lowest (take k vs) (get_or vs k 0) (drop (suc k) vs) (split_at vs k 0 l) (get_or ws k 0)
          (subst (λ (b : List ℕ). Free rows live b (get_or ws k 0)) (sym e)
          (w.free (take k ws) (get_or ws k 0) (drop (suc k) ws) (split_at ws k 0 h)))

      go : take k xs ≡ take k ys → Dec (k < length xs) → Dec (k < length ys) → take (suc k) xs ≡ take (suc k) ys
      go e (yes l) (yes h) =
          take-suc xs k 0 l
          ∙ ap₂ (λ (b : List ℕ) (p : ℕ). b ++ p ∷ []) e (le_antisymm (le xs ys o u e l h) (le ys xs u o (sym e) h l))
          ∙ sym (take-suc ys k 0 h)
      go e (yes l) (no h) = absurd (h (both-go-on xs ys k o u e l))
      go e (no l) (yes h) = absurd (l (both-go-on ys xs k u o (sym e) h))
      go e (no l) (no h) =
          take_all (suc k) xs (omega (arith, l)) ∙ sym (take_all k xs (omega (arith, l))) ∙ e ∙ take_all k ys (omega (arith, h))
          ∙ sym (take_all (suc k) ys (omega (arith, h)))

  pub order-unique : (xs ys : List ℕ) → Order rows live xs → Order rows live ys → xs ≡ ys
  order-unique xs ys o u =
      sym (take_all (length xs + length ys) xs (omega arith)) ∙ orders-agree xs ys o u (length xs + length ys)
      ∙ take_all (length xs + length ys) ys (omega arith)

not-after-both : (xs ys : List ℕ) → NotAfter xs ys → NotAfter ys xs → xs ≡ ys
not-after-both [] [] a b = refl
not-after-both [] (y ∷ ys) a b = absurd b
not-after-both (x ∷ xs) [] a b = absurd a
not-after-both (x ∷ xs) (y ∷ ys) (inl a) (inl b) = absurd (omega arith)
not-after-both (x ∷ xs) (y ∷ ys) (inl a) (inr b) = let e = b.0 in absurd (omega arith)
not-after-both (x ∷ xs) (y ∷ ys) (inr a) (inl b) = let e = a.0 in absurd (omega arith)
not-after-both (x ∷ xs) (y ∷ ys) (inr a) (inr b) = ap₂ (λ (z : ℕ) (l : List ℕ). z ∷ l) a.0 (not-after-both xs ys a.1 b.1)

pub loop-unique : (rows : List ℕ) (live : ℕ) (xs ys : List ℕ) → Shortest rows live xs → Shortest rows live ys → xs ≡ ys
loop-unique rows live xs ys s u =
    let e = le_antisymm (s.fewest ys u.is_loop) (u.fewest xs s.is_loop) in
    not-after-both xs ys (s.first ys u.is_loop (sym e)) (u.first xs s.is_loop e)
