-- Walks, and from where a position is reached in exactly so many messages. The positions below n that are in `alive` are the live ones.
use Prim.Native.Nat.{ℕ, zero, suc, ◌+◌, ◌-◌, ◌/◌, ◌^◌, ◌≤◌, ◌<◌}
use mathlib.Core.Path.{◌≡◌, refl, sym, ap, ◌∙◌, subst}
use mathlib.Core.Logic.{inl, inr, ⊎_elim, ◌↔◌}
use mathlib.Core.Bool.{Bool, true, false}
use mathlib.Core.List.Memᴰ
use mathlib.Core.List.{List, [], ◌∷◌, ◌++◌, Memᴰ}
use native.Mathlib.Decide.{ℕ_discrete}
use native.Mathlib.Nat.{lt_of_le_of_lt}
use native.Mathlib.Numerals.{add-one}
use native.Mathlib.Omega.{arith}
use lib.Dec.{T}
use lib.Bits.{bit_and, and_le_r}
use lib.ListN.{length, get_or}
use Rattle.permset.specs.Sets.{member, union, difference}
use Rattle.permset.proofs.Digits.{T_and, T-fst, T-snd, member-single, member-single-only, member-lt}
use Rattle.permset.proofs.Laws.{member-suc, member-empty, union-cases, in-union-left, in-union-right, member-within, within-antisym, union-within, difference-first, in-difference}
use Rattle.graph.specs.Relation.{Live, Sends}
use Rattle.graph.specs.Loop.{Walk, NotAfter}
use Rattle.graph.specs.Search.{senders, reaching, is_next, lowest_next, follow}
use Rattle.graph.proofs.Digits.{in_both, both_left, both_right, no_member}
use Rattle.graph.proofs.Lowest.{lowest-passes, lowest-le}

-- ---- the senders to a set

-- x may send to a member of the set
pub record Sent (rows : List ℕ) (set x : ℕ) : Type 0 where
  pub to : ℕ
  pub inside : to < length rows
  pub there : T (member set to)
  pub bit : T (member (get_or rows to 0) x)

later : (row : ℕ) (rows : List ℕ) (set x : ℕ) → Sent rows (set / 2) x → Sent (row ∷ rows) set x
later row rows set x r =
    record { to = suc r.to; inside = (let h = r.inside in omega arith); there = rw member-suc r.there; bit = r.bit }

pub senders-only : (rows : List ℕ) (set x : ℕ) → T (member (senders rows set) x) → Sent rows set x
unfolding senders
senders-only [] set x h = absurd (subst T (member-empty x) h)
senders-only (row ∷ rows) set x h = go (member set 0) refl (senders-only rows (set / 2) x) h
  where
    go : (b : Bool) → member set 0 ≡ b → (T (member (senders rows (set / 2)) x) → Sent rows (set / 2) x)
        → T (member (elim b [ true ↦ union row (senders rows (set / 2)) | false ↦ senders rows (set / 2) ]) x) → Sent (row ∷ rows) set x
    go true e r k =
        ⊎_elim (λ m. record { to = 0; inside = omega arith; there = subst T (sym e) tt; bit = m }) (λ m. later row rows set x (r m))
        (union-cases row (senders rows (set / 2)) x k)
    go false e r k = later row rows set x (r k)

pub sender-in : (rows : List ℕ) (set x z : ℕ) → z < length rows → T (member set z) → T (member (get_or rows z 0) x) → T (member (senders rows set) x)
unfolding senders
sender-in [] set x z l t h = absurd (omega arith)
sender-in (row ∷ rows) set x zero l t h = go (member set 0) t
  where
    go : (b : Bool) → T b → T (member (elim b [ true ↦ union row (senders rows (set / 2)) | false ↦ senders rows (set / 2) ]) x)
    go true k = in-union-left row (senders rows (set / 2)) x h
    go false k = absurd k
sender-in (row ∷ rows) set x (suc z) l t h =
    go (member set 0) (sender-in rows (set / 2) x z (omega arith) (rw member-suc at t) h)
  where
    go : (b : Bool) → T (member (senders rows (set / 2)) x)
        → T (member (elim b [ true ↦ union row (senders rows (set / 2)) | false ↦ senders rows (set / 2) ]) x)
    go true k = in-union-right row (senders rows (set / 2)) x k
    go false k = k

pub senders-none : (rows : List ℕ) → senders rows 0 ≡ 0
senders-none rows = no_member (senders rows 0) (λ x m. subst T (member-empty (senders-only rows 0 x m).to) (senders-only rows 0 x m).there)

-- a member's row, and the rest
pub senders-less : (rows : List ℕ) (set p : ℕ) → p < length rows → T (member set p)
    → union (get_or rows p 0) (senders rows (difference set (2 ^ p))) ≡ senders rows set
senders-less rows set p l h =
    within-antisym (union (get_or rows p 0) (senders rows (difference set (2 ^ p)))) (senders rows set)
    (union-within (get_or rows p 0) (senders rows (difference set (2 ^ p))) (senders rows set)
    (member-within (get_or rows p 0) (senders rows set) (λ x b. sender-in rows set x p l h b))
    (member-within (senders rows (difference set (2 ^ p))) (senders rows set) more))
    (member-within (senders rows set) (union (get_or rows p 0) (senders rows (difference set (2 ^ p)))) fewer)
  where
    more : (x : ℕ) → T (member (senders rows (difference set (2 ^ p))) x) → T (member (senders rows set) x)
    more x m =
        let r = senders-only rows (difference set (2 ^ p)) x m in
        sender-in rows set x r.to r.inside (difference-first set (2 ^ p) r.to r.there) r.bit

    fewer : (x : ℕ) → T (member (senders rows set) x) → T (member (union (get_or rows p 0) (senders rows (difference set (2 ^ p)))) x)
    fewer x m = go (senders-only rows set x m)
      where
        go : Sent rows set x → T (member (union (get_or rows p 0) (senders rows (difference set (2 ^ p)))) x)
        go r = this (ℕ_discrete p r.to)
          where
            this : Dec (p ≡ r.to) → T (member (union (get_or rows p 0) (senders rows (difference set (2 ^ p)))) x)
            this (yes e) =
                in-union-left (get_or rows p 0) (senders rows (difference set (2 ^ p))) x
                (subst (λ (i : ℕ). T (member (get_or rows i 0) x)) (sym e) r.bit)
            this (no e) =
                in-union-right (get_or rows p 0) (senders rows (difference set (2 ^ p))) x
                (sender-in rows (difference set (2 ^ p)) x r.to r.inside
                (in-difference set (2 ^ p) r.to r.there (λ s. e (member-single-only p r.to s))) r.bit)

-- ---- one message further back

pub reaching-on : (rows : List ℕ) (alive t m set found : ℕ) → set ≡ reaching rows alive t m → found ≡ senders rows set
    → bit_and found alive ≡ reaching rows alive t (m + 1)
unfolding reaching
reaching-on rows alive t m set found e f = rw add-one (ap (λ (s : ℕ). bit_and s alive) (f ∙ ap (senders rows) e))

-- the same where the messages are counted from 1
pub reaching-at : (rows : List ℕ) (alive t m set found : ℕ) → 1 ≤ m → set ≡ reaching rows alive t (m - 1) → found ≡ senders rows set
    → bit_and found alive ≡ reaching rows alive t m
reaching-at rows alive t m set found l e f =
    reaching-on rows alive t (m - 1) set found e f ∙ ap (reaching rows alive t) (let d : m - 1 + 1 ≡ m = omega arith in d)

pub reaching-below : (rows : List ℕ) (alive t k : ℕ) → alive < 2 ^ k → (m : ℕ) → reaching rows alive t m < 2 ^ k
unfolding reaching
reaching-below rows alive t k h zero = lt_of_le_of_lt (and_le_r (2 ^ t) alive) h
reaching-below rows alive t k h (suc m) = lt_of_le_of_lt (and_le_r (senders rows (reaching rows alive t m)) alive) h

-- ---- walks cut and joined

module _ (rows : List ℕ) (live : ℕ) where
  pub walk-cut : (x : ℕ) (before : List ℕ) (y : ℕ) (after : List ℕ) (t : ℕ) → Walk rows live x (before ++ y ∷ after) t
      → Walk rows live x before y × Walk rows live y after t
  walk-cut x [] y after t w = w
  walk-cut x (z ∷ before) y after t w = let r = walk-cut z before y after t w.1 in ((w.0, r.0), r.1)

  pub walk-join : (x : ℕ) (before : List ℕ) (y : ℕ) (after : List ℕ) (t : ℕ) → Walk rows live x before y → Walk rows live y after t
      → Walk rows live x (before ++ y ∷ after) t
  walk-join x [] y after t v w = (v, w)
  walk-join x (z ∷ before) y after t v w = (v.0, walk-join z before y after t v.1 w)

  -- every position of a walk may send
  pub walk-live : (x : ℕ) (xs : List ℕ) (t : ℕ) → Walk rows live x xs t → (y : ℕ) → Memᴰ y (x ∷ xs) → Live rows live y
  walk-live x [] t w y m =
      ⊎_elim (λ e. subst (Live rows live) (sym e) w.sender) (λ k. absurd (elim k [ ])) (Memᴰ.cases_cons m)
  walk-live x (z ∷ zs) t w y m =
      ⊎_elim (λ e. subst (Live rows live) (sym e) w.0.sender) (λ k. walk-live z zs t w.1 y k) (Memᴰ.cases_cons m)

-- a walk that goes on to the lowest has as many positions as messages
pub follow-length : (rows : List ℕ) (alive n t m x : ℕ) → length (follow rows alive n t m x) ≡ m
unfolding follow
follow-length rows alive n t zero x = refl
follow-length rows alive n t (suc m) x = ap suc (follow-length rows alive n t m (lowest_next rows n (reaching rows alive t m) x))

-- ---- reaching t

module _ (rows : List ℕ) (live alive n : ℕ) (below : alive < 2 ^ n) (same : (p : ℕ) → T (member alive p) ↔ Live rows live p) (t : ℕ) where
  -- x may send to z, from where t is reached in m messages
  pub record Onward (m x z : ℕ) : Type 0 where
    pub sends : Sends rows live x z
    pub reaches : T (member (reaching rows alive t m) z)

  reaching-alive : (m x : ℕ) → T (member (reaching rows alive t m) x) → T (member alive x)
  unfolding reaching
  reaching-alive zero x h = both_right (2 ^ t) alive x h
  reaching-alive (suc m) x h = both_right (senders rows (reaching rows alive t m)) alive x h

  reached : (m x z : ℕ) → Onward m x z → T (member (reaching rows alive t (suc m)) x)
  unfolding reaching
  reached m x z o =
      in_both (senders rows (reaching rows alive t m)) alive x
      (sender-in rows (reaching rows alive t m) x z o.sends.receiver.0 o.reaches o.sends.bit)
      ((same x).1 o.sends.sender)

  -- the one that is lowest
  abbrev pub onward : ℕ → ℕ → ℕ
  onward m x = lowest_next rows n (reaching rows alive t m) x

  abbrev leads : ℕ → ℕ → ℕ → Bool
  leads m x = is_next rows (reaching rows alive t m) x

  onward-le : (m x z : ℕ) → Onward m x z → onward m x ≤ z
  unfolding lowest_next is_next
  onward-le m x z o =
      lowest-le (leads m x) n 0 z (omega arith)
      (T_and (member (reaching rows alive t m) z) (member (get_or rows z 0) x) o.reaches o.sends.bit)
      (let h = member-lt n alive z below ((same z).1 o.sends.receiver) in omega arith)

  pub onward-on : (m x : ℕ) → T (member (reaching rows alive t (suc m)) x) → Onward m x (onward m x)
  unfolding reaching lowest_next is_next
  onward-on m x h =
      let r = senders-only rows (reaching rows alive t m) x (both_left (senders rows (reaching rows alive t m)) alive x h) in
      let lives = reaching-alive m r.to r.there in
      let from = (same x).0 (both_right (senders rows (reaching rows alive t m)) alive x h) in
      let o : Onward m x r.to =
      record { sends = record { sender = from; receiver = (same r.to).0 lives; bit = r.bit }; reaches = r.there } in
      let k = onward-le m x r.to o in
      let l = member-lt n alive r.to below lives in
      let p : T (leads m x (onward m x)) = lowest-passes (leads m x) n 0 (omega arith) in
      let q = T-fst (member (reaching rows alive t m) (onward m x)) (member (get_or rows (onward m x) 0) x) p in
      record {
        sends = record {
          sender = from;
          receiver = (same (onward m x)).0 (reaching-alive m (onward m x) q);
          bit = T-snd (member (reaching rows alive t m) (onward m x)) (member (get_or rows (onward m x) 0) x) p;
        };
        reaches = q;
      }

  reaches-itself : Live rows live t → T (member (reaching rows alive t 0) t)
  unfolding reaching
  reaches-itself l = in_both (2 ^ t) alive t (member-single t) ((same t).1 l)

  -- whoever has a walk to t reaches it
  pub walk-reaches : (x : ℕ) (xs : List ℕ) → Walk rows live x xs t → T (member (reaching rows alive t (suc (length xs))) x)
  walk-reaches x [] w = reached 0 x t (record { sends = w; reaches = reaches-itself w.receiver })
  walk-reaches x (y ∷ ys) w = reached (suc (length ys)) x y (record { sends = w.0; reaches = walk-reaches y ys w.1 })

  -- and whoever reaches it has a walk: the one that goes on to the lowest each time
  pub follow-walk : (m x : ℕ) → T (member (reaching rows alive t (suc m)) x) → Walk rows live x (follow rows alive n t m (onward m x)) t
  unfolding follow reaching
  follow-walk zero x h =
      let o = onward-on zero x h in
      subst (λ (z : ℕ). Sends rows live x z) (sym (member-single-only t (onward zero x) (both_left (2 ^ t) alive (onward zero x) o.reaches)))
      o.sends
  follow-walk (suc m) x h = let o = onward-on (suc m) x h in (o.sends, follow-walk m (onward (suc m) x) o.reaches)

  -- no walk of its length comes before it
  pub follow-first : (x : ℕ) (ys : List ℕ) → Walk rows live x ys t → NotAfter (follow rows alive n t (length ys) (onward (length ys) x)) ys
  unfolding follow
  follow-first x [] w = tt
  follow-first x (y ∷ ys) w = go (follow-first y ys w.1) (ℕ_discrete z y)
    where
      z : ℕ
      z = onward (suc (length ys)) x

      le : z ≤ y
      le = onward-le (suc (length ys)) x y (record { sends = w.0; reaches = walk-reaches y ys w.1 })

      go : NotAfter (follow rows alive n t (length ys) (onward (length ys) y)) ys → Dec (z ≡ y)
          → NotAfter (z ∷ follow rows alive n t (length ys) (onward (length ys) z)) (y ∷ ys)
      go r (yes e) = inr (e, subst (λ (k : ℕ). NotAfter (follow rows alive n t (length ys) (onward (length ys) k)) ys) (sym e) r)
      go r (no e) = inl (omega (arith, le))
