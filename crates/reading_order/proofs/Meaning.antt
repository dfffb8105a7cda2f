-- The rows of digits say what `LiveAt` and `MaySend` say of the blocks; so there is an order of the live blocks exactly if there is no loop of them.
use Prim.Native.Nat.{ℕ, zero, suc, ◌<◌}
use mathlib.Core.Path.{◌≡◌, refl, sym, subst}
use mathlib.Core.Bool.{Bool}
use mathlib.Core.Logic.{◌↔◌}
use mathlib.Core.List.{List, [], ◌∷◌, map}
use native.Mathlib.Omega.{arith}
use borrow.Author.Tests.{lt-ltb}
use lib.Dec.{T, ltb}
use lib.ListN.{length, get_or, length-map}
use Rattle.permset.specs.Sets.{member}
use Rattle.permset.proofs.Digits.{T_and, T-snd}
use Rattle.table.specs.Code.{Code}
use Rattle.calculus.specs.Elements.{made}
use Rattle.calculus.specs.Constraint.{C, L}
use Rattle.calculus.specs.Layout.{sets}
use Rattle.graph.specs.Relation.{Live, Sends}
use Rattle.graph.specs.Order.{Order}
use Rattle.graph.specs.Loop.{Loop}
use Rattle.graph.proofs.Theorem.{order-or-loop}
use Rattle.reading_order.specs.Relation.{block_at, LiveAt, MaySend, places_with, senders_to, live_among, sender_rows, live_blocks}
use Rattle.reading_order.proofs.Places.{places-member}

-- a place of a list whose number passes
module _ (q : ℕ → Bool) (bs : List ℕ) (i : ℕ) where
  member-at : i < length bs → T (member (places_with q bs) i) → T (q (get_or bs i 0))
  member-at h m = T-snd (ltb i (length bs)) (q (get_or bs i 0)) (subst T (places-member q bs i) m)

  at-member : i < length bs → T (q (get_or bs i 0)) → T (member (places_with q bs) i)
  at-member h t = subst T (sym (places-member q bs i)) (T_and (ltb i (length bs)) (q (get_or bs i 0)) (subst T (sym (lt-ltb i (length bs) h)) tt) t)

row_at : (f : ℕ → ℕ) (bs : List ℕ) (t : ℕ) → t < length bs → get_or (map f bs) t 0 ≡ f (get_or bs t 0)
row_at f [] t h = absurd (omega arith)
row_at f (b ∷ bs) zero h = refl
row_at f (b ∷ bs) (suc t) h = row_at f bs t (omega arith)

module _ (c : Code) (est : List ℕ) where
  as_many : length (sender_rows c est) ≡ length c.blocks
  unfolding sender_rows
  as_many = length-map c.blocks (senders_to c est c.blocks)

  pub live-means : (p : ℕ) → Live (sender_rows c est) (live_blocks c est) p ↔ LiveAt c (sets c est) p
  unfolding live_blocks live_among
  live-means p = (
    λ l. let h = l.0 in let k : p < length c.blocks = omega (arith, as_many) in (k, member-at (λ b. sets c est (L b) 0) c.blocks p k l.1),
    λ l. let h = l.0 in (omega (arith, as_many), at-member (λ b. sets c est (L b) 0) c.blocks p h l.1),
  )

  row_is : (t : ℕ) → t < length c.blocks → get_or (sender_rows c est) t 0 ≡ places_with (λ s. sets c est (C (block_at c t)) (made c s)) c.blocks
  unfolding sender_rows senders_to
  row_is t h = row_at (senders_to c est c.blocks) c.blocks t h

  pub sends-means : (s t : ℕ) → Sends (sender_rows c est) (live_blocks c est) s t ↔ MaySend c (sets c est) s t
  sends-means s t = (
    λ m. let from = (live-means s).0 m.sender in let to = (live-means t).0 m.receiver in
        record {
          sender = from;
          receiver = to;
          element =
              member-at (λ x. sets c est (C (block_at c t)) (made c x)) c.blocks s from.0
              (subst (λ (r : ℕ). T (member r s)) (row_is t to.0) m.bit);
        },
    λ m. record {
      sender = (live-means s).1 m.sender;
      receiver = (live-means t).1 m.receiver;
      bit =
          subst (λ (r : ℕ). T (member r s)) (sym (row_is t m.receiver.0))
          (at-member (λ x. sets c est (C (block_at c t)) (made c x)) c.blocks s m.sender.0 m.element);
    },
  )

  pub order-exactly : ((order : List ℕ) × Order (sender_rows c est) (live_blocks c est) order)
      ↔ ((loop : List ℕ) → Loop (sender_rows c est) (live_blocks c est) loop → ⊥)
  order-exactly = order-or-loop (sender_rows c est) (live_blocks c est)
