-- The passes that make the links, a step at a time, for the loops that take these steps.
-- Assumes nothing.
use mathlib.Core.Path.{◌≡◌, refl}
use mathlib.Core.Bool.{false}
use mathlib.Core.List.{List}
use Prim.Native.Nat.{ℕ, zero, suc, ◌+◌, ◌-◌, ◌<◌, ◌≤◌}
use native.Mathlib.Nat.{not-suc-le-zero}
use native.Mathlib.Numerals.{add-one, sub-one}
use native.Mathlib.Omega.{arith}
use lib.ListN.{length, get_or, set, drop, drop_of_length-le}
use lib.Seq.{drop-cons}
use Rattle.table.specs.Words.{parts, arity}
use Rattle.table.specs.Links.{pack, link_at, hops, ends, with_binder, with_home, innermost, bind_parts, block_at, bind_word, binders}

pub ends_more : (ws l : List ℕ) (n : ℕ) → 0 < n
    → ends ws n l ≡ ends ws (n - 1) (set l (n - 1) (pack (record { end = hops l (arity (get_or ws (n - 1) 0)) n; binder = 0; home = 0 })))
unfolding ends
ends_more ws l zero h = absurd (not-suc-le-zero h)
ends_more ws l (suc n) h = rw sub-one

pub ends_done : (ws l : List ℕ) (n : ℕ) → n ≤ 0 → ends ws n l ≡ l
unfolding ends
ends_done ws l zero h = refl
ends_done ws l (suc n) h = absurd (not-suc-le-zero h)

module _ (l : List ℕ) (p b w i q : ℕ) where
  pub parts_more : i < arity w
      → bind_parts l p b (drop i (parts w)) q
      ≡ bind_parts (with_binder l q (innermost (get_or (parts w) i false) p b)) p b (drop (i + 1) (parts w)) (link_at l q).end
  unfolding arity bind_parts
  parts_more h = rw (add-one, drop-cons (parts w) i false)

  pub parts_done : arity w ≤ i → bind_parts l p b (drop i (parts w)) q ≡ l
  unfolding arity bind_parts
  parts_done h = rw (drop_of_length-le (parts w) h)

module _ (ws l : List ℕ) (p h : ℕ) where
  pub binders_more : p < length ws
      → binders ws (length ws - p) p h l
      ≡ binders ws (length ws - (p + 1)) (p + 1) (block_at (get_or ws p 0) p h) (with_home (bind_word (get_or ws p 0) p l) p (block_at (get_or ws p 0) p h))
  unfolding binders
  binders_more i = let e : length ws - p ≡ suc (length ws - (p + 1)) = omega arith in rw (e, add-one)

  pub binders_done : length ws ≤ p → binders ws (length ws - p) p h l ≡ l
  unfolding binders
  binders_done i = let e : length ws - p ≡ 0 = omega arith in rw e
