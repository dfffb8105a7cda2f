-- The item of a word, by its kind.
use mathlib.Core.Path.{◌≡◌}
use mathlib.Core.List.{List}
use mathlib.Core.Logic.{◌≢◌}
use Prim.Native.Nat.{ℕ, ◌<◌, ◌≤◌}
use native.Mathlib.Omega.{arith}
use lib.ListN.{length, get_or, get_or-eq_default}
use borrow.Author.Tests.{eq-eqb, ne_eqb, lt-ltb, le-ltb}
use Rattle.table.specs.declared.Item.TheVariants as items
use Rattle.table.specs.Words.{kind, term_of}
use Rattle.table.specs.Item.{handler_at, item_at}

module _ (ws : List ℕ) (p : ℕ) where
  pub item-block : kind (get_or ws p 0) ≡ 2 → item_at ws p ≡ items.Block (handler_at ws p)
  unfolding item_at
  item-block k = rw (eq-eqb (kind (get_or ws p 0)) 2 k, item_at)

  pub item-gap : kind (get_or ws p 0) ≢ 2 → kind (get_or ws p 0) < 16 → item_at ws p ≡ items.Gap
  unfolding item_at
  item-gap k h = rw (ne_eqb (kind (get_or ws p 0)) 2 k, lt-ltb (kind (get_or ws p 0)) 16 h, item_at)

  pub item-term : 16 ≤ kind (get_or ws p 0) → item_at ws p ≡ items.Term (term_of (get_or ws p 0))
  unfolding item_at
  item-term h =
      rw (ne_eqb (kind (get_or ws p 0)) 2 (λ z. let c : ⊥ = omega arith in c), le-ltb (kind (get_or ws p 0)) 16 h, item_at)

  -- past the end
  pub item-past : length ws ≤ p → item_at ws p ≡ items.Gap
  item-past l =
      let e : get_or ws p 0 ≡ 0 = get_or-eq_default ws 0 l in
      item-gap (λ k. omega arith) (omega arith)
