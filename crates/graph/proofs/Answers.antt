-- What is answered, and that it means what it says.
use Prim.Native.Nat.{ℕ, ◌%◌, ◌^◌, ◌≤◌, ◌<◌}
use mathlib.Core.Path.{◌≡◌, refl, sym, ap, ap₂, ◌∙◌, subst}
use mathlib.Core.Bool.{Bool, true, false}
use mathlib.Core.Logic.{◌↔◌}
use mathlib.Core.List.{List}
use native.Mathlib.Nat.{mod-lt, le_trans}
use native.Mathlib.Omega.{arith}
use lib.Dec.{T, leb}
use lib.ListN.{length, take, drop}
use lib.Pow.{pow_pos, pow_mono}
use lib.Seq.{take_at}
use borrow.Author.Tests.{lt-ltb, le-ltb, le-leb, lt-leb}
use Rattle.std.specs.Prelude.{Option, Some, None}
use Rattle.permset.specs.Sets.{member}
use Rattle.permset.proofs.Digits.{member-lt}
use Rattle.graph.specs.declared.Arrangement.{Arrangement}
use Rattle.graph.specs.declared.Arrangement.TheVariants.{Ordered, Looped}
use Rattle.graph.specs.Relation.{Live}
use Rattle.graph.specs.Order.{Order}
use Rattle.graph.specs.Loop.{Shortest}
use Rattle.graph.specs.Search.{order_from, loop_start, loop_length, follow, loop_of}
use Rattle.graph.specs.Answer.{places, alive, answer, written, starting_with, Means}
use Rattle.graph.proofs.Shortest.{found-start, found-shortest}
use Rattle.graph.proofs.Orders.{found-order}
use Rattle.graph.proofs.Theorem.{low-live}
use Rattle.graph.proofs.Walks.{follow-length}

module _ (rows : List ℕ) (live : ℕ) where
  abbrev n : ℕ
  n = places rows

  abbrev a : ℕ
  a = alive rows live

  abbrev order : List ℕ
  order = order_from rows n n a

  abbrev m : ℕ
  m = loop_length rows a n

  -- the answer by its tests
  abbrev pick : Bool → Bool → Option Arrangement
  pick s l = elim s [ true ↦ None | false ↦ elim l [ true ↦ Some (Looped m) | false ↦ Some (Ordered (length order)) ] ]

  pub answer-short : (room : ℕ) → room < n → answer rows live room ≡ None
  unfolding answer
  answer-short room h = ap (λ (s : Bool). pick s (leb m n)) (lt-ltb room n h)

  pub answer-order : (room : ℕ) → n ≤ room → n < m → answer rows live room ≡ Some (Ordered (length order))
  unfolding answer
  answer-order room h l = ap (λ (s : Bool). pick s (leb m n)) (le-ltb room n h) ∙ ap (pick false) (lt-leb m n l)

  pub answer-loop : (room : ℕ) → n ≤ room → m ≤ n → answer rows live room ≡ Some (Looped m)
  unfolding answer
  answer-loop room h l = ap (λ (s : Bool). pick s (leb m n)) (le-ltb room n h) ∙ ap (pick false) (le-leb m n l)

  -- ---- the live positions of a set of 64

  below : a < 2 ^ n
  below = mod-lt live (pow_pos n)

  pub alive-below : a < 2 ^ length rows
  alive-below = le_trans below (pow_mono (omega arith))

  module _ (fits : live < 2 ^ 64) where
    same : (p : ℕ) → T (member a p) ↔ Live rows live p
    same = low-live rows live n (omega arith) (λ p l. let h = l.0 in let k = member-lt 64 live p fits l.1 in omega arith)

-- ---- a call, by the numbers that its code has

-- what the contract says
abbrev pub Answered : (rows : List ℕ) (live : ℕ) (old new : List ℕ) → Option Arrangement → Type 0
Answered rows live old new r =
    (r ≡ answer rows live (length old)) × ((new ≡ starting_with (written rows live r) old) × Means rows live r new)

-- a list that starts with another
starts_with : (new all old : List ℕ) (count : ℕ) → length all ≡ count → new ≡ starting_with all old → take count new ≡ all
starts_with new all old count e w = ap (take count) w ∙ take_at all (drop (length all) old) count e

module _ (rows : List ℕ) (live n a m : ℕ) (old : List ℕ) (e-n : n ≡ places rows) (e-a : a ≡ live % 2 ^ n) (e-m : m ≡ loop_length rows a n) where
  a-is : a ≡ alive rows live
  a-is = e-a ∙ ap (λ (k : ℕ). live % 2 ^ k) e-n

  m-is : m ≡ loop_length rows (alive rows live) (places rows)
  m-is = e-m ∙ ap₂ (loop_length rows) a-is e-n

  pub short : length old < n → Answered rows live old old None
  unfolding written
  short h = (sym (answer-short rows live (length old) (omega (arith, e-n))), (refl, tt))

  pub a-below : a < 2 ^ length rows
  a-below = subst (λ (s : ℕ). s < 2 ^ length rows) (sym a-is) (alive-below rows live)

  module _ (fits : live < 2 ^ 64) (room : n ≤ length old) where
    pub ordered : (count : ℕ) (new : List ℕ) → n < m → count ≡ length (order_from rows n n a) → new ≡ starting_with (order_from rows n n a) old
        → Answered rows live old new (Some (Ordered count))
    unfolding written
    ordered count new l e w =
        let none : places rows < loop_length rows (alive rows live) (places rows) = omega (arith, e-n, m-is) in
        let size = e ∙ ap₂ (λ (k s : ℕ). length (order_from rows k k s)) e-n a-is in
        let content = w ∙ ap₂ (λ (k s : ℕ). starting_with (order_from rows k k s) old) e-n a-is in (
          ap (λ (k : ℕ). Some (Ordered k)) size ∙ sym (answer-order rows live (length old) (omega (arith, e-n)) none),
          (
            content,
            subst (Order rows live) (sym (starts_with new _ old count (sym size) content))
                (found-order rows live (alive rows live) (places rows) (below rows live) (same rows live fits) none),
          ),
        )

    module _ (l : m ≤ n) where
      some : loop_length rows (alive rows live) (places rows) ≤ places rows
      some = omega (arith, e-n, m-is)

      pub start-inside : loop_start rows a n m < n
      start-inside =
          let e =
          ap (loop_start rows a n) m-is ∙ ap₂ (λ (s k : ℕ). loop_start rows s k (loop_length rows (alive rows live) (places rows))) a-is e-n in
          omega (arith, e, e-n, found-start rows live (alive rows live) (places rows) (below rows live) (same rows live fits) some)

      pub looped : (t : ℕ) (new : List ℕ) → t ≡ loop_start rows a n m → new ≡ starting_with (follow rows a n t m t) old
          → Answered rows live old new (Some (Looped m))
      unfolding written loop_of
      looped t new e w =
          let content =
          w ∙ ap (λ (x : ℕ). starting_with (follow rows a n x m x) old) e ∙ ap₂ (λ (s k : ℕ). starting_with (loop_of rows s k m) old) a-is e-n in
          let found =
          starts_with new (loop_of rows (alive rows live) (places rows) m) old m
          (follow-length rows (alive rows live) (places rows) (loop_start rows (alive rows live) (places rows) m) m
          (loop_start rows (alive rows live) (places rows) m)) content
          ∙ ap (loop_of rows (alive rows live) (places rows)) m-is in (
            ap (λ (k : ℕ). Some (Looped k)) m-is ∙ sym (answer-loop rows live (length old) (omega (arith, e-n)) some),
            (
              content,
              subst (Shortest rows live) (sym found)
                  (found-shortest rows live (alive rows live) (places rows) (below rows live) (same rows live fits) some),
            ),
          )
