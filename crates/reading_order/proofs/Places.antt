-- Sets of places in a list, made from its last number to its first, and their members.
use Prim.Native.Nat.{ℕ, zero, suc, ◌+◌, ◌-◌, ◌*◌, ◌/◌, ◌%◌, ◌^◌, ◌≤◌, ◌<◌}
use mathlib.Core.Path.{◌≡◌, sym, ap, ap₂, ◌∙◌, subst}
use mathlib.Core.Bool.{Bool, true, false, ◌&&◌}
use mathlib.Core.List.{List, [], ◌∷◌}
use native.Mathlib.Nat.{pow-suc, le_trans}
use native.Mathlib.Decide.{dec_lt}
use native.Mathlib.Omega.{arith}
use borrow.Author.Tests.{lt-ltb, le-ltb}
use lib.Dec.{eqb, ltb}
use lib.ListN.{length, get_or, drop, drop_of_length-le}
use lib.Pow.{pow_pos, pow_mono}
use lib.Seq.{drop-cons}
use Rattle.permset.specs.Sets.{member}
use Rattle.permset.proofs.Laws.{member-empty, member-zero, member-suc}
use Rattle.table.specs.Code.{Code}
use Rattle.rows.specs.declared.layout.Layout.{Layout}
use Rattle.rows.specs.Laid.{LaidOut}
use Rattle.reading_order.specs.Relation.{digit, places_with}

pub digit-is : (x y : Bool) → x ≡ y → digit x ≡ digit y
digit-is x y e = ap digit e

digit-le : (x : Bool) → digit x ≤ 1
unfolding digit
digit-le true = omega arith
digit-le false = omega arith

shifted-small : (n s : ℕ) (x : Bool) → s < 2 ^ n → digit x + 2 * s < 2 ^ suc n
shifted-small n s x h = omega (arith, pow-suc 2 n, digit-le x)

-- ---- a loop from the last number of a list to its first

-- the numbers from i on are looked at, whatever code has the layout l
pub record Collected (l : Layout) (q : Code → ℕ → Bool) (bs : List ℕ) (set i : ℕ) : Type 0 where
  pub inside : i ≤ length bs
  pub small : set < 2 ^ (length bs - i)
  pub content : (c : Code) → LaidOut c l → set ≡ places_with (q c) (drop i bs)

module _ (l : Layout) (q : Code → ℕ → Bool) (bs : List ℕ) where
  pub collected-start : Collected l q bs 0 (length bs)
  unfolding places_with
  collected-start =
      record {
        inside = omega arith;
        small = pow_pos (length bs - length bs);
        content = λ c o. sym (ap (places_with (q c)) (drop_of_length-le bs {i = length bs} (omega arith)));
      }

  module _ (set i : ℕ) (d : Collected l q bs set i) where
    pub collected-end : i ≤ 0 → (c : Code) → LaidOut c l → set ≡ places_with (q c) bs
    collected-end z c o =
        let e : i ≡ 0 = omega arith in
        d.content c o ∙ ap (λ (k : ℕ). places_with (q c) (drop k bs)) e

    module _ (some : 0 < i) where
      pub collected-room : length bs ≤ 64 → set < 2 ^ 63
      collected-room few = le_trans d.small (pow_mono {i = length bs - i} {j = 63} (omega arith))

      pub collected-step : (x : Bool) → ((c : Code) → LaidOut c l → x ≡ q c (get_or bs (i - 1) 0)) → (new : ℕ) → new ≡ digit x + 2 * set
          → Collected l q bs new (i - 1)
      unfolding places_with
      collected-step x f new e =
          let last : suc (i - 1) ≡ i = omega arith in
          let more : suc (length bs - i) ≡ length bs - (i - 1) = omega (arith, d.inside) in
          record {
            inside = omega (arith, d.inside);
            small = subst (λ (k : ℕ). new < 2 ^ k) more (rw e (shifted-small (length bs - i) set x d.small));
            content =
                λ c o. e
                ∙ ap₂ (λ (y : Bool) (s : ℕ). digit y + 2 * s) (f c o) (d.content c o ∙ ap (λ (k : ℕ). places_with (q c) (drop k bs)) (sym last))
                ∙ ap (places_with (q c)) (sym (drop-cons bs (i - 1) 0 (omega (arith, d.inside))));
          }

-- ---- members

halved : (x : Bool) (s : ℕ) → ((digit x + 2 * s) / 2 ≡ s) × (eqb ((digit x + 2 * s) % 2) 1 ≡ x)
unfolding digit
halved true s = (omega arith, ap (λ (k : ℕ). eqb k 1) (let e : (1 + 2 * s) % 2 ≡ 1 = omega arith in e))
halved false s = (omega arith, ap (λ (k : ℕ). eqb k 1) (let e : (0 + 2 * s) % 2 ≡ 0 = omega arith in e))

ltb-suc : (i n : ℕ) → ltb (suc i) (suc n) ≡ ltb i n
ltb-suc i n = go (dec_lt i n)
  where
    go : Dec (i < n) → ltb (suc i) (suc n) ≡ ltb i n
    go (yes h) = lt-ltb (suc i) (suc n) (omega arith) ∙ sym (lt-ltb i n h)
    go (no h) = le-ltb (suc i) (suc n) (omega arith) ∙ sym (le-ltb i n (omega arith))

pub places-member : (q : ℕ → Bool) (bs : List ℕ) (i : ℕ) → member (places_with q bs) i ≡ (ltb i (length bs) && q (get_or bs i 0))
unfolding places_with
places-member q [] i = member-empty i ∙ sym (ap (λ (b : Bool). b && q 0) (le-ltb i 0 (omega arith)))
places-member q (b ∷ bs) zero =
    member-zero (digit (q b) + 2 * places_with q bs) ∙ (halved (q b) (places_with q bs)).1
    ∙ sym (ap (λ (x : Bool). x && q b) (lt-ltb 0 (suc (length bs)) (omega arith)))
places-member q (b ∷ bs) (suc i) =
    member-suc (digit (q b) + 2 * places_with q bs) i
    ∙ ap (λ (s : ℕ). member s i) (halved (q b) (places_with q bs)).0
    ∙ places-member q bs i
    ∙ ap (λ (x : Bool). x && q (get_or bs i 0)) (sym (ltb-suc i (length bs)))
