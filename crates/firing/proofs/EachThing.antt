-- The loop over the things of a value set: what is left to do at the thing f is the rule at each number from f on.
use Prim.Native.Nat.{ℕ, zero, suc, ◌+◌, ◌-◌, ◌*◌, ◌/◌, ◌%◌, ◌≤◌, ◌<◌}
use mathlib.Core.Path.{◌≡◌, refl, sym, ap, ap₂, ◌∙◌}
use mathlib.Core.Bool.{Bool, true, false, ◌&&◌, false≢true}
use mathlib.Core.List.{List}
use native.Mathlib.Decide.{dec_lt}
use native.Mathlib.Omega.{arith}
use lib.ListN.{length, get_or, drop}
use lib.Seq.{get_or-take, get_or-drop}
use borrow.Author.Tests.{le-leb, ne_eqb}
use Rattle.permset.specs.Sets.{member}
use Rattle.permset.proofs.Laws.{member-and}
use Rattle.table.specs.Code.{Code, Linked}
use Rattle.calculus.specs.Elements.{plain, made, Making, makes, making, is_function, is_record, is_cell, any_record}
use Rattle.calculus.specs.Constraint.{C, Rule, each, every, range}
use Rattle.calculus.specs.Layout.{bit, base, row_words, sets}
use Rattle.calculus.specs.Estimate.{fire}
use Rattle.calculus.proofs.Folds.{fire-only-not, loop-start, loop-step, loop-skip, loop-end}
use Rattle.calculus.proofs.Masks.{T_false}
use Rattle.calculus.proofs.RowOperations.{sets-C}
use Rattle.rows.specs.declared.layout.Layout.{Layout}
use Rattle.rows.specs.Laid.{LaidOut, Sized}
use Rattle.rows.specs.Mask.{made_as}
use Rattle.clauses.specs.declared.What.{What}
use Rattle.clauses.specs.declared.Effect.{Effect}
use Rattle.clauses.specs.Asks.{sort_at, thing_at, for_thing, at_thing}
use Rattle.clauses.proofs.Asked.{gap-thing}
use Rattle.queries.specs.Passes.{Masked}
use Rattle.queries.specs.Things.{both, Next, Searched}
use Rattle.queries.proofs.Laws.{row_in, mask-in}
use Rattle.firing.specs.Placed.{Placed, Each}
use Rattle.firing.proofs.Effects.{when}

-- ---- two tests

both-second : (x y : Bool) → x && y ≡ true → y ≡ true
both-second true y e = e
both-second false y e = absurd (false≢true e)

tests-both : (x y : Bool) (p q : List ℕ) → when y (when x p q) q ≡ when (x && y) p q
tests-both true y p q = refl
tests-both false true p q = refl
tests-both false false p q = refl

-- ---- the things of a mask

module _ (c : Code) where
  sort-made : (m : Making → Bool) (f : ℕ) → made_as c m (made c f) ≡ m (makes (c.node f))
  unfolding making
  sort-made m f = let e : made c f - plain c ≡ f = omega arith in rw (le-leb (plain c) (made c f) (omega arith), e)

  sort-thing : (z f : ℕ) → z < 3 → sort_at z c (made c f) ≡ thing_at z (makes (c.node f))
  unfolding sort_at thing_at any_record
  sort-thing zero f h = sort-made is_function f
  sort-thing (suc zero) f h = rw (ne_eqb (made c f) 7 (λ e. omega arith)) (sort-made is_record f)
  sort-thing (suc (suc zero)) f h = sort-made is_cell f
  sort-thing (suc (suc (suc n))) f h = absurd (omega arith)

-- the mask z has the digit of each thing of its sort
pub in-mask : {l : Layout} {masks : List ℕ} (z : ℕ) → z < 3 → {c : Code} → LaidOut c l → Masked c l masks → (f : ℕ) → f < c.size
    → thing_at z (makes (c.node f)) ≡ member (get_or masks (z * l.row + (l.lead + f / 32)) 0) (f % 32)
unfolding bit row_words
in-mask {l} {masks} z hz {c} o m f h =
    let d : made c f / 32 ≡ l.lead + f / 32 = omega (arith, o.lead) in
    let r : made c f % 32 ≡ f % 32 = omega (arith, o.lead) in
    let i : l.lead + f / 32 < l.row = omega (arith, o.lead, o.row) in
    sym (sort-thing c z f hz)
    ∙ sym ((m.mask z (omega arith)).digits (made c f) (omega arith))
    ∙ rw (d, r, get_or-take l.row (drop (z * l.row) masks) (l.lead + f / 32) 0 i, get_or-drop (z * l.row) masks (l.lead + f / 32) 0)

-- past the table there is no thing
pub past-table : {c : Code} → Linked c → (w : What) (x y z f : ℕ) → c.size ≤ f → (est : List ℕ) → fire c (at_thing c w x y z f) est ≡ est
past-table {c} k w x y z f h est = fire-only-not c _ _ est (T_false (thing_at z (makes (c.node f))) (gap-thing c k (λ r v. true) z f h))

-- ---- what the search is handed, and what is done for a thing

pub sized-again : {l : Layout} {old new : List ℕ} → Sized l old → length new ≡ length old → Sized l new
sized-again s e = omega arith

module _ {l : Layout} {masks : List ℕ} {e : Effect} (i : Each l masks e) where
  abbrev at : ℕ
  at = 2 * (e.x + 1) * l.row

  abbrev to : ℕ
  to = e.z * l.row

  pub searched : {est : List ℕ} → Sized l est → Searched l est masks (2 * (e.x + 1)) e.z
  searched s = omega (arith, row_in s (2 * (e.x + 1)) (omega (arith, i.word)), mask-in (length masks) l.row e.z i.long (omega (arith, i.mask)))

  -- a thing that is in the row and in the mask is in the mask
  pub placed : (est : List ℕ) (f : ℕ) → f < l.size → both est masks l.lead at to f ≡ true → Placed l e.what e.x e.y f
  placed est f h u =
      record {
        word = omega (arith, i.word);
        row = i.row;
        thing = h;
        body = λ b. i.bodies b f h (both-second (member (get_or est (at + (l.lead + f / 32)) 0) (f % 32)) _ (sym (member-and _ _ (f % 32)) ∙ u));
      }

  -- ---- one thing after another

  module _ {c : Code} (o : LaidOut c l) (m : Masked c l masks) where
    abbrev one : ℕ → Rule
    one = at_thing c e.what e.x e.y e.z

    abbrev from : ℕ → Rule
    from f = each (range (c.size - f) f) one

    module _ (est : List ℕ) where
      in_row : (f : ℕ) → f < c.size → sets c est (C (e.x + 1)) (made c f) ≡ member (get_or est (at + (l.lead + f / 32)) 0) (f % 32)
      unfolding base
      in_row f h =
          let d : made c f / 32 ≡ l.lead + f / 32 = omega (arith, o.lead) in
          let r : made c f % 32 ≡ f % 32 = omega (arith, o.lead) in
          sets-C c (e.x + 1) (made c f) est (omega (arith, o.size, i.word)) (omega arith) ∙ rw (d, r, o.row)

      both_is : (f : ℕ) → f < c.size → both est masks l.lead at to f ≡ sets c est (C (e.x + 1)) (made c f) && thing_at e.z (makes (c.node f))
      both_is f h = member-and _ _ (f % 32) ∙ ap₂ (λ (s t : Bool). s && t) (sym (in_row f h)) (sym (in-mask e.z i.mask o m f h))

      pub thing-fired : (f : ℕ) (b : Bool) → f < c.size → both est masks l.lead at to f ≡ b
          → fire c (one f) est ≡ when b (fire c (for_thing e.what e.x e.y f) est) est
      unfolding fire
      thing-fired f b h u =
          tests-both (sets c est (C (e.x + 1)) (made c f)) (thing_at e.z (makes (c.node f))) (fire c (for_thing e.what e.x e.y f) est) est
          ∙ ap (λ (t : Bool). when t (fire c (for_thing e.what e.x e.y f) est) est) (sym (both_is f h) ∙ u)

      -- on to the next thing
      skip-to : (j f : ℕ) → Next est masks l.lead at to l.size j f → fire c (from j) est ≡ fire c (from f) est
      skip-to j f n = go (dec_lt c.size f) (dec_lt c.size j)
        where
          passed : (t : ℕ) → t ≤ f → t ≤ c.size → (g : ℕ) → j ≤ g → g < t → fire c (one g) est ≡ est
          passed t u v g h k = thing-fired g false (omega arith) (n.none g h (omega arith))

          go : Dec (c.size < f) → Dec (c.size < j) → fire c (from j) est ≡ fire c (from f) est
          go (no u) v = loop-skip c one c.size j f est n.later (omega arith) (passed f (omega arith) (omega arith))
          go (yes u) (yes v) = loop-end c one c.size j est (omega arith) ∙ sym (loop-end c one c.size f est (omega arith))
          go (yes u) (no v) =
              loop-skip c one c.size j c.size est (omega arith) (omega arith) (passed c.size (omega arith) (omega arith))
              ∙ loop-end c one c.size c.size est (omega arith) ∙ sym (loop-end c one c.size f est (omega arith))

      pub made-start : (f : ℕ) → Next est masks l.lead at to l.size 0 f → fire c (from f) est ≡ fire c (every c.size one) est
      made-start f n = sym (skip-to 0 f n) ∙ loop-start c one c.size est

      pub made-end : (f : ℕ) → l.size ≤ f → fire c (from f) est ≡ est
      made-end f h = loop-end c one c.size f est (omega (arith, o.size))

    pub made-step : (est new : List ℕ) (f g : ℕ) → f < l.size → both est masks l.lead at to f ≡ true
        → new ≡ fire c (for_thing e.what e.x e.y f) est → Next new masks l.lead at to l.size (f + 1) g → fire c (from g) new ≡ fire c (from f) est
    made-step est new f g h u v n =
        sym (skip-to new (f + 1) g n)
        ∙ ap (fire c (from (f + 1))) (v ∙ sym (thing-fired est f true (omega (arith, o.size)) u))
        ∙ sym (loop-step c one c.size f est (omega (arith, o.size)))

-- what is left at the thing f gives what the effect asks from the start
abbrev pub Left : Layout → (masks : List ℕ) → What → (x y z : ℕ) → (start est : List ℕ) → ℕ → Type 0
Left l masks w x y z start est f =
    (c : Code) → LaidOut c l → Masked c l masks
    → fire c (each (range (c.size - f) f) (at_thing c w x y z)) est ≡ fire c (every c.size (at_thing c w x y z)) start
