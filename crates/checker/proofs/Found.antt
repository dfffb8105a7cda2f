-- The loop over the things of a value set: what it has found so far, and what that says of the rule for each of them.
use Prim.Native.Nat.{ℕ, zero, suc, ◌+◌, ◌-◌, ◌*◌, ◌/◌, ◌%◌, ◌≤◌, ◌<◌}
use mathlib.Core.Path.{◌≡◌, sym, ap, ap₂, ◌∙◌, subst}
use mathlib.Core.Bool.{Bool, true, false, not, ◌&&◌, ◌||◌, true≢false}
use mathlib.Core.List.{List}
use native.Mathlib.Decide.{dec_lt, ℕ_discrete}
use native.Mathlib.Omega.{arith}
use borrow.Author.Tests.{ne_eqb, not-true, not-false}
use lib.Dec.{T, leb, le→leb}
use lib.ListN.{get_or}
use Rattle.permset.specs.Sets.{member}
use Rattle.permset.proofs.Laws.{member-and}
use Rattle.table.specs.Code.{Code}
use Rattle.calculus.specs.Elements.{plain, elements, made, opponent_record, Making, is_function, is_record, is_cell, makes, making, any_record}
use Rattle.calculus.specs.Constraint.{C, Rule, Obeys}
use Rattle.calculus.specs.Rules.{each_made}
use Rattle.calculus.specs.Layout.{bit, sets, WellFormed}
use Rattle.calculus.proofs.Digits.{T_and, T-fst, T-snd, T_true}
use Rattle.calculus.proofs.Fitting.{body-lt}
use Rattle.calculus.proofs.Ranges.{below_in, in-below}
use Rattle.rows.specs.declared.layout.Layout.{Layout}
use Rattle.rows.specs.Laid.{LaidOut, Sized}
use Rattle.rows.specs.Mask.{made_as}
use Rattle.rows.proofs.Laws.{get_or-row}
use Rattle.clauses.specs.Asks.{sort_at, thing_at}
use Rattle.queries.specs.Passes.{Masked}
use Rattle.queries.specs.Things.{both, Next, Searched}
use Rattle.queries.proofs.Laws.{row_in, mask-in, has-is, C-sets}
use Rattle.checker.specs.declared.things.Action.{Action}
use Rattle.checker.specs.declared.things.Action.TheVariants as actions
use Rattle.checker.specs.Decides.{Checked, CheckedBy, MasksOf}
use Rattle.checker.specs.Things.{Suits}

pub suits : (a : Action) (m : ℕ) → Suits a m → (m < 3) × (a ≡ actions.Call → m ≡ 0)
suits actions.Call m h = (omega arith, λ e. h)
suits actions.Take m h = (h, λ e. absurd (let z : ◌≡◌ {A = ℕ} 0 1 = cc in omega arith))
suits actions.Hand m h = (h, λ e. absurd (let z : ◌≡◌ {A = ℕ} 0 1 = cc in omega arith))

-- ---- things by their digits

-- the element that a word makes is in the mask of the things that it makes
made-sort : (c : Code) (q : Making → Bool) (f : ℕ) → made_as c q (made c f) ≡ q (makes (c.node f))
unfolding making
made-sort c q f =
    let e : made c f - plain c ≡ f = omega arith in
    ap (λ (b : Bool). b && q (making c (made c f))) (T_true (leb (plain c) (made c f)) (le→leb (plain c) (made c f) (omega arith)))
    ∙ ap (λ (i : ℕ). q (makes (c.node i))) e

thing-sort : (c : Code) (m f : ℕ) → m < 3 → sort_at m c (made c f) ≡ thing_at m (makes (c.node f))
unfolding sort_at thing_at any_record
thing-sort c zero f h = made-sort c is_function f
thing-sort c (suc zero) f h =
    ap (λ (b : Bool). b || made_as c is_record (made c f)) (ne_eqb (made c f) opponent_record (λ z. omega arith)) ∙ made-sort c is_record f
thing-sort c (suc (suc zero)) f h = made-sort c is_cell f
thing-sort c (suc (suc (suc m))) f h = absurd (omega arith)

-- ---- the search in the value set of the first part of p, by the mask m

-- the thing f is in the value set and in the mask
abbrev here : Layout → (est masks : List ℕ) → (p m f : ℕ) → Bool
here l est masks p m f = both est masks l.lead (2 * (p + 1) * l.row) (m * l.row) f

abbrev Step : Layout → (est masks : List ℕ) → (p m i f : ℕ) → Type 0
Step l est masks p m i f = Next est masks l.lead (2 * (p + 1) * l.row) (m * l.row) l.size i f

-- f is the next thing or none, and what k asks for each thing before it holds
pub record Looked (l : Layout) (est masks : List ℕ) (p m : ℕ) (k : ℕ → Rule) (f : ℕ) : Type 0 where
  pub passed : (c : Code) → LaidOut c l → WellFormed c est → (g : ℕ) → g < f → here l est masks p m g ≡ true → Obeys (sets c est) (k g)
  pub found : f < l.size → here l est masks p m f ≡ true

module _ {l : Layout} {est masks : List ℕ} {p m : ℕ} {k : ℕ → Rule} where
  pub looked-start : {f : ℕ} → Step l est masks p m 0 f → Looked l est masks p m k f
  looked-start n = record { passed = λ c o w g h b. absurd (true≢false (sym b ∙ n.none g (omega arith) h)); found = n.found }

  pub looked-more : {f i : ℕ} {r : Bool} → Looked l est masks p m k f → Checked l est (λ c. k f) r → not r ≡ false → Step l est masks p m (f + 1) i → Looked l est masks p m k i
  looked-more {f} {i} {r} x d q n = record { passed = λ c o w g h b. go c o w g h b (dec_lt g f) (ℕ_discrete g f); found = n.found }
    where
      go : (c : Code) → LaidOut c l → WellFormed c est → (g : ℕ) → g < i → here l est masks p m g ≡ true → Dec (g < f) → Dec (g ≡ f) → Obeys (sets c est) (k g)
      go c o w g h b (yes j) e = x.passed c o w g j b
      go c o w g h b (no j) (yes e) = subst (λ (y : ℕ). Obeys (sets c est) (k y)) (sym e) ((d c o w).yes (subst T (sym (not-false r q)) tt))
      go c o w g h b (no j) (no e) = absurd (true≢false (sym b ∙ n.none g (omega arith) h))

module _ {l : Layout} {est masks : List ℕ} (p : ℕ) (s : Sized l est) (first : p + 1 < l.size) {m : ℕ} (hm : m < 3) where
  -- what the search asks
  pub may-search : MasksOf l masks → Searched l est masks (2 * (p + 1)) m
  may-search y =
      record {
        size = s.size;
        wide = s.wide;
        most = s.most;
        row = row_in s (2 * (p + 1)) (omega (arith, first));
        mask = mask-in _ l.row m y.masked.long (omega arith);
      }

  -- a digit of the row and of the mask
  here-is : (c : Code) → LaidOut c l → Masked c l masks → (f : ℕ) → f < l.size
      → here l est masks p m f ≡ sets c est (C (p + 1)) (made c f) && thing_at m (makes (c.node f))
  unfolding bit
  here-is c o k f h =
      let i : made c f / 32 ≡ l.lead + f / 32 = omega (arith, o.lead) in
      let j : made c f % 32 ≡ f % 32 = omega (arith, o.lead) in
      let g : made c f < elements c = omega (arith, o.size) in
      member-and (get_or est (2 * (p + 1) * l.row + (l.lead + f / 32)) 0) (get_or masks (m * l.row + (l.lead + f / 32)) 0) (f % 32)
      ∙ rw (← i, ← j)
      (ap₂ (λ (x y : Bool). x && y)
      (has-is c l o est (2 * (p + 1)) (made c f) (omega (arith, first)) g ∙ C-sets c est (p + 1) (made c f))
      (ap (λ (x : ℕ). member x (made c f % 32)) (sym (get_or-row masks (m * l.row) l.row (made c f / 32) (omega (arith, s.wide, o.lead))))
      ∙ (k.mask m (omega arith)).digits (made c f) g ∙ thing-sort c m f hm))

  -- the body of a function that is found
  pub body-in : MasksOf l masks → m ≡ 0 → (f : ℕ) → f < l.size → here l est masks p m f ≡ true → f + 1 < l.size
  unfolding thing_at
  body-in y z f h b =
      let c = y.code in
      let g = T-snd (sets c est (C (p + 1)) (made c f)) (thing_at m (makes (c.node f))) (subst T (sym b ∙ here-is c y.laid y.masked f h) tt) in
      omega (arith, body-lt c y.linked f (omega (arith, y.laid.size)) (subst (λ (n : ℕ). T (thing_at n (makes (c.node f)))) z g), y.laid.size)

  -- ---- what is asked for all things

  module _ {k : ℕ → Rule} {f : ℕ} (x : Looked l est masks p m k f) where
    pub all-passed : l.size ≤ f → CheckedBy l est masks (λ c. each_made c (thing_at m) (C (p + 1)) k) true
    all-passed h c j o w q =
        record {
          yes = λ u g i a b. let z : g < l.size = omega (arith, in-below i, o.size) in
              x.passed c o w g (omega arith) (here-is c o q g z ∙ T_true (sets c est (C (p + 1)) (made c g) && thing_at m (makes (c.node g))) (T_and (sets c est (C (p + 1)) (made c g)) (thing_at m (makes (c.node g))) b a));
          no = λ z. tt;
        }

    pub one-fails : {r : Bool} → f < l.size → Checked l est (λ c. k f) r → not r ≡ true → CheckedBy l est masks (λ c. each_made c (thing_at m) (C (p + 1)) k) false
    one-fails {r} h d n c j o w q =
        let u : T (sets c est (C (p + 1)) (made c f) && thing_at m (makes (c.node f))) = subst T (sym (x.found h) ∙ here-is c o q f h) tt in
        record {
          yes = λ z. absurd z;
          no = λ z. subst T (not-true r n) ((d c o w).no (z f (below_in (omega (arith, o.size))) (T-snd (sets c est (C (p + 1)) (made c f)) (thing_at m (makes (c.node f))) u)
              (T-fst (sets c est (C (p + 1)) (made c f)) (thing_at m (makes (c.node f))) u)));
        }
