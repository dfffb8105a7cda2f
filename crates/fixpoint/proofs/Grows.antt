-- Laws of sound steps that are counted: none at all, one after another, the firing of a rule, the entry of a block.
use Prim.Native.Nat.{ℕ, ◌+◌, ◌*◌, ◌≤◌, ◌<◌}
use mathlib.Core.Path.{◌≡◌, sym, ◌∙◌, subst}
use mathlib.Core.Bool.{Bool, true, false, not}
use mathlib.Core.List.{List}
use native.Mathlib.Omega.{arith}
use lib.Dec.{T}
use borrow.Author.Count.{below_more}
use borrow.Author.Tests.{not-true, not-false}
use Rattle.table.specs.Code.{Code, code}
use Rattle.table.proofs.Linked.{linked}
use Rattle.calculus.specs.Constraint.{Sets, Rule, Obeys, B, C, put, ◌and◌}
use Rattle.calculus.specs.Elements.{opponent_record}
use Rattle.calculus.specs.Rules.{live, fill, guarded, entry, rule, Estimate}
use Rattle.calculus.specs.Layout.{sets, WellFormed, LiesIn}
use Rattle.calculus.specs.Estimate.{fire}
use Rattle.calculus.proofs.Slices.{◌≼◌}
use Rattle.calculus.proofs.Facts.{facts-same}
use Rattle.calculus.proofs.Least.{lies-adds}
use Rattle.calculus.proofs.Demands.{sets-mono}
use Rattle.calculus.proofs.Firing.{Fits, fire-adds, fire-well, fire-inside, fire-obeys}
use Rattle.calculus.proofs.Fitting.{rule_fits}
use Rattle.calculus.proofs.Folds.{fire-and, fire-only, fire-only-not}
use Rattle.rows.specs.declared.layout.Layout.{Layout}
use Rattle.rows.specs.Laid.{Sized}
use Rattle.rows.proofs.Laws.{facts-most}
use Rattle.clauses.specs.Asks.{row_at}
use Rattle.clauses.proofs.Sorts.{row-B, row-C}
use Rattle.checker.specs.Words.{Accepted}
use Rattle.firing.specs.Fired.{Fired, FiredFor, FiredIn}
use Rattle.fixpoint.specs.Grown.{Grown, Tried}

module _ {c : Code} {ρ : ℕ} where
  pub grown-none : {ws : List ℕ} → Grown c ρ ws ws 0
  grown-none = record { sound = record { well = λ w. w; kept = λ r v t. t; inside = λ w e o i. i }; count = omega arith }

  pub grown-then : {old mid new : List ℕ} {m n : ℕ} → Grown c ρ old mid m → Grown c ρ mid new n → Grown c ρ old new (m + n)
  grown-then g h =
      let s = g.sound in
      let t = h.sound in
      record {
        sound =
            record {
              well = λ w. t.well (s.well w);
              kept = λ r v x. t.kept r v (s.kept r v x);
              inside = λ w e o i. t.inside (s.well w) e o (s.inside w e o i);
            };
        count = omega (arith, g.count, h.count);
      }

  -- so few facts there are
  pub few : {l : Layout} {old new : List ℕ} {n : ℕ} → Sized l old → WellFormed c old → Grown c ρ old new n → n ≤ 2392064
  few {new = new} s w g = omega (arith, facts-most new, g.count, (g.sound.well w).long, w.long, s.short)

  -- where no fact was added, nothing was changed
  grown-same : {old new : List ℕ} {n : ℕ} → WellFormed c old → Grown c ρ old new n → n ≡ 0 → new ≡ old
  grown-same {old} {new} w g z =
      let v : WellFormed c new = g.sound.well w in
      sym (facts-same old new (w.long ∙ sym v.long) w.words v.words (lies-adds c old new w g.sound.kept) (omega (arith, g.count)))

  -- the firing of a rule that every estimate obeys
  pub fired : (k : Rule) {old new : List ℕ} {n : ℕ} → (WellFormed c old → WellFormed c (fire c k old))
      → (WellFormed c old → (e : Sets) → Estimate c ρ e → LiesIn c old e → LiesIn c (fire c k old) e) → Fired c k old new n
      → Tried c ρ (λ ws. fire c k ws ≡ ws) old new n
  fired k {old} {new} {n} v i f =
      let at : (P : List ℕ → Type 0) → P (fire c k old) → P new = λ P. subst P (sym f.words) in
      let g : Grown c ρ old new n =
      record {
        sound =
            record {
              well = λ w. at (WellFormed c) (v w);
              kept = sets-mono c old new (at (λ ws. old ≼ ws) (fire-adds c k old));
              inside = λ w e o x. at (λ ws. LiesIn c ws e) (i w e o x);
            };
        count = f.count;
      } in
      record { grown = g; nothing = λ w z. sym f.words ∙ grown-same w g z }

  pub tried_then : {P Q : List ℕ → Type 0} {old mid new : List ℕ} {m n : ℕ} → Tried c ρ P old mid m → Tried c ρ Q mid new n
      → Tried c ρ (λ ws. P ws × Q ws) old new (m + n)
  tried_then {P} {Q} t u =
      record {
        grown = grown-then t.grown u.grown;
        nothing =
            λ w z. (t.nothing w (omega arith), subst Q (grown-same w t.grown (omega arith)) (u.nothing (t.grown.sound.well w) (omega arith)));
      }

  pub tried-after : {P : List ℕ → Type 0} {old mid new : List ℕ} {m n : ℕ} → Tried c ρ P old mid m → Grown c ρ mid new n → Tried c ρ P old new (m + n)
  tried-after t g = record { grown = grown-then t.grown g; nothing = λ w z. t.nothing w (omega arith) }

  -- the first of several steps: nothing was done before it
  pub tried-first : (P : List ℕ → List ℕ → Type 0) {list first est old new : List ℕ} {m n : ℕ} → m ≡ 0 → est ≡ old → list ≡ first → Tried c ρ (P list) est new n
      → Tried c ρ (P first) old new (m + n)
  tried-first P {m = m} {n} z e o t = let k : m + n ≡ n = omega arith in rw (k, ← e, ← o) t

  pub tried-as : {P Q : List ℕ → Type 0} {old new : List ℕ} {n : ℕ} → (P old → Q old) → Tried c ρ P old new n → Tried c ρ Q old new n
  tried-as f t = record { grown = t.grown; nothing = λ w z. f (t.nothing w z) }

  -- one more of what is tried in turn
  pub tried-more : (P : ℕ → List ℕ → Type 0) (i : ℕ) {old mid new : List ℕ} {m n : ℕ} → Tried c ρ (λ ws. (j : ℕ) → j < i → P j ws) old mid m
      → Tried c ρ (P i) mid new n → Tried c ρ (λ ws. (j : ℕ) → j < i + 1 → P j ws) old new (m + n)
  tried-more P i {old} t u = tried-as (λ x. below_more (λ j. P j old) i x.0 x.1) (tried_then t u)

-- ---- the entry of a block

module _ {ws : List ℕ} {l : Layout} (k : Accepted ws l) (ρ p : ℕ) (h : p < l.size) where
  abbrev c : Code
  c = code ws

  in_code : p < c.size
  in_code = omega (arith, k.laid.size)

  entry-fits : Fits c (entry c ρ p)
  unfolding rule
  entry-fits = (rule_fits c (linked ws k.readable) p in_code ρ).0.0

  entered : {old new : List ℕ} {n : ℕ} → Fired c (entry c ρ p) old new n → Tried c ρ (λ est. fire c (entry c ρ p) est ≡ est) old new n
  unfolding rule
  entered {old} f =
      fired (entry c ρ p) (fire-well c (entry c ρ p) entry-fits old)
      (λ w e o. fire-inside c e (entry c ρ p) entry-fits (o p in_code).0.0 old w) f

  pub entry-obeyed : {est : List ℕ} → WellFormed c est → fire c (entry c ρ p) est ≡ est → Obeys (sets c est) (entry c ρ p)
  entry-obeyed {est} w e = fire-obeys c (entry c ρ p) entry-fits est w e

  -- as the code does it
  module _ {old : List ℕ} {x : Bool} (q : x ≡ guarded (c.node p) ρ) where
    pub not_entered : not x ≡ true → Tried c ρ (λ est. fire c (entry c ρ p) est ≡ est) old old 0
    unfolding entry
    not_entered n =
        entered record {
          words = sym (fire-only-not c (guarded (c.node p) ρ) (live p and fill c (B p) and put (C p) opponent_record) old (sym q ∙ not-true _ n));
          count = omega arith;
        }

    pub was-entered : not x ≡ false → {a b new : List ℕ} {m n o : ℕ} → WellFormed c old → FiredIn l (live p) old a m
        → FiredFor l (λ d. WellFormed d a) (λ d. fill d (row_at (2 * p + 1))) a b n → FiredIn l (put (row_at (2 * p)) 7) b new o
        → Tried c ρ (λ est. fire c (entry c ρ p) est ≡ est) old new (m + (n + o))
    unfolding entry
    was-entered y {a} w f g i =
        let z : guarded (c.node p) ρ ≡ true = sym q ∙ not-false _ y in
        let e : a ≡ fire c (live p) old = f.words c k.laid tt in
        let v : WellFormed c a = subst (WellFormed c) (sym e) (fire-well c (live p) (entry-fits (subst T (sym z) tt)).0 old w) in
        let b = rw row-B at (g.words c k.laid v) in
        let j = rw row-C at (i.words c k.laid tt) in
        entered record {
          words = cc (fire-only c _ (live p and fill c (B p) and put (C p) opponent_record) old z, fire-and c (live p) (fill c (B p) and put (C p) 7) old, fire-and c (fill c (B p)) (put (C p) 7) (fire c (live p) old));
          count = omega (arith, f.count, g.count, i.count);
        }
