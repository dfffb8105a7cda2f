-- Effects and guards of a clause, as the firing of what it asks.
use Prim.Native.Nat.{ℕ, zero, suc}
use mathlib.Core.Path.{◌≡◌, refl, ◌∙◌}
use mathlib.Core.Bool.{Bool, true, false, ◌&&◌}
use mathlib.Core.List.{List}
use Rattle.table.specs.Code.{Code}
use Rattle.calculus.specs.Elements.{is_string}
use Rattle.calculus.specs.Constraint.{C, Rule, each, every}
use Rattle.calculus.specs.Layout.{sets}
use Rattle.calculus.specs.Estimate.{fire, found}
use Rattle.rows.specs.declared.layout.Layout.{Layout}
use Rattle.rows.specs.Laid.{LaidOut}
use Rattle.clauses.specs.declared.Test.{Test}
use Rattle.clauses.specs.declared.Test.TheVariants as tests
use Rattle.clauses.specs.declared.Effect.{Effect}
use Rattle.clauses.specs.declared.Clause.{Clause}
use Rattle.clauses.specs.Asks.{sort_at, under, at_thing, at_block, things, blocks, effect, asks}
use Rattle.queries.specs.Passes.{passes}
use Rattle.firing.specs.Fired.{Fired, FiredFor}

-- ---- all targets, or one

module _ (c : Code) (e : Effect) where
  pub all-things : (f : ℕ) (est : List ℕ) → f ≡ 0
      → fire c (every c.size (at_thing c e.what e.x e.y e.z)) est ≡ fire c (things c e.what e.x e.y e.z f) est
  unfolding things
  all-things f est z = rw z

  pub one-thing : (f : ℕ) (est : List ℕ) → (f ≡ 0 → ⊥)
      → fire c (at_thing c e.what e.x e.y e.z f) est ≡ fire c (things c e.what e.x e.y e.z f) est
  unfolding things
  one-thing zero est n = absurd (n refl)
  one-thing (suc f) est n = refl

  pub all_blocks : (f : ℕ) (est : List ℕ) → f ≡ 0
      → fire c (each c.blocks (at_block c e.x e.y e.z)) est ≡ fire c (blocks c e.x e.y e.z f) est
  unfolding blocks
  all_blocks f est z = rw z

  pub one_block : (f : ℕ) (est : List ℕ) → (f ≡ 0 → ⊥) → fire c (at_block c e.x e.y e.z f) est ≡ fire c (blocks c e.x e.y e.z f) est
  unfolding blocks
  one_block zero est n = absurd (n refl)
  one_block (suc f) est n = refl

-- for one code
pub for-code : {l : Layout} {h : Code → Type 0} {k : Code → Rule} {old new : List ℕ} {n : ℕ} {c : Code} → FiredFor l h k old new n → LaidOut c l → h c
    → Fired c (k c) old new n
for-code {c = c} f o x = record { words = f.words c o x; count = f.count }

-- ---- guards

-- by a test
abbrev pub when : Bool → List ℕ → List ℕ → List ℕ
when t p q = elim t [ true ↦ p | false ↦ q ]

both-tests : (x y : Bool) (p q : List ℕ) → when x (when y p q) q ≡ when (x && y) p q
both-tests true y p q = refl
both-tests false y p q = refl

under-fired : (c : Code) (est : List ℕ) (d a v : ℕ) (k : Rule) (t : Test) → fire c (under c t d a v k) est ≡ when (passes c est t d a v) (fire c k est) est
unfolding passes under fire found
under-fired c est d a v k tests.Never = refl
under-fired c est d a v k tests.Free = refl
under-fired c est d a v k tests.Has = refl
under-fired c est d a v k tests.Some = refl
under-fired c est d a v k tests.Text = refl
under-fired c est d a v k tests.TextHas = both-tests (found c est (C d) is_string) (sets c est (C a) v) (fire c k est) est
under-fired c est d a v k tests.TextSome = both-tests (found c est (C d) is_string) (found c est (C a) (sort_at v c)) (fire c k est) est

-- what a clause does, by its guard
pub clause-fired : (c : Code) (est : List ℕ) (x : Clause) (f : ℕ) (t : Bool) → passes c est x.guard.test x.guard.d x.guard.a x.guard.v ≡ t
    → fire c (asks c x f) est ≡ when t (fire c (effect c x.effect.what x.effect.x x.effect.y x.effect.z f) est) est
unfolding asks
clause-fired c est x f t e = under-fired c est x.guard.d x.guard.a x.guard.v _ x.guard.test ∙ rw e
