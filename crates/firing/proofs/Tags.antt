-- The effects that are done for things, and the others: what the arms of a match leave to say of them.
use Prim.Native.Nat.{ℕ}
use mathlib.Core.Path.{◌≡◌, refl, sym, subst}
use mathlib.Core.Logic.{◌⊎◌, ⊎_elim}
use mathlib.Core.List.{List}
use Rattle.table.specs.Code.{Code}
use Rattle.calculus.specs.Constraint.{none}
use Rattle.rows.specs.declared.layout.Layout.{Layout}
use Rattle.clauses.specs.declared.What.{What}
use Rattle.clauses.specs.declared.What.TheVariants as whats
use Rattle.clauses.specs.Asks.{for_thing, things, effect}
use Rattle.clauses.specs.Clauses.{of}
use Rattle.firing.specs.Placed.{Each}
use Rattle.firing.specs.Suits.{Fitting}

-- an effect for things asks what it asks of each, and fits them
abbrev Thing : What → Type 0
Thing w =
    ((c : Code) (x y z f : ℕ) → effect c w x y z f ≡ things c w x y z f)
    × ((l : Layout) (masks ws : List ℕ) (x y z : ℕ) → Fitting l masks ws w x y z → Each l masks (of w x y z))

thing-as : (v : What) → Thing v → (w : What) → w ≡ v → Thing w
thing-as v t w e = subst Thing (sym e) t

pub is-thing : (w : What) → (w ≡ whats.Enter) ⊎ ((w ≡ whats.Lower) ⊎ ((w ≡ whats.Hand) ⊎ ((w ≡ whats.Take) ⊎ (w ≡ whats.Back)))) → Thing w
unfolding effect
is-thing w =
    ⊎_elim (thing-as whats.Enter ((λ c x y z f. refl), λ l masks ws x y z p. p) w)
    (⊎_elim (thing-as whats.Lower ((λ c x y z f. refl), λ l masks ws x y z p. p) w)
    (⊎_elim (thing-as whats.Hand ((λ c x y z f. refl), λ l masks ws x y z p. p) w)
    (⊎_elim (thing-as whats.Take ((λ c x y z f. refl), λ l masks ws x y z p. p) w)
    (thing-as whats.Back ((λ c x y z f. refl), λ l masks ws x y z p. p) w))))

-- another asks nothing of a thing
pub is-other : (w : What) → (w ≡ whats.Enter → ⊥) → (w ≡ whats.Lower → ⊥) → (w ≡ whats.Hand → ⊥) → (w ≡ whats.Take → ⊥) → (w ≡ whats.Back → ⊥)
    → (x y f : ℕ) → for_thing w x y f ≡ none
unfolding for_thing
is-other whats.Live a b c d e x y f = refl
is-other whats.Put a b c d e x y f = refl
is-other whats.Fill a b c d e x y f = refl
is-other whats.Flow a b c d e x y f = refl
is-other whats.Pass a b c d e x y f = refl
is-other whats.Permit a b c d e x y f = refl
is-other whats.Operate a b c d e x y f = refl
is-other whats.Part a b c d e x y f = refl
is-other whats.Parts a b c d e x y f = refl
is-other whats.Branches a b c d e x y f = refl
is-other whats.Enter a b c d e x y f = absurd (a refl)
is-other whats.Lower a b c d e x y f = absurd (b refl)
is-other whats.Hand a b c d e x y f = absurd (c refl)
is-other whats.Take a b c d e x y f = absurd (d refl)
is-other whats.Back a b c d e x y f = absurd (e refl)
is-other whats.Send a b c d e x y f = refl
