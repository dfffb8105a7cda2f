-- What a clause must be for it to be fired: what it looks at and writes are words and rows of the table.
use Rattle.std.specs.Prelude.{ℕ, ◌+◌, ◌*◌, ◌^◌, ◌<◌, ◌≡◌, List}
use Rattle.permset.specs.Sets.{width}
use Rattle.rows.specs.declared.layout.Layout.{Layout}
use Rattle.clauses.specs.declared.What.{What}
use Rattle.clauses.specs.declared.What.TheVariants as whats
use Rattle.clauses.specs.declared.Clause.{Clause}
use Rattle.queries.specs.Passes.{Looks}
use Rattle.firing.specs.Placed.{Each}
use Rattle.firing.specs.Sending.{Sending}

module _ (l : Layout) (masks : List ℕ) where
  -- an effect for things
  abbrev things : What → (x y z : ℕ) → Type 0
  things w x y z = Each l masks (record { what = w; x = x; y = y; z = z })

  abbrev pub Fitting : List ℕ → What → (x y z : ℕ) → Type 0
  Fitting ws whats.Live x y z = x < l.size
  Fitting ws whats.Put x y z = (x < 2 * l.size) × (y < 32 * l.lead + l.size)
  Fitting ws whats.Fill x y z = x < 2 * l.size
  Fitting ws whats.Flow x y z = (x < 2 * l.size) × (y < 2 * l.size)
  Fitting ws whats.Pass x y z = (x < 2 * l.size) × (y < 2 * l.size) × (z < 4)
  Fitting ws whats.Permit x y z = (x < l.size) × (y < 2 ^ width)
  Fitting ws whats.Operate x y z = (x + 1 < l.size) × (y < l.size) × (y ≡ x → ⊥) × (z < 4294967296)
  Fitting ws whats.Part x y z = (x < l.size) × (y < l.size)
  Fitting ws whats.Parts x y z = (x + 1 < l.size) × (y < l.size) × (z < l.size)
  Fitting ws whats.Branches x y z = (x + 1 < l.size) × (y < l.size) × (z < l.size)
  Fitting ws whats.Enter x y z = things whats.Enter x y z
  Fitting ws whats.Lower x y z = things whats.Lower x y z
  Fitting ws whats.Hand x y z = things whats.Hand x y z
  Fitting ws whats.Take x y z = things whats.Take x y z
  Fitting ws whats.Back x y z = things whats.Back x y z
  Fitting ws whats.Send x y z = Sending ws l x y z

  -- a clause that may be fired
  pub record Suits (ws : List ℕ) (k : Clause) : Type 0 where
    pub guard : Looks l k.guard
    pub effect : Fitting ws k.effect.what k.effect.x k.effect.y k.effect.z
