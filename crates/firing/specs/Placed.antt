-- What is done for things: where they and what they are handed stand.
use Rattle.std.specs.Prelude.{ℕ, ◌+◌, ◌*◌, ◌/◌, ◌%◌, ◌<◌, ◌≤◌, ◌≡◌, Bool, true, false, List, length, get_or}
use Rattle.permset.specs.Sets.{member}
use Rattle.rows.specs.declared.layout.Layout.{Layout}
use Rattle.clauses.specs.declared.What.{What}
use Rattle.clauses.specs.declared.What.TheVariants as whats
use Rattle.clauses.specs.declared.Effect.{Effect}

-- the effects that look at the word after a thing, which is a function's body
unfoldable pub entering : What → Bool
entering whats.Live = false
entering whats.Put = false
entering whats.Fill = false
entering whats.Flow = false
entering whats.Pass = false
entering whats.Permit = false
entering whats.Operate = false
entering whats.Part = false
entering whats.Parts = false
entering whats.Branches = false
entering whats.Enter = true
entering whats.Lower = true
entering whats.Hand = false
entering whats.Take = false
entering whats.Back = true
entering whats.Send = false

-- what is done for the thing f at the word x stays in the estimate
pub record Placed (l : Layout) (w : What) (x y f : ℕ) : Type 0 where
  pub word : x < l.size
  pub row : y < 2 * l.size
  pub thing : f < l.size
  pub body : entering w ≡ true → f + 1 < l.size

-- what an effect for things is handed: the word x, whose first part has the things, the row y, and the mask z, among whose things an effect that enters
-- finds functions alone, whose bodies are words
pub record Each (l : Layout) (masks : List ℕ) (e : Effect) : Type 0 where
  pub word : e.x + 1 < l.size
  pub row : e.y < 2 * l.size
  pub mask : e.z < 3
  pub long : 4 * l.row ≤ length masks
  pub bodies : entering e.what ≡ true → (f : ℕ) → f < l.size → member (get_or masks (e.z * l.row + (l.lead + f / 32)) 0) (f % 32) ≡ true
      → f + 1 < l.size
