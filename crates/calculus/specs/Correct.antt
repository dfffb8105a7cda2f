-- What a caller may rely on, by cases of the answer: it is correct by the flow rules (demand 2 of document 00), and its leak covers every
-- run (demand 3). Nothing here depends on how the estimate is computed.
use Rattle.std.specs.Prelude.{ℕ, ◌<◌, ◌≡◌, List, Bool, true, false, take, T}
use Rattle.permset.specs.Sets.{member}
use Rattle.table.specs.Code.{Code, code}
use Rattle.calculus.specs.Constraint.{Sets}
use Rattle.calculus.specs.Rules.{Estimate, leak_of}
use Rattle.calculus.specs.Layout.{estimate_words, sets, WellFormed, LiesIn}
use Rattle.calculus.specs.Estimate.{facts}
use Rattle.calculus.specs.Answer.{Answer, refused, verdict, bound_used}
use Rattle.calculus.specs.Guarantee.{Covers}

-- The words us hold an estimate without stray bits that obeys every rule and lies inside every other that does; the members of s are the
-- permissions of the leak read from it, and no others.
pub record Least (c : Code) (ρ : ℕ) (us : List ℕ) (s : ℕ) : Type 0 where
  pub well : WellFormed c us
  pub obeys : Estimate c ρ (sets c us)
  pub least : (e : Sets) → Estimate c ρ e → LiesIn c us e
  pub leaks : (x : ℕ) → leak_of c ρ (sets c us) x → T (member s x)
  pub only : (x : ℕ) → T (member s x) → leak_of c ρ (sets c us) x

-- x is in s and not in t
pub record Outside (s t x : ℕ) : Type 0 where
  pub leaks : T (member s x)
  pub absent : T (member t x) → ⊥

-- s within t: every member of s is in t; s over t: `first` is a member outside t, and none lower is
unfoldable pub Compared : (s t : ℕ) → (over : Bool) → (first : ℕ) → Type 0
Compared s t false first = (x : ℕ) → T (member s x) → T (member t x)
Compared s t true first = Outside s t first × ((x : ℕ) → x < first → Outside s t x → ⊥)

-- Demand 2 of an answer to the table ws, ρ and a bound, where est is the estimate slice after the call.
unfoldable pub Correct : List ℕ → ℕ → ℕ → (est : List ℕ) → Answer → Type 0
unfolding Compared
Correct ws ρ bound est (refused number place) = Unit {0}
Correct ws ρ bound est (verdict v) =
    Least (code ws) ρ (take (estimate_words (code ws)) est) v.leak
    × Compared v.leak (bound_used bound) v.over v.first
    × (v.facts ≡ facts (take (estimate_words (code ws)) est))

-- Demand 3 of an answer: whatever the list of events, every permission that is exercised is in the leak.
unfoldable pub Guaranteed : List ℕ → ℕ → Answer → Type 0
Guaranteed ws ρ (refused number place) = Unit {0}
Guaranteed ws ρ (verdict v) = Covers (code ws) ρ v.leak
