-- What the tests on the words of an accepted table decide.
use Rattle.std.specs.Prelude.{ℕ, ◌≡◌}
use mathlib.Core.List.{List, Memᴰ}
use Rattle.table.specs.Scan.{accepted, reading}
use Rattle.table.specs.Code.{Code, code}
use Rattle.calculus.specs.Constraint.{L, Sets, Rule, Obeys, given, ◌and◌}
use Rattle.calculus.specs.Rules.{flow, entry, sender}
use Rattle.calculus.specs.Layout.{sets}
use Rattle.rows.specs.declared.layout.Layout.{Layout}
use Rattle.rows.specs.Laid.{LaidOut}
use Rattle.checker.specs.Lowered.{Lowered}

-- a table that was accepted, and its layout
pub record Accepted (ws : List ℕ) (l : Layout) : Type 0 where
  pub readable : reading ws ≡ accepted
  pub laid : LaidOut (code ws) l

-- the rule of the word p but for its senders
abbrev pub own_rule : Code → (ρ p : ℕ) → Rule
own_rule c ρ p = entry c ρ p and given (L p) 0 (flow c p (c.node p))

-- what the word p asks of the word q: of itself its own rule, of a block to know its sender
abbrev pub AskedBy : Code → Sets → (ρ p q : ℕ) → Type 0
AskedBy c e ρ p q = (q ≡ p → Obeys e (own_rule c ρ p)) × (Memᴰ q c.blocks → Obeys e (sender c q p (c.node p)))

-- r is `below`, or the lowest word below it that does not obey what p asks
abbrev pub WordLowered : (ws est : List ℕ) → (ρ p below r : ℕ) → Type 0
WordLowered ws est ρ p below r = Lowered (AskedBy (code ws) (sets (code ws) est) ρ p) below r
