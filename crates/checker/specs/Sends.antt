-- What a send asks for the blocks that it may start.
use Rattle.std.specs.Prelude.{ℕ, ◌+◌, ◌<◌, ◌≡◌}
use mathlib.Core.List.{List, Memᴰ}
use Rattle.table.specs.Scan.{accepted, reading}
use Rattle.table.specs.Code.{Code, code}
use Rattle.calculus.specs.Elements.{made, sendable}
use Rattle.calculus.specs.Constraint.{C, B, P, Sets, Rule, Obeys, put, sub, some, each, ◌and◌}
use Rattle.calculus.specs.Rules.{permissions, delivering, live, pass}
use Rattle.calculus.specs.Layout.{WellFormed}
use Rattle.rows.specs.declared.layout.Layout.{Layout}
use Rattle.rows.specs.Laid.{LaidOut}
use Rattle.queries.specs.Passes.{Masked}
use Rattle.checker.specs.declared.sends.Sending.{Sending}

-- for a block that it starts
abbrev pub delivery : Code → (p d b : ℕ) → Rule
delivery c p d b = live b and pass c (C d) (sendable c) (B b) and sub (P b) (P p)

-- of a send at p with its message at d, which requires r: for the block b, where it starts it
abbrev pub to_block : Code → (p d r b : ℕ) → Rule
to_block c p d r b = delivering c p r (p + 1) b (delivery c p d b)

-- the block of the send is in C(b), where the send starts b
abbrev pub to_sender : Code → (p r b : ℕ) → Rule
to_sender c p r b = delivering c p r (p + 1) b (put (C b) (made c (c.home p)))

-- what the send asks of the word q: for the block b; for every block, where there is something to send
module _ (c : Code) (e : Sets) (p d r : ℕ) where
  abbrev pub AskedFor : (b q : ℕ) → Type 0
  AskedFor b q = (q ≡ p → Obeys e (to_block c p d r b)) × (q ≡ b → Obeys e (to_sender c p r b))

  abbrev pub AskedToSend : ℕ → Type 0
  AskedToSend q =
      (q ≡ p → Obeys e (some (C d) (sendable c) (each c.blocks (to_block c p d r))))
      × (Memᴰ q c.blocks → Obeys e (some (C d) (sendable c) (to_sender c p r q)))

-- what the tests of a send are handed
pub record Sent (ws masks est : List ℕ) (l : Layout) (s : Sending) : Type 0 where
  pub readable : reading ws ≡ accepted
  pub laid : LaidOut (code ws) l
  pub masked : Masked (code ws) l masks
  pub well : WellFormed (code ws) est
  pub target : s.p + 1 < l.size
  pub message : s.d < l.size
  pub homed : s.home < l.size
  pub home : s.home ≡ (code ws).home s.p
  pub own : s.own.bits ≡ permissions (code ws) s.p
