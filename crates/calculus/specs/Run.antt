-- Worlds, events and runs (document 01, "The machine"): instances take their steps in any order, and the opponent starts others.
use Rattle.std.specs.Prelude.{ℕ, ◌+◌, Bool, true, false, ◌&&◌, List, [], ◌∷◌, ◌++◌, set}
use Rattle.std.proofs.Math.Option.{Option, none, some}
use Rattle.std.proofs.Math.ListN.{get_elem?}
use Rattle.table.specs.Code.{Code}
use Rattle.delivery.specs.Delivery.{delivered}
use Rattle.calculus.specs.Rules.{perms_of, guarded, delivery_to}
use Rattle.calculus.specs.Values.{Value, Environment, plain, sent_as, datum}
use Rattle.calculus.specs.Machine.{Control, Frame, Effect, Move, step}

-- an instance: its handler's permissions, what it is at, its frames and its own cells
pub data Instance : Type 0 where
  running : (held : ℕ) → Control → List Frame → List Value → Instance

-- the instances in the order of their starts, and the sets that were exercised, the last one first
pub data World : Type 0 where
  world : List Instance → (exercised : List ℕ) → World

-- "Nothing runs at the beginning."
abbrev pub nothing : World
nothing = world [] []

-- One step of one instance, with the block that a send's step starts, if any; or one start by the opponent of the handler at a block
-- with one datum. A block is named by its first word.
pub data Event : Type 0 where
  steps : (instance : ℕ) → (choice : Option ℕ) → Event
  starts : (block : ℕ) → (datum : Value) → Event

-- an instance of the handler at b, which has the permissions s, with the message v
abbrev pub started : (s b : ℕ) → Value → Instance
started s b v = running s (Control.eval (b + 3) (Environment.bound v Environment.closed)) [] []

-- one instance more where the test holds, and the world `before` where it does not
unfoldable pub joined : Bool → Instance → List Instance → List ℕ → (before : World) → World
joined true x is rs before = world (is ++ (x ∷ [])) rs
joined false x is rs before = before

-- A send by an instance with the permissions `held`: it starts nothing, or the handler at b, with what is sent of its value, if the send allows it.
-- `is` are the instances after the send's step, and `before` is the world before it: a choice that the send does not allow changes nothing.
unfoldable pub sent : Code → (held required target : ℕ) → Value → Option ℕ → List Instance → List ℕ → (before : World) → World
sent c held r n v none is rs before = world is rs
sent c held r n v (some b) is rs before =
    joined (plain (sent_as v) && delivered (delivery_to n r held (c.node b))) (started (perms_of (c.node b)) b (sent_as v)) is rs before

unfoldable pub effect : Code → (held : ℕ) → Effect → Option ℕ → List Instance → List ℕ → World → World
effect c held Effect.silent choice is rs before = world is rs
effect c held (Effect.exercises r) choice is rs before = world is (r ∷ rs)
effect c held (Effect.sends r n v) choice is rs before = sent c held r n v choice is rs before

unfoldable pub moved : Code → (held i : ℕ) → Option ℕ → Move → List Instance → List ℕ → World
moved c held i choice Move.stay is rs = world is rs
moved c held i choice (Move.go f k fs cs) is rs = effect c held f choice (set is i (running held k fs cs)) rs (world is rs)

unfoldable pub stepped : Code → ℕ → Option ℕ → Option Instance → List Instance → List ℕ → World
stepped c i choice none is rs = world is rs
stepped c i choice (some (running held k fs cs)) is rs = moved c held i choice (step c held k fs cs) is rs

-- one event, where the opponent holds ρ
unfoldable pub act : Code → ℕ → World → Event → World
act c ρ (world is rs) (steps i choice) = stepped c i choice (get_elem? is i) is rs
act c ρ (world is rs) (starts b v) =
    joined (datum v c.names && guarded (c.node b) ρ) (started (perms_of (c.node b)) b v) is rs (world is rs)

-- the events of a list, each on what the last one left
unfoldable pub after : Code → ℕ → World → List Event → World
after c ρ w [] = w
after c ρ w (x ∷ xs) = after c ρ (act c ρ w x) xs

unfoldable pub run : Code → ℕ → List Event → World
run c ρ events = after c ρ nothing events

unfoldable pub exercised : World → List ℕ
exercised (world is rs) = rs
