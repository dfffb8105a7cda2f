-- The steps of one instance (document 01, "The machine"): parts run left to right, each to its value, and only then the term itself
-- steps or stops. Nothing is assumed of the code: where no term stands the instance stops.
use Rattle.std.specs.Prelude.{ℕ, suc, true, false, List, [], ◌∷◌, ◌++◌, length, set}
use Rattle.std.proofs.Math.Option.{Option, none, some}
use Rattle.std.proofs.Math.ListN.{get_elem?}
use Rattle.permset.specs.Sets.{within}
use Rattle.table.specs.Code.{Code, Leaf, One, Two, Node}
use Rattle.calculus.specs.Values.{Atom, Value, atom, function, fields, cell, Environment, bound, Fields}
use Rattle.calculus.specs.Values.{undefined, unit, whole, look, get_field, set_field, delete_field, operate}
use Rattle.calculus.specs.Values.{on_atom, on_function, on_fields, on_cell, on_text, on_name, on_truth}

-- what an instance is at: the term at a word, a value that was yielded, or a stop for good
pub data Control : Type 0 where
  eval : (at : ℕ) → Environment → Control
  give : Value → Control
  stopped : Control

-- What waits for a value: the term at a word whose first, second or third part is running, with the values of the parts before, or
-- a while whose body is running.
pub data Frame : Type 0 where
  first : (at : ℕ) → Environment → Frame
  second : (at : ℕ) → Environment → Value → Frame
  third : (at : ℕ) → Environment → Value → Value → Frame
  again : (at : ℕ) → Environment → Frame

-- what a step does outside its instance
pub data Effect : Type 0 where
  silent : Effect
  exercises : (set : ℕ) → Effect
  sends : (required target : ℕ) → (message : Value) → Effect

-- no step, where the instance has finished or stopped; or a step: its effect, what the instance is then at, its frames and its cells
pub data Move : Type 0 where
  stay : Move
  go : Effect → Control → List Frame → List Value → Move

-- the term is done, and its value goes to the first frame
abbrev pub yield : Value → List Frame → List Value → Move
yield v fs cs = go Effect.silent (give v) fs cs

-- the term at p begins
abbrev pub begin : ℕ → Environment → List Frame → List Value → Move
begin p vs fs cs = go Effect.silent (eval p vs) fs cs

-- "It stops for good where no step is given."
abbrev pub stop : Move
stop = go Effect.silent stopped [] []

-- the value that is there, and a stop where there is none
unfoldable pub found : Option Value → List Frame → List Value → Move
found none fs cs = stop
found (some v) fs cs = yield v fs cs

-- A term with no part that runs, at the word p. "Exercise of r proceeds and yields unit if r is within the instance's permissions;
-- otherwise the instance stops." `held` are these permissions.
unfoldable pub leaf_step : ℕ → ℕ → Environment → Leaf → List Frame → List Value → Move
leaf_step held p vs (Leaf.constant k) fs cs = yield (atom (Atom.constant k)) fs cs
leaf_step held p vs (Leaf.number n) fs cs = yield (atom (Atom.number (whole n))) fs cs
leaf_step held p vs (Leaf.literal n) fs cs = yield (atom (Atom.text n)) fs cs
leaf_step held p vs (Leaf.named n) fs cs = yield (atom (Atom.named n)) fs cs
leaf_step held p vs (Leaf.variable n) fs cs = found (look vs n) fs cs
leaf_step held p vs Leaf.function fs cs = yield (function p vs) fs cs
leaf_step held p vs Leaf.empty fs cs = yield (fields Fields.empty) fs cs
leaf_step held p vs (Leaf.exercise r) fs cs =
    elim (within r held) [ true ↦ go (Effect.exercises r) (give unit) fs cs | false ↦ stop ]

-- the term at p: where it has parts that run, the first one begins
unfoldable pub term_step : ℕ → ℕ → Environment → Node → List Frame → List Value → Move
term_step held p vs Node.gap fs cs = stop
term_step held p vs (Node.block n s g) fs cs = stop
term_step held p vs (Node.leaf l) fs cs = leaf_step held p vs l fs cs
term_step held p vs (Node.one o a) fs cs = begin a vs (first p vs ∷ fs) cs
term_step held p vs (Node.two t a b) fs cs = begin a vs (first p vs ∷ fs) cs
term_step held p vs (Node.bind a b) fs cs = begin a vs (first p vs ∷ fs) cs
term_step held p vs (Node.while a b) fs cs = begin a vs (first p vs ∷ fs) cs
term_step held p vs (Node.branch a b d) fs cs = begin a vs (first p vs ∷ fs) cs
term_step held p vs (Node.update a b d) fs cs = begin a vs (first p vs ∷ fs) cs

-- a term with one part, which gave v: a new cell stands after the others, and a cell is read
unfoldable pub one_step : One → Value → List Frame → List Value → Move
one_step One.cell v fs cs = yield (cell (length cs)) fs (cs ++ (v ∷ []))
one_step One.read v fs cs = on_cell v (λ i. found (get_elem? cs i) fs cs) stop

-- what an if or a while does where its condition gave v: "branching on anything but true or false" stops
unfoldable pub choose : Value → Move → Move → Move
choose v left right = on_atom v (λ a. on_truth a (λ t. elim t [ true ↦ left | false ↦ right ]) stop) stop

-- the term at p, whose first part gave v. "While ends in undefined."
unfoldable pub first_step : ℕ → Environment → Node → Value → List Frame → List Value → Move
first_step p vs Node.gap v fs cs = stop
first_step p vs (Node.block n s g) v fs cs = stop
first_step p vs (Node.leaf l) v fs cs = stop
first_step p vs (Node.one o a) v fs cs = one_step o v fs cs
first_step p vs (Node.two t a b) v fs cs = begin b vs (second p vs v ∷ fs) cs
first_step p vs (Node.bind a b) v fs cs = begin b (bound v vs) fs cs
first_step p vs (Node.while a b) v fs cs = choose v (begin b vs (again p vs ∷ fs) cs) (yield undefined fs cs)
first_step p vs (Node.branch a b d) v fs cs = choose v (begin b vs fs cs) (begin d vs fs cs)
first_step p vs (Node.update a b d) v fs cs = begin b vs (second p vs v ∷ fs) cs

-- "Get, set or delete on a non-record or with a non-string" stops.
unfoldable pub with_field : Value → Value → (Fields → ℕ → Move) → Move
with_field v w f = on_fields v (λ r. on_atom w (λ a. on_text a (λ k. f r k) stop) stop) stop

-- a term with two parts, which gave v and w. "Assign yields the value." "Send yields unit if its target is a name."
unfoldable pub two_step : Two → Value → Value → List Frame → List Value → Move
two_step Two.apply v w fs cs = on_function v (λ p vs. begin (suc p) (bound w vs) fs cs) stop
two_step Two.sequence v w fs cs = yield w fs cs
two_step Two.get v w fs cs = with_field v w (λ r k. yield (get_field r k) fs cs)
two_step Two.delete v w fs cs = with_field v w (λ r k. yield (fields (delete_field r k)) fs cs)
two_step Two.assign v w fs cs = on_cell v (λ i. yield w fs (set cs i w)) stop
two_step (Two.operation o) v w fs cs = on_atom v (λ a. on_atom w (λ b. found (operate o a b) fs cs) stop) stop
two_step (Two.send r) v w fs cs = on_atom v (λ a. on_name a (λ n. go (Effect.sends r n w) (give unit) fs cs) stop) stop

-- the term at p, whose first two parts gave v and w
unfoldable pub second_step : ℕ → Environment → Node → Value → Value → List Frame → List Value → Move
second_step p vs Node.gap v w fs cs = stop
second_step p vs (Node.block n s g) v w fs cs = stop
second_step p vs (Node.leaf l) v w fs cs = stop
second_step p vs (Node.one o a) v w fs cs = stop
second_step p vs (Node.two t a b) v w fs cs = two_step t v w fs cs
second_step p vs (Node.bind a b) v w fs cs = stop
second_step p vs (Node.while a b) v w fs cs = stop
second_step p vs (Node.branch a b d) v w fs cs = stop
second_step p vs (Node.update a b d) v w fs cs = begin d vs (third p vs v w ∷ fs) cs

-- the first frame is given the value u; after its body a while begins again
unfoldable pub frame_step : Code → Frame → Value → List Frame → List Value → Move
frame_step c (first p vs) u fs cs = first_step p vs (c.node p) u fs cs
frame_step c (second p vs v) u fs cs = second_step p vs (c.node p) v u fs cs
frame_step c (third p vs v w) u fs cs = with_field v w (λ r k. yield (fields (set_field r k u)) fs cs)
frame_step c (again p vs) u fs cs = begin p vs fs cs

-- one step of an instance with the permissions `held`
unfoldable pub step : Code → ℕ → Control → List Frame → List Value → Move
step c held (eval p vs) fs cs = term_step held p vs (c.node p) fs cs
step c held (give v) [] cs = stay
step c held (give v) (f ∷ fs) cs = frame_step c f v fs cs
step c held stopped fs cs = stay
