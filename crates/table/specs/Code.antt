-- What the layers above know of a system: for each word its node, its scope and its block. `code` reads it from the words of an
-- accepted table, and `Linked` is what they may rely on.
use Rattle.std.specs.Prelude.{ℕ, zero, suc, ◌+◌, ◌<◌, ◌≤◌, ◌^◌, ◌≡◌, length, get_or, drop}
use mathlib.Core.List.{List, [], ◌∷◌, ◌++◌, Memᴰ}
use Rattle.permset.specs.Sets.{width}
use Rattle.table.specs.declared.Constant.{Constant}
use Rattle.table.specs.declared.Operation.{Operation}
use Rattle.table.specs.declared.Term.{Term}
use Rattle.table.specs.declared.Term.TheVariants as terms
use Rattle.table.specs.Words.{argument, arity, term_of, literals}
use Rattle.table.specs.Scan.{Task, head, name, perms, guard, term, next, names_at}

-- terms with no part that runs: a variable counts its binders from the innermost, and a function's body is the next word
pub data Leaf : Type 0 where
  constant : Constant → Leaf
  number literal named variable : ℕ → Leaf
  function empty : Leaf
  exercise : (set : ℕ) → Leaf

-- terms with one part that runs
pub data One : Type 0 where
  cell read : One

-- terms with two parts that run, one after the other
pub data Two : Type 0 where
  apply sequence get delete assign : Two
  operation : Operation → Two
  send : (required : ℕ) → Two

-- What stands at a word, with the places of its parts: nothing of its own, the first word of a block (its name, permissions and
-- guard), or a term.
pub data Node : Type 0 where
  gap : Node
  block : (name perms guard : ℕ) → Node
  leaf : Leaf → Node
  one : One → (part : ℕ) → Node
  two : Two → (first second : ℕ) → Node
  bind : (first second : ℕ) → Node
  while : (test body : ℕ) → Node
  branch : (test yes no : ℕ) → Node
  update : (target field value : ℕ) → Node

pub record Code : Type 0 where
  pub size : ℕ
  pub names : ℕ
  pub blocks : List ℕ
  pub node : ℕ → Node
  pub scope : ℕ → List ℕ
  pub home : ℕ → ℕ

-- ---- the code of a table

-- the words of the next n terms
unfoldable pub skip : List ℕ → ℕ → ℕ
skip [] n = 0
skip (w ∷ ws) zero = 0
skip (w ∷ ws) (suc n) = suc (skip ws (arity w + n))

-- where part k of the term at p stands
unfoldable pub part : List ℕ → ℕ → ℕ → ℕ
part ws p k = suc p + skip (drop (suc p) ws) k

-- the word after the term at p
unfoldable pub end_of : List ℕ → ℕ → ℕ
end_of ws p = part ws p (arity (get_or ws p 0))

-- the task that each word meets, from the place `at` on
unfoldable pub trace : List ℕ → ℕ → List Task → List Task
trace [] at ts = []
trace (w ∷ ws) at [] = []
trace (w ∷ ws) at (t ∷ ts) = t ∷ trace ws (suc at) (next at w t ++ ts)

unfoldable pub tasks : List ℕ → List Task
tasks ws = trace ws 0 (head (length ws) ∷ [])

unfoldable pub task_at : List ℕ → ℕ → Task
task_at ws p = get_or (tasks ws) p (head 0)

-- the node of a term, with where its parts would stand
unfoldable pub term_node : Term → ℕ → ℕ → ℕ → Node
term_node (terms.Constant c) a b d = leaf (constant c)
term_node (terms.Number n) a b d = leaf (number n)
term_node (terms.Literal n) a b d = leaf (literal n)
term_node (terms.Name n) a b d = leaf (named n)
term_node (terms.Variable n) a b d = leaf (variable n)
term_node terms.Function a b d = leaf function
term_node terms.Apply a b d = two apply a b
term_node terms.Let a b d = bind a b
term_node terms.Sequence a b d = two sequence a b
term_node terms.If a b d = branch a b d
term_node terms.While a b d = while a b
term_node (terms.Operation o) a b d = two (operation o) a b
term_node terms.Record a b d = leaf empty
term_node terms.Get a b d = two get a b
term_node terms.Set a b d = update a b d
term_node terms.Delete a b d = two delete a b
term_node terms.Cell a b d = one cell a
term_node terms.Read a b d = one read a
term_node terms.Assign a b d = two assign a b
term_node (terms.Send s) a b d = two (send s.bits) a b
term_node (terms.Exercise s) a b d = leaf (exercise s.bits)

unfoldable pub node_for : List ℕ → ℕ → Task → Node
node_for ws p (head n) = gap
node_for ws p name = block (argument (get_or ws p 0)) (argument (get_or ws (p + 1) 0)) (argument (get_or ws (p + 2) 0))
node_for ws p (perms n) = gap
node_for ws p guard = gap
node_for ws p (term d h s) = term_node (term_of (get_or ws p 0)) (part ws p 0) (part ws p 1) (part ws p 2)

unfoldable pub scope_for : Task → List ℕ
scope_for (head n) = []
scope_for name = []
scope_for (perms n) = []
scope_for guard = []
scope_for (term d h s) = s

unfoldable pub home_for : Task → ℕ → ℕ
home_for (head n) p = p
home_for name p = p
home_for (perms n) p = p
home_for guard p = p
home_for (term d h s) p = h

-- the places of the tasks that are blocks' names, from the place `at` on
unfoldable pub blocks_from : List Task → ℕ → List ℕ
blocks_from [] at = []
blocks_from (head n ∷ ts) at = blocks_from ts (suc at)
blocks_from (name ∷ ts) at = at ∷ blocks_from ts (suc at)
blocks_from (perms n ∷ ts) at = blocks_from ts (suc at)
blocks_from (guard ∷ ts) at = blocks_from ts (suc at)
blocks_from (term d h s ∷ ts) at = blocks_from ts (suc at)

unfoldable pub code : List ℕ → Code
code ws =
    record {
      size = length ws;
      names = names_at ws;
      blocks = blocks_from (tasks ws) 0;
      node = λ p. node_for ws p (task_at ws p);
      scope = λ p. scope_for (task_at ws p);
      home = λ p. home_for (task_at ws p) p;
    }

-- ---- what holds of the code of an accepted table

abbrev pub IsSet24 : ℕ → Type 0
IsSet24 s = s < 2 ^ width

abbrev pub IsBlock : Node → Type 0
IsBlock gap = ⊥
IsBlock (block n s g) = Unit {0}
IsBlock (leaf l) = ⊥
IsBlock (one o a) = ⊥
IsBlock (two t a b) = ⊥
IsBlock (bind a b) = ⊥
IsBlock (while a b) = ⊥
IsBlock (branch a b d) = ⊥
IsBlock (update a b d) = ⊥

abbrev pub IsTerm : Node → Type 0
IsTerm gap = ⊥
IsTerm (block n s g) = ⊥
IsTerm (leaf l) = Unit {0}
IsTerm (one o a) = Unit {0}
IsTerm (two t a b) = Unit {0}
IsTerm (bind a b) = Unit {0}
IsTerm (while a b) = Unit {0}
IsTerm (branch a b d) = Unit {0}
IsTerm (update a b d) = Unit {0}

-- q is a term of the code, in the block h, under these binders
pub record Within (c : Code) (q h : ℕ) (s : List ℕ) : Type 0 where
  pub inside : q < c.size
  pub term : IsTerm (c.node q)
  pub home : c.home q ≡ h
  pub scope : c.scope q ≡ s

module _ (c : Code) (p : ℕ) where
  -- a part under p's own binders, and one that has p as its innermost binder
  abbrev pub Part : ℕ → Type 0
  Part q = Within c q (c.home p) (c.scope p)

  abbrev pub Bound : ℕ → Type 0
  Bound q = Within c q (c.home p) (p ∷ c.scope p)

  abbrev pub LeafLinked : Leaf → Type 0
  LeafLinked (constant k) = Unit {0}
  LeafLinked (number n) = n < 2 ^ 24
  LeafLinked (literal n) = n < literals
  LeafLinked (named n) = n < c.names
  LeafLinked (variable n) = n < length (c.scope p)
  LeafLinked function = Bound (suc p)
  LeafLinked empty = Unit {0}
  LeafLinked (exercise r) = IsSet24 r

  abbrev pub TwoLinked : Two → Type 0
  TwoLinked apply = Unit {0}
  TwoLinked sequence = Unit {0}
  TwoLinked get = Unit {0}
  TwoLinked delete = Unit {0}
  TwoLinked assign = Unit {0}
  TwoLinked (operation o) = Unit {0}
  TwoLinked (send r) = IsSet24 r × Memᴰ (c.home p) c.blocks

  abbrev pub NodeLinked : Node → Type 0
  NodeLinked gap = Unit {0}
  NodeLinked (block n s g) = (n < c.names) × IsSet24 s × IsSet24 g × Within c (p + 3) p (p ∷ []) × Memᴰ p c.blocks
  NodeLinked (leaf l) = LeafLinked l
  NodeLinked (one o a) = Part a
  NodeLinked (two t a b) = TwoLinked t × Part a × Part b
  NodeLinked (bind a b) = Part a × Bound b
  NodeLinked (while a b) = Part a × Part b
  NodeLinked (branch a b d) = Part a × Part b × Part d
  NodeLinked (update a b d) = Part a × Part b × Part d

-- each word's node is linked, its binders are words of the code, nothing stands past the end, and what is listed as a block is one
pub record Linked (c : Code) : Type 0 where
  pub nodes : (p : ℕ) → p < c.size → NodeLinked c p (c.node p)
  pub binders : (p n : ℕ) → p < c.size → n < length (c.scope p) → get_or (c.scope p) n 0 < c.size
  pub outside : (p : ℕ) → c.size ≤ p → c.node p ≡ gap
  pub listed : (b : ℕ) → Memᴰ b c.blocks → (b < c.size) × IsBlock (c.node b)
