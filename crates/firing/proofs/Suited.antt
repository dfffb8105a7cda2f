-- Every clause of an accepted table may be fired: what it looks at and writes are words and rows of the table.
use Prim.Native.Nat.{ℕ, ◌+◌, ◌*◌, ◌≤◌, ◌<◌}
use mathlib.Core.Path.{◌≡◌, refl, sym, ap, ◌∙◌, subst}
use mathlib.Core.Bool.{Bool, true, false, false≢true}
use mathlib.Core.List.{List, []}
use native.Mathlib.Omega.{arith}
use lib.Dec.{T}
use lib.ListN.{get_or}
use Rattle.permset.specs.Sets.{within}
use Rattle.table.specs.declared.Item.{Item}
use Rattle.table.specs.declared.Item.TheVariants as items
use Rattle.table.specs.declared.Operation.{Operation}
use Rattle.table.specs.declared.Operation.TheVariants as operations
use Rattle.table.specs.declared.Term.{Term}
use Rattle.table.specs.declared.Term.TheVariants as terms
use Rattle.table.specs.Words.{operation_number}
use Rattle.table.specs.Code.{Code, code, term_node, NodeLinked, Linked, end_of, part}
use Rattle.table.specs.Item.{item_at}
use Rattle.table.specs.Links.{linked, link_at}
use Rattle.queries.proofs.Given.{linked-code}
use Rattle.table.proofs.LinkMeaning.{link-end}
use Rattle.table.proofs.Nodes.{item_node, node_at, node-item}
use Rattle.table.proofs.Widths.{names-most}
use Rattle.calculus.specs.Elements.{plain}
use Rattle.calculus.proofs.Fitting.{constant-lt, sign-lt, body-lt}
use Rattle.rows.specs.declared.layout.Layout.{Layout}
use Rattle.clauses.specs.declared.Test.{Test}
use Rattle.clauses.specs.declared.What.{What}
use Rattle.clauses.specs.declared.What.TheVariants as whats
use Rattle.clauses.specs.declared.Effect.{Effect}
use Rattle.clauses.specs.declared.Clause.{Clause}
use Rattle.clauses.specs.Asks.{thing_at}
use Rattle.clauses.specs.Clauses.{Site, of, when, functions, of_term, site_at, of_item, clauses_at, clause_at}
use Rattle.clauses.specs.Clauses.{of_value, of_variable, of_permitted, of_exercise, of_apply, of_let, of_sequence, of_if, of_while, of_operation}
use Rattle.clauses.specs.Clauses.{of_get, of_set, of_delete, of_cell, of_read, of_assign, of_send, of_block}
use Rattle.clauses.proofs.Asked.{Every}
use Rattle.clauses.proofs.OfWord.{Sited, sited, each-clause}
use Rattle.queries.specs.Passes.{by_mask}
use Rattle.queries.specs.Ready.{Ready}
use Rattle.firing.specs.Placed.{Each, entering}
use Rattle.firing.specs.Suits.{Fitting, Suits}
use Rattle.firing.proofs.EachThing.{in-mask}

number_lt : (o : Operation) → operation_number o < 4294967296
unfolding operation_number
number_lt operations.Add = omega arith
number_lt operations.Less = omega arith
number_lt operations.Equal = omega arith

-- one clause, and the others
infixr 4 ◌also◌
◌also◌ : {A B : Type 0} → A → B → A × B
a also b = (a, b)

-- the word p of what a solver has
module _ {ws links masks : List ℕ} {l : Layout} (y : Ready ws links masks l) (p : ℕ) (h : p < l.size) where
  abbrev c : Code
  c = code ws

  abbrev k : Linked c
  k = linked-code y

  abbrev Suit : Clause → Type 0
  Suit = Suits l masks ws

  abbrev Fit : Effect → Type 0
  Fit e = Fitting l masks ws e.what e.x e.y e.z

  -- an effect for functions, which have bodies, and one that enters none
  function-each : (w : What) {r : ℕ} → (p + 1 < l.size) × (r < 2 * l.size) → Each l masks (of w p r functions)
  unfolding thing_at
  function-each w a =
      record {
        word = a.0;
        row = a.1;
        mask = omega arith;
        long = y.masked.long;
        bodies = λ q f i d.
            let s : f < c.size = omega (arith, y.laid.size) in
            omega (arith, y.laid.size, body-lt c k f s (subst T (sym (in-mask 0 (omega arith) y.laid y.masked f s ∙ d)) tt));
      }

  other-each : (w : What) {r z : ℕ} → entering w ≡ false → (p + 1 < l.size) × (r < 2 * l.size) × (z < 3) → Each l masks (of w p r z)
  other-each w n a = record { word = a.0; row = a.1; mask = a.2; long = y.masked.long; bodies = λ q. absurd (false≢true (sym n ∙ q)) }

  -- a guard that looks at a mask, and one that looks at none
  suit : {t : Test} {d a v : ℕ} {e : Effect} → (d < l.size) × (a < l.size) × (v < 4) → Fit e → Suit (when t d a v e)
  suit g f = record { guard = record { first = g.1; second = g.0; element = omega (arith, g.2); mask = λ q. g.2 }; effect = f }

  has-suit : {t : Test} {d a v : ℕ} {e : Effect} → by_mask t ≡ false → (d < l.size) × (a < l.size) × (v < 32) → Fit e → Suit (when t d a v e)
  has-suit n g f = record { guard = record { first = g.1; second = g.0; element = g.2; mask = λ q. absurd (false≢true (sym n ∙ q)) }; effect = f }

  -- ---- the clauses of each kind

  term-suit : (t : Term) (s : Site) → item_at ws p ≡ items.Term t → Sited c p t s → (p + 1 < c.size → p < s.second)
      → NodeLinked c p (term_node t (p + 1) s.second s.third) → Every Suit (of_term p t s)
  unfolding term_node of_term entering by_mask of_value of_variable of_permitted of_exercise of_apply of_let of_sequence of_if of_while of_operation of_get of_set of_delete
      of_cell of_read of_assign of_send
  term-suit (terms.Constant d) s i w x n = omega (arith, constant-lt d)
  term-suit (terms.Number d) s i w x n = omega (arith, sign-lt d)
  term-suit (terms.Literal d) s i w x n = omega arith
  term-suit (terms.Name d) s i w x n = omega arith
  term-suit (terms.Variable d) s i w x n =
      let b : s.binder < c.size = subst (λ (b : ℕ). b < c.size) (w.binder d refl) (k.binders p d (omega (arith, y.laid.size)) n) in omega arith
  term-suit terms.Function s i w x n = omega arith
  term-suit terms.Apply s i w x n =
      (omega arith) also suit (omega arith) (function-each whats.Enter (omega arith)) also suit (omega arith) (function-each whats.Hand (omega arith))
      also suit (omega arith) (function-each whats.Back (omega arith)) also suit (omega arith) (function-each whats.Lower (omega arith)) also tt
  term-suit terms.Let s i w x n = omega arith
  term-suit terms.Sequence s i w x n = omega arith
  term-suit terms.If s i w x n = omega arith
  term-suit terms.While s i w x n = omega arith
  term-suit (terms.Operation d) s i w x n = let g = x n.1.inside in omega (arith, number_lt d)
  term-suit terms.Record s i w x n = omega arith
  term-suit terms.Get s i w x n =
      (omega arith) also (omega arith) also has-suit refl (omega arith) (omega arith)
      also suit (omega arith) (other-each whats.Take refl (omega arith)) also tt
  term-suit terms.Set s i w x n =
      (omega arith) also (omega arith) also (omega arith) also has-suit refl (omega arith) (omega arith)
      also suit (omega arith) (other-each whats.Take refl (omega arith)) also tt
  term-suit terms.Delete s i w x n = omega arith
  term-suit terms.Cell s i w x n = omega arith
  term-suit terms.Read s i w x n = (omega arith) also suit (omega arith) (other-each whats.Take refl (omega arith)) also tt
  term-suit terms.Assign s i w x n =
      (omega arith) also (omega arith) also suit (omega arith) (other-each whats.Hand refl (omega arith)) also tt
  term-suit (terms.Send d) s i w x n =
      (omega arith) also (omega arith)
      also suit (omega arith) (record { word = omega arith; message = omega arith; required = n.0.0; term = terms.Send d; there = i }) also tt
  term-suit (terms.Exercise d) s i w x n = go (within d.bits s.perms)
    where
      go : (x : Bool) → Every Suit (elim x [ true ↦ of_permitted p d.bits | false ↦ [] ])
      go true = omega arith
      go false = tt

  -- ---- the clauses of a word

  abbrev nodes-linked : NodeLinked c p (c.node p)
  nodes-linked = k.nodes p (omega (arith, y.laid.size))

  second-later : p + 1 < c.size → p < (link_at (linked ws y.slice) (p + 1)).end
  unfolding code end_of part
  second-later g = omega (arith, link-end ws y.readable y.slice y.room (p + 1) g)

  item-suit : (x : Item) → item_at ws p ≡ x → Every Suit (of_item ws (linked ws y.slice) (plain c) p x)
  unfolding of_item item_node of_block
  item-suit items.Gap i = tt
  item-suit (items.Block b) i =
      let n = node-item ws y.readable y.slice y.room p ∙ ap (λ (x : Item). node_at ws y.readable y.slice y.room x p) i in
      let b = (subst (NodeLinked c p) n nodes-linked).3.inside in omega arith
  item-suit (items.Term t) i =
      let w = sited ws y.readable y.slice y.room p t i in
      term-suit t (site_at ws (linked ws y.slice) (plain c) p) i w second-later (subst (NodeLinked c p) w.node nodes-linked)

  pub clause-suits : (n : ℕ) → Suit (clause_at ws links (plain c) p n)
  unfolding clauses_at
  clause-suits n =
      subst (λ (xs : List ℕ). Suit (clause_at ws xs (plain c) p n)) (sym y.from)
      (each-clause ws y.readable y.slice y.room Suit (omega arith) p (item-suit (item_at ws p) refl) n)

-- the same for a clause made where things start at 32 times the leading words
module _ {ws links masks : List ℕ} {l : Layout} (y : Ready ws links masks l) where
  pub plain-small : 32 * l.lead ≤ 1024
  unfolding code
  plain-small = omega (arith, y.laid.lead, names-most (get_or ws 0 0))

  pub clause-is : (p n : ℕ) → clause_at ws links (32 * l.lead) p n ≡ clause_at ws links (plain (code ws)) p n
  clause-is p n = ap (λ (v : ℕ). clause_at ws links v p n) (sym y.laid.lead)
