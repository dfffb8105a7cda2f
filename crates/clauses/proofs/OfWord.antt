-- The clauses of a word of an accepted table: sets obey the rule of a live word, and what it asks of its receivers, exactly if they obey
-- each of its clauses; and what the clauses ask fits the code.
use Prim.Native.Nat.{ℕ, ◌+◌, ◌≤◌, ◌<◌}
use mathlib.Core.Path.{◌≡◌, refl, ap, ◌∙◌}
use mathlib.Core.Bool.{Bool, true, false, not}
use mathlib.Core.Logic.{◌↔◌, ⊎_elim}
use mathlib.Core.List.{List, []}
use native.Mathlib.Numerals.{add-one}
use native.Mathlib.Omega.{arith}
use borrow.Author.Tests.{ne_eqb}
use lib.Dec.{T, eqb}
use lib.ListN.{length, get_or}
use Rattle.table.specs.declared.Item.{Item}
use Rattle.table.specs.declared.Item.TheVariants as items
use Rattle.table.specs.declared.Operation.{Operation}
use Rattle.table.specs.declared.Operation.TheVariants as operations
use Rattle.table.specs.declared.Term.{Term}
use Rattle.table.specs.declared.Term.TheVariants as terms
use Rattle.table.specs.Scan.{accepted, reading}
use Rattle.table.specs.Code.{Code, Node, code, term_node, NodeLinked, Linked, end_of, part as part_at}
use Rattle.table.specs.Words.{operation_of, operation_number}
use Rattle.table.specs.Item.{item_at}
use Rattle.permset.specs.Sets.{width, member, within}
use Rattle.table.specs.Links.{link_at, linked}
use Rattle.table.proofs.Linked.{linked as code-linked}
use Rattle.table.proofs.LinkMeaning.{link-end}
use Rattle.table.proofs.Nodes.{item_node, node-item, binder-link}
use Rattle.calculus.specs.Elements.{plain, made, unit, is_cell}
use Rattle.calculus.specs.Constraint.{P, C, L, Sets, Obeys, put, only, each, every, ◌and◌}
use Rattle.calculus.specs.Rules.{permissions, flow, leaf_rule, one_rule, two_rule, part, two_sender, sender}
use Rattle.calculus.proofs.Ranges.{below_in}
use Rattle.clauses.specs.declared.Clause.{Clause}
use Rattle.clauses.specs.Clauses.{Site, never, of_block, of_term, site_at, of_item, clauses_at, clause_at, of_value, of_variable, of_permitted, of_exercise, of_apply}
use Rattle.clauses.specs.Clauses.{of_let, of_sequence, of_if, of_while, of_operation, of_get, of_set, of_delete, of_cell, of_read, of_assign, of_send}
use Rattle.clauses.specs.Asks.{sort_at, thing_at, under, for_thing, things, blocks, effect, asks}
use Rattle.calculus.proofs.Permissions.{permissions-are}
use Rattle.calculus.proofs.Senders.{sent_from}
use Rattle.clauses.proofs.Asked.{Every, every-at, at_every, Asked, asked-narrow}
use Rattle.clauses.proofs.Sorts.{row-C, row-B, cell-by, record-by, is_made_lem, is-record}

-- a site says of the term t at p what the code says
pub record Sited (c : Code) (p : ℕ) (t : Term) (s : Site) : Type 0 where
  pub own : s.own ≡ made c p
  pub binder : (n : ℕ) → t ≡ terms.Variable n → get_or (c.scope p) n 0 ≡ s.binder
  pub perms : s.perms ≡ permissions c p
  pub second : p + 1 < c.size → 0 < s.second
  pub third : s.second < c.size → 0 < s.third
  pub node : c.node p ≡ term_node t (p + 1) s.second s.third

operation-number : (o : Operation) → operation_of (operation_number o) ≡ o
unfolding operation_of operation_number
operation-number operations.Add = refl
operation-number operations.Less = refl
operation-number operations.Equal = refl

module _ (c : Code) (k : Linked c) (e : Sets) (p : ℕ) where
  -- The clauses of a node: its rule where p is live, with what it asks of its receivers.
  abbrev Means : List Clause → Node → Type 0
  Means xs n =
      (T (e (L p) 0) → Obeys e (flow c p n) → Obeys e (each c.blocks (λ b. sender c b p n)) → Every (Asked c e 0) xs)
      × (Every (Asked c e 0) xs → Obeys e (flow c p n) × Obeys e (each c.blocks (λ b. sender c b p n)))

  is-part : {d : ℕ} → 0 < d → T (not (eqb d 0))
  is-part {d} h = rw (ne_eqb d 0 (λ z. omega arith)) tt

  no_part : T (not (eqb 0 0)) → Obeys e (part p 0)
  no_part t = absurd t

  allowed : (r : ℕ) (b : Bool) → Every (Asked c e 0) (elim b [ true ↦ of_permitted p r | false ↦ [] ])
      ↔ Obeys e (only b (every width (λ i. only (member r i) (put (P p) i)) and put (C p) unit))
  unfolding of_permitted asks under effect
  allowed r true = simp row-C ((λ a t. (a.1.0, a.0)), λ o. let h = o tt in (h.1, (h.0, tt)))
  allowed r false = ((λ a t. absurd t), λ o. tt)

  -- the clauses of a term are its rule
  term-means : (t : Term) (s : Site) → Sited c p t s → NodeLinked c p (term_node t (p + 1) s.second s.third)
      → Means (of_term p t s) (term_node t (p + 1) s.second s.third)
  unfolding term_node of_term flow leaf_rule one_rule two_rule sender two_sender asks under effect things blocks for_thing sort_at thing_at
      of_value of_variable of_permitted of_exercise of_apply of_let of_sequence of_if of_while of_operation of_get of_set of_delete of_cell of_read of_assign of_send
  term-means (terms.Constant d) s w l = simp row-C ((λ y o f. search), λ a. search)
  term-means (terms.Number n) s w l = simp row-C ((λ y o f. search), λ a. search)
  term-means (terms.Literal n) s w l = simp row-C ((λ y o f. search), λ a. search)
  term-means (terms.Name n) s w l = simp row-C ((λ y o f. search), λ a. search)
  term-means (terms.Variable n) s w l = simp (row-C, row-B, ← w.binder n refl) ((λ y o f. search), λ a. search)
  term-means terms.Function s w l = simp (row-C, w.own) ((λ y o f. search), λ a. search)
  term-means terms.Apply s w l =
      simp row-C (
        (λ y o f. let g = o.1.1 in
            (search no_part, ((λ i m t h. (g i m t h).0), ((λ i m t h. (g i m t h).1.0), ((λ i m t h. (g i m t h).1.1.0), ((λ i m t h. (g i m t h).1.1.1), tt)))))),
        λ a. search (a.0.1.0, is-part, w.second, a.1.0, a.1.1.0, a.1.1.1.0, a.1.1.1.1.0),
      )
  term-means terms.Let s w l = simp (row-C, row-B) ((λ y o f. search no_part), λ a. search (a.0.1.0, is-part, w.second))
  term-means terms.Sequence s w l = simp row-C ((λ y o f. search no_part), λ a. search (a.0.1.0, is-part, w.second))
  term-means terms.If s w l = simp row-C ((λ y o f. search), λ a. search (a.0.1.1, is-part, w.third))
  term-means terms.While s w l = simp row-C ((λ y o f. ((o.0, (o.1.0, λ t. absurd t)), (o.1.1.0, (o.1.1.1, tt)))), λ a. search)
  term-means (terms.Operation d) s w l = simp operation-number ((λ y o f. search no_part), λ a. search (a.0.1.0, is-part, w.second))
  term-means terms.Record s w l = simp (row-C, w.own) ((λ y o f. search), λ a. search)
  term-means terms.Get s w l =
      simp row-C (
        (λ y o f. let g = o.1.1 in (
          search no_part,
          (
            (λ v q h u t i. ⊎_elim (λ z. (g v q h).1 (rw z at i) 0 (below_in (omega arith)))
                (λ b. ((g v q h).0 b.word (below_in b.inside) b.makes-it (rw b.element at i)).1) (record-by c k u t)),
            ((λ v q h. (g v q h).1), ((λ v q h x m t i. ((g v q h).0 x m t i).0), tt)),
          ),
        )),
        λ a. search (a.0.1.0, is-part, w.second, a.1.0, is-record c k, a.1.1.0, a.1.1.1.0),
      )
  term-means terms.Set s w l =
      simp (row-C, row-B, w.own) (
        (λ y o f. let g = o.1.1.1 in (
          search,
          ((λ v q h u t i. ((g v q h).0 u t i).0), ((λ v q h u t i. ((g v q h).0 u t i).1), ((λ v q h. (g v q h).1.1), ((λ v q h. (g v q h).1.0), tt)))),
        )),
        λ a. search (a.0.1.0, is-part, w.second, a.0.1.1, w.third, a.1.0, a.1.1.0, a.1.1.1.0, a.1.1.1.1.0),
      )
  term-means terms.Delete s w l = simp row-C ((λ y o f. search no_part), λ a. search (a.0.1.0, is-part, w.second))
  term-means terms.Cell s w l = simp (row-C, row-B, w.own) ((λ y o f. search no_part), λ a. search)
  term-means terms.Read s w l = simp row-C ((λ y o f. search no_part), λ a. search)
  term-means terms.Assign s w l =
      simp row-C (
        (λ y o f. let g = o.1.1 in (
          search no_part,
          ((λ u t i. let b = cell-by c k u t in (g b.word (below_in b.inside) b.makes-it (rw b.element at i)).0), ((λ q m t i. (g q m t i).1), tt)),
        )),
        λ a. search (a.0.1.0, is-part, w.second, a.1.0, is_made_lem c k is_cell, a.1.1.0),
      )
  term-means (terms.Send r) s w l =
      simp row-C (
        (λ y o f. (search no_part, (o.1.1.0, ((λ v q i b m t n. (o.1.1.1 v q i b m t n, f b m y v q i t n)), tt)))),
        λ a. let g = a.1.1.0 in
            ((a.0.0, (a.0.1.0 (is-part (w.second l.1.inside)), (a.1.0, λ v q i b m t n. (g v q i b m t n).0))), λ b m y v q i t n. (g v q i b m t n).1),
      )
  term-means (terms.Exercise r) s w l =
      let h = allowed r.bits (within r.bits (permissions c p)) in rw w.perms ((λ y o f. h.1 o), λ a. (h.0 a, λ b m. tt))

-- ---- the sites of an accepted table

module _ (ws : List ℕ) (r : reading ws ≡ accepted) (slice : List ℕ) (room : length ws ≤ length slice) where
  abbrev links : List ℕ
  links = linked ws slice

  end_later : (q : ℕ) → q < (code ws).size → 0 < (link_at links q).end
  unfolding code end_of part_at
  end_later q h = omega (arith, link-end ws r slice room q h)

  pub sited : (p : ℕ) (t : Term) → item_at ws p ≡ items.Term t → Sited (code ws) p t (site_at ws links (plain (code ws)) p)
  unfolding item_node
  sited p t h =
      record {
        own = refl;
        binder = λ n q. binder-link ws r slice room p n (h ∙ ap items.Term q);
        perms = permissions-are ws r slice room p t h;
        second = end_later (p + 1);
        third = end_later (link_at links (p + 1)).end;
        node = rw (node-item ws r slice room p, h, add-one);
      }

  -- a property of each clause of p
  module _ (q : (x : Clause) → Type 0) (never-so : q never) (p : ℕ) where
    pub each-clause : Every q (clauses_at ws links (plain (code ws)) p) → (k : ℕ) → q (clause_at ws links (plain (code ws)) p k)
    unfolding clause_at
    each-clause a k = every-at q never-so (clauses_at ws links (plain (code ws)) p) a k

  module _ (e : Sets) (p : ℕ) (h : p < (code ws).size) where
    item-means : (x : Item) → item_at ws p ≡ x → Means (code ws) (code-linked ws r) e p (of_item ws links (plain (code ws)) p x) ((code ws).node p)
    unfolding of_item of_block asks under effect flow sender item_node
    item-means items.Gap i = rw (node-item ws r slice room p, i) ((λ y o f. tt), λ a. (tt, λ b m. tt))
    item-means (items.Block b) i = rw (node-item ws r slice room p, i) ((λ y o f. (o, tt)), λ a. (a.0, λ b m. tt))
    item-means (items.Term t) i =
        let w = sited p t i in
        rw w.node (term-means (code ws) (code-linked ws r) e p t (site_at ws links (plain (code ws)) p) w (rw w.node at ((code-linked ws r).nodes p h)))

    word-means : Means (code ws) (code-linked ws r) e p (clauses_at ws links (plain (code ws)) p) ((code ws).node p)
    unfolding clauses_at
    word-means = item-means (item_at ws p) refl

    -- sets that obey the rule of a live word, and what it asks of its receivers, obey each of its clauses, for all targets and for one
    pub rule-clauses : Obeys e (flow (code ws) p ((code ws).node p)) → Obeys e (sent_from (code ws) p) → T (e (L p) 0) → (k f : ℕ) → Obeys e (asks (code ws) (clause_at ws links (plain (code ws)) p k) f)
    unfolding asks under
    rule-clauses o s y k f =
        asked-narrow (code ws) (code-linked ws r) e (clause_at ws links (plain (code ws)) p k) f
        (each-clause (Asked (code ws) e 0) tt p (word-means.0 y o s) k)

    -- and the other way round
    pub clauses-rule : ((k : ℕ) → Obeys e (asks (code ws) (clause_at ws links (plain (code ws)) p k) 0)) → Obeys e (flow (code ws) p ((code ws).node p))
    unfolding clause_at
    clauses-rule a = (word-means.1 (at_every (Asked (code ws) e 0) (clauses_at ws links (plain (code ws)) p) a)).0

    pub clauses-sent : ((k : ℕ) → Obeys e (asks (code ws) (clause_at ws links (plain (code ws)) p k) 0)) → Obeys e (sent_from (code ws) p)
    unfolding clause_at
    clauses-sent a = (word-means.1 (at_every (Asked (code ws) e 0) (clauses_at ws links (plain (code ws)) p) a)).1
