-- The blocks of an accepted table in the rule of a send: what the test of one says of the code, and the loop over all.
use Prim.Native.Nat.{ℕ, ◌+◌, ◌*◌, ◌<◌}
use mathlib.Core.Path.{◌≡◌, refl, sym, ap, ◌∙◌, subst}
use mathlib.Core.Bool.{Bool, true, false}
use mathlib.Core.List.{List}
use native.Mathlib.Decide.{dec_lt}
use native.Mathlib.Omega.{arith}
use lib.Dec.{lit<}
use lib.ListN.{length, get_or, get_or-eq_default}
use Rattle.delivery.specs.Delivery.{delivered}
use Rattle.table.specs.declared.Item.{Item}
use Rattle.table.specs.Words.{kind, argument}
use Rattle.table.specs.Scan.{names_at, Task, name, accepted, reading}
use Rattle.table.specs.Item.{handler_at}
use Rattle.table.specs.Code.{Code, block, code, task_at, NodeLinked}
use Rattle.table.proofs.Items.{item-block}
use Rattle.table.proofs.Faults.{Stands}
use Rattle.table.proofs.Stack.{reach}
use Rattle.table.proofs.Parts.{place-stands}
use Rattle.table.proofs.Blocks.{listed-block}
use Rattle.table.proofs.Linked.{linked as code-linked}
use Rattle.table.proofs.Nodes.{item_node, node_at, node-item}
use Rattle.calculus.specs.Elements.{made}
use Rattle.calculus.specs.Constraint.{P, L, put, sub, ◌and◌}
use Rattle.calculus.specs.Rules.{name_of, delivery_to, permissions, pass}
use Rattle.calculus.specs.Layout.{owner, span, WellFormed}
use Rattle.calculus.specs.Estimate.{fire}
use Rattle.calculus.proofs.Masks.{T_false}
use Rattle.calculus.proofs.Places.{is-allowed}
use Rattle.calculus.proofs.Firing.{fire-well}
use Rattle.calculus.proofs.Folds.{fire-only-not, fire-present, fire-absent}
use Rattle.rows.specs.declared.layout.Layout.{Layout}
use Rattle.clauses.specs.declared.Effect.{Effect}
use Rattle.clauses.specs.Asks.{row_at, sort_at, at_block, blocks}
use Rattle.clauses.proofs.Asked.{admitted-listed}
use Rattle.clauses.proofs.Sorts.{row-C, row-B}
use Rattle.queries.specs.Starts.{starts_at}
use Rattle.queries.proofs.Given.{linked-code}
use Rattle.queries.proofs.Home.{sender, sender-home, sender-inside}
use Rattle.queries.proofs.Sends.{answer-so, named-so, named-not}
use Rattle.firing.specs.declared.sends.Sender.{Sender}
use Rattle.firing.specs.Fired.{Fired}
use Rattle.firing.specs.Sending.{Sends}
use Rattle.firing.proofs.Effects.{one_block}
use Rattle.firing.proofs.Fit.{block-fits}

-- a word that was made live leaves the estimate well formed
pub live-well : (c : Code) (b : ℕ) → b < c.size → (old new : List ℕ) → WellFormed c old → new ≡ fire c (put (L b) 0) old → WellFormed c new
unfolding owner span
live-well c b h old new w e = subst (WellFormed c) (sym e) (fire-well c (put (L b) 0) (is-allowed c (L b) 0 h (lit< tt)) old w)

-- a block has its kind
pub block-kind : (ws : List ℕ) (r : reading ws ≡ accepted) (b : ℕ) → b < length ws → task_at ws b ≡ name → kind (get_or ws b 0) ≡ 2
block-kind ws r b i t = (subst (λ (u : Task). Stands (names_at ws) (reach ws r b i).keys (get_or ws b 0) u) t (place-stands ws r b i)).0

-- and what has another is not started
pub not-block : (ws : List ℕ) (r : reading ws ≡ accepted) (est : List ℕ) (e : Effect) (b : ℕ) → (b ≡ 0 → ⊥) → (kind (get_or ws b 0) ≡ 2 → ⊥)
    → Fired (code ws) (blocks (code ws) e.x e.y e.z b) est est 0
unfolding code
not-block ws r est e b z n =
    let none = T_false _ (λ t. let m = listed-block ws r b (admitted-listed (code ws) (code-linked ws r) (λ a v. true) _ e.z (permissions (code ws) e.x) b t) in n (block-kind ws r b m.0 m.1)) in
    record { words = sym (fire-only-not (code ws) _ _ est none) ∙ one_block (code ws) e b est z; count = omega arith }

module _ {ws masks : List ℕ} {l : Layout} {e : Effect} {own : Sender} (s : Sends ws masks l e own) where
  abbrev c : Code
  c = code ws

  pub home-inside : own.home < l.size
  home-inside = sender-inside s.ready e.x s.sending.term s.sending.there _ s.block

  module _ (b : ℕ) (n : kind (get_or ws b 0) ≡ 2) where
    node-is : c.node b ≡ block (argument (get_or ws b 0)) (argument (get_or ws (b + 1) 0)) (argument (get_or ws (b + 2) 0))
    unfolding item_node handler_at
    node-is =
        let y = s.ready in
        node-item ws y.readable y.slice y.room b ∙ ap (λ (k : Item). node_at ws y.readable y.slice y.room k b) (item-block ws b n)

    pub block_inside : b < c.size
    unfolding code
    block_inside = go (dec_lt b (length ws))
      where
        go : Dec (b < length ws) → b < length ws
        go (yes h) = h
        go (no h) = absurd (omega (arith, n, get_or-eq_default ws 0 {n = b} (omega arith)))

    linked-node : NodeLinked c b (block (argument (get_or ws b 0)) (argument (get_or ws (b + 1) 0)) (argument (get_or ws (b + 2) 0)))
    linked-node = subst (NodeLinked c b) node-is ((linked-code s.ready).nodes b block_inside)

    pub name-small : argument (get_or ws b 0) < c.names
    name-small = linked-node.0

    module _ (est : List ℕ) where
      -- the send starts it, by the permissions of its own block
      started-by : (t : Bool) → starts_at c ws est e.x e.z own.perms.bits b ≡ t → starts_at c ws est e.x e.z (permissions c e.x) b ≡ t
      started-by t u =
          subst (λ (x : ℕ). starts_at c ws est e.x e.z x b ≡ t) (sender s.ready e.x s.sending.term s.sending.there _ s.sender) u

      -- what is delivered to it, by the numbers of the rows
      pub block-started : starts_at c ws est e.x e.z own.perms.bits b ≡ true
          → fire c ((put (L b) 0 and pass c (row_at (2 * e.y)) (sort_at 3 c) (row_at (2 * b + 1)) and sub (P b) (P e.x)) and put (row_at (2 * b)) (32 * l.lead + own.home)) est
          ≡ fire c (at_block c e.x e.y e.z b) est
      unfolding sort_at
      block-started u =
          let v = started-by true u in
          let h : 32 * l.lead + own.home ≡ made c (c.home e.x) = omega (arith, s.ready.laid.lead, sender-home s.ready e.x s.sending.term s.sending.there _ s.block) in
          rw (row-C e.y, row-B b, row-C b, h) (sym (fire-present c _ _ _ _ est (answer-so ws est e.x e.z _ b node-is v) (named-so ws est e.x e.z _ b node-is v)))

      pub block-absent : starts_at c ws est e.x e.z own.perms.bits b ≡ false → fire c (at_block c e.x e.y e.z b) est ≡ est
      block-absent u = go (delivered (delivery_to (name_of (c.node b)) e.z (permissions c e.x) (c.node b))) refl
        where
          go : (t : Bool) → delivered (delivery_to (name_of (c.node b)) e.z (permissions c e.x) (c.node b)) ≡ t → fire c (at_block c e.x e.y e.z b) est ≡ est
          go true g = fire-absent c _ _ _ _ est (named-not ws est e.x e.z _ b node-is (started-by false u) g)
          go false g = fire-only-not c _ _ est g

    -- the estimate that a send leaves is handed on
    pub block-well : {old new : List ℕ} → WellFormed c old → new ≡ fire c (at_block c e.x e.y e.z b) old → WellFormed c new
    block-well {old} w u =
        subst (WellFormed c) (sym u)
        (fire-well c (at_block c e.x e.y e.z b)
        (block-fits s.ready s.sending b linked-node.4) old w)
