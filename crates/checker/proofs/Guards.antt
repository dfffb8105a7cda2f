-- The word at p by the item that stands there: its node, and its guard, which only a block has.
use Prim.Native.Nat.{ℕ, ◌+◌, ◌<◌}
use mathlib.Core.Path.{◌≡◌, refl, sym, ap, ◌∙◌, subst}
use mathlib.Core.Bool.{Bool, false}
use mathlib.Core.List.{List}
use native.Mathlib.Omega.{arith}
use Rattle.permset.specs.Sets.{within}
use Rattle.table.specs.declared.Handler.{Handler}
use Rattle.table.specs.declared.Item.{Item}
use Rattle.table.specs.declared.Item.TheVariants as items
use Rattle.table.specs.declared.Term.{Term}
use Rattle.table.specs.declared.Term.TheVariants as terms
use Rattle.table.specs.Item.{item_at}
use Rattle.table.specs.Code.{Code, Node, NodeLinked, gap, block, code, term_node}
use Rattle.table.proofs.Linked.{linked as code-linked}
use Rattle.table.proofs.Nodes.{item_node, node_at, node-item}
use Rattle.calculus.specs.Rules.{guarded}
use Rattle.rows.specs.declared.layout.Layout.{Layout}
use Rattle.checker.specs.Words.{Accepted}

no-guard : (t : Term) (x y z s : ℕ) → false ≡ guarded (term_node t x y z) s
unfolding term_node guarded
no-guard (terms.Constant k) x y z s = refl
no-guard (terms.Number n) x y z s = refl
no-guard (terms.Literal n) x y z s = refl
no-guard (terms.Name n) x y z s = refl
no-guard (terms.Variable n) x y z s = refl
no-guard terms.Function x y z s = refl
no-guard terms.Apply x y z s = refl
no-guard terms.Let x y z s = refl
no-guard terms.Sequence x y z s = refl
no-guard terms.If x y z s = refl
no-guard terms.While x y z s = refl
no-guard (terms.Operation o) x y z s = refl
no-guard terms.Record x y z s = refl
no-guard terms.Get x y z s = refl
no-guard terms.Set x y z s = refl
no-guard terms.Delete x y z s = refl
no-guard terms.Cell x y z s = refl
no-guard terms.Read x y z s = refl
no-guard terms.Assign x y z s = refl
no-guard (terms.Send r) x y z s = refl
no-guard (terms.Exercise r) x y z s = refl

module _ {ws : List ℕ} {l : Layout} (a : Accepted ws l) (p : ℕ) where
  abbrev c : Code
  c = code ws

  node-of : {x : Item} → item_at ws p ≡ x → c.node p ≡ node_at ws a.readable ws (omega arith) x p
  node-of i = node-item ws a.readable ws (omega arith) p ∙ ap (λ (z : Item). node_at ws a.readable ws (omega arith) z p) i

  guard-by : {n : Node} → c.node p ≡ n → (s : ℕ) {b : Bool} → b ≡ guarded n s → b ≡ guarded (c.node p) s
  guard-by e s q = q ∙ ap (λ (n : Node). guarded n s) (sym e)

  pub gap-node : item_at ws p ≡ items.Gap → c.node p ≡ gap
  unfolding item_node
  gap-node i = node-of i

  pub gap-guard : item_at ws p ≡ items.Gap → (s : ℕ) → false ≡ guarded (c.node p) s
  unfolding guarded
  gap-guard i s = guard-by (gap-node i) s refl

  pub term-guard : {t : Term} → item_at ws p ≡ items.Term t → (s : ℕ) → false ≡ guarded (c.node p) s
  unfolding item_node
  term-guard {t} i s = guard-by (node-of i) s (no-guard t _ _ _ s)

  module _ {h : Handler} (i : item_at ws p ≡ items.Block h) where
    pub block-node : c.node p ≡ block h.name h.perms.bits h.guard.bits
    unfolding item_node
    block-node = node-of i

    pub block-guard : (s : ℕ) → within h.guard.bits s ≡ guarded (c.node p) s
    unfolding guarded
    block-guard s = guard-by block-node s refl

    pub body-in : p < l.size → p + 3 < l.size
    body-in j =
        omega (arith, (subst (NodeLinked c p) block-node ((code-linked ws a.readable).nodes p (omega (arith, a.laid.size)))).3.inside, a.laid.size)
