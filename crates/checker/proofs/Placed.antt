-- The word at p of an accepted table: what stands there, and where its parts are.
use Prim.Native.Nat.{ℕ, ◌+◌, ◌<◌}
use mathlib.Core.Path.{◌≡◌, sym, ap, ap₂, ◌∙◌, subst}
use mathlib.Core.Bool.{Bool}
use mathlib.Core.List.{List}
use native.Mathlib.Omega.{arith}
use lib.ListN.{length, get_or}
use Rattle.table.specs.declared.Item.TheVariants as items
use Rattle.table.specs.declared.Term.{Term as TableTerm}
use Rattle.table.specs.declared.Term.TheVariants as terms
use Rattle.table.specs.Item.{item_at}
use Rattle.table.specs.Links.{link_at, LinksOf}
use Rattle.table.specs.Code.{Code, Node, Within, NodeLinked, code, term_node}
use Rattle.table.proofs.Nodes.{binder-link}
use Rattle.calculus.specs.Constraint.{C, Sets, Rule, Obeys, put}
use Rattle.calculus.specs.Rules.{flow, sender}
use Rattle.calculus.specs.Layout.{sets}
use Rattle.rows.specs.declared.layout.Layout.{Layout}
use Rattle.rows.specs.Laid.{LaidOut, Sized}
use Rattle.clauses.proofs.OfWord.{sited}
use Rattle.queries.specs.Ready.{Ready, At}
use Rattle.queries.proofs.Given.{linked-code, sized}
use Rattle.checker.specs.Decides.{Decides, Checked, CheckedBy, MasksOf}
use Rattle.checker.proofs.Laws.{decided, put_is}
use Rattle.checker.specs.Words.{Accepted}

module _ {ws links masks : List ℕ} {l : Layout} (y : Ready ws links masks l) where
  pub masks-of : MasksOf l masks
  masks-of = record { code = code ws; linked = linked-code y; laid = y.laid; masked = y.masked }

  pub links-of : LinksOf ws links
  links-of = record { slice = y.slice; room = y.room; made = y.from }

module _ {ws links masks est : List ℕ} {l : Layout} {p : ℕ} (g : At ws links masks est l p) where
  abbrev y : Ready ws links masks l
  y = g.ready

  abbrev c : Code
  c = code ws

  abbrev e : Sets
  e = sets c est

  pub in_code : p < c.size
  in_code = omega (arith, g.inside, y.laid.size)

  pub sizes : Sized l est
  sizes = sized y g.well

  pub accepted-at : Accepted ws l
  accepted-at = record { readable = y.readable; laid = y.laid }

  -- the parts are words of the code
  pub part_at : {d h : ℕ} {x : List ℕ} → Within c d h x → d < l.size
  part_at i = omega (arith, i.inside, y.laid.size)

  -- ---- what a test decides

  pub on : {k : Code → Rule} {r : Bool} → Checked l est k r → Decides e (k c) r
  on x = x c y.laid g.well

  pub by : {k : Code → Rule} {r : Bool} → CheckedBy l est masks k r → Decides e (k c) r
  by x = x c (linked-code y) y.laid g.well y.masked

  pub value : {v w : ℕ} {r : Bool} → ((d : Code) → LaidOut d l → r ≡ sets d est (C p) v) → v ≡ w → Decides e (put (C p) w) r
  value x z = put_is (x c y.laid ∙ ap (e (C p)) z)

  -- ---- a term by its case, its second part at d and its third at n

  -- what a term asks of no receiver
  abbrev pub Silent : TableTerm → Type 0
  Silent t = (b x y z : ℕ) → Obeys e (sender c b p (term_node t x y z))

  module _ {x t : TableTerm} (i : item_at ws p ≡ items.Term x) (q : x ≡ t) where
    pub there : item_at ws p ≡ items.Term t
    there = i ∙ ap items.Term q

    module _ {d n : ℕ} (z : d ≡ (link_at links (p + 1)).end) (s : n ≡ (link_at links (link_at links (p + 1)).end).end) where
      pub node-here : c.node p ≡ term_node t (p + 1) d n
      node-here =
          subst (λ (ls : List ℕ). c.node p ≡ term_node t (p + 1) (link_at ls (p + 1)).end (link_at ls (link_at ls (p + 1)).end).end) (sym y.from)
          (sited ws y.readable y.slice y.room p t there).node
          ∙ ap₂ (term_node t (p + 1)) (sym z) (sym s)

      pub linked-here : NodeLinked c p (term_node t (p + 1) d n)
      linked-here = subst (NodeLinked c p) node-here ((linked-code y).nodes p in_code)

      -- what a test of the term in this case decides
      pub out : Silent t → {r u : Bool} → r ≡ u → Decides e (flow c p (term_node t (p + 1) d n)) u
          → Silent x × Decides e (flow c p (c.node p)) r
      out f {r} {u} k o =
          (subst Silent (sym q) f, decided k (subst (λ (m : Node). Decides e (flow c p m) u) (sym node-here) o))

  -- ---- a variable

  module _ {n b : ℕ} (i : item_at ws p ≡ items.Term (terms.Variable n)) (q : b ≡ (link_at links p).binder) where
    pub binder-is : b ≡ get_or (c.scope p) n 0
    binder-is =
        q ∙ sym (binder-link ws y.readable y.slice y.room p n i ∙ ap (λ (ls : List ℕ). (link_at ls p).binder) (sym y.from))

    pub binder-in : n < length (c.scope p) → b < l.size
    binder-in k = omega (arith, (linked-code y).binders p n in_code k, binder-is, y.laid.size)
