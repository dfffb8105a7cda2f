-- The permissions of a word's block, as the code reads them.
use Prim.Native.Nat.{ℕ, ◌≤◌}
use mathlib.Core.Path.{◌≡◌, refl, sym, ap, ◌∙◌}
use mathlib.Core.List.{List}
use lib.ListN.{length}
use Rattle.table.specs.declared.Item.{Item}
use Rattle.table.specs.declared.Item.TheVariants as items
use Rattle.table.specs.declared.Term.{Term}
use Rattle.table.specs.declared.Term.TheVariants as terms
use Rattle.table.specs.Scan.{accepted, reading}
use Rattle.table.specs.Item.{item_at, item_perms}
use Rattle.table.specs.Code.{code, term_node}
use Rattle.table.specs.Links.{link_at, linked}
use Rattle.table.proofs.Nodes.{item_node, node-item, home-link}
use Rattle.calculus.specs.Rules.{perms_of, permissions}

term-perms : (t : Term) (a b d : ℕ) → perms_of (term_node t a b d) ≡ 0
unfolding perms_of term_node
term-perms (terms.Constant k) a b d = refl
term-perms (terms.Number n) a b d = refl
term-perms (terms.Literal n) a b d = refl
term-perms (terms.Name n) a b d = refl
term-perms (terms.Variable n) a b d = refl
term-perms terms.Function a b d = refl
term-perms terms.Apply a b d = refl
term-perms terms.Let a b d = refl
term-perms terms.Sequence a b d = refl
term-perms terms.If a b d = refl
term-perms terms.While a b d = refl
term-perms (terms.Operation o) a b d = refl
term-perms terms.Record a b d = refl
term-perms terms.Get a b d = refl
term-perms terms.Set a b d = refl
term-perms terms.Delete a b d = refl
term-perms terms.Cell a b d = refl
term-perms terms.Read a b d = refl
term-perms terms.Assign a b d = refl
term-perms (terms.Send s) a b d = refl
term-perms (terms.Exercise s) a b d = refl

item-perms : (x : Item) (a b d : ℕ) → item_perms x ≡ perms_of (item_node x a b d)
unfolding item_perms item_node perms_of
item-perms items.Gap a b d = refl
item-perms (items.Block h) a b d = refl
item-perms (items.Term t) a b d = sym (term-perms t a b d)

-- of a term
pub permissions-are : (ws : List ℕ) → reading ws ≡ accepted → (slice : List ℕ) → length ws ≤ length slice → (p : ℕ) (t : Term)
    → item_at ws p ≡ items.Term t → item_perms (item_at ws (link_at (linked ws slice) p).home) ≡ permissions (code ws) p
unfolding permissions
permissions-are ws e slice room p t h =
    let q : ℕ = (link_at (linked ws slice) p).home in
    item-perms (item_at ws q) _ _ _
    ∙ ap perms_of (sym (node-item ws e slice room q))
    ∙ ap (λ (n : ℕ). perms_of ((code ws).node n)) (sym (home-link ws e slice room p t h))
