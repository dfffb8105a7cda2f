-- A code whose words stand for words of another code with at least as many names, and the sets of the one read from those of the other.
use Rattle.std.specs.Prelude.{ℕ, suc, ◌+◌, ◌-◌, ◌≤◌, ◌<◌, ◌≡◌, true, false, ltb}
use mathlib.Core.List.{map, Memᴰ}
use Rattle.table.specs.Code.{Code, Node, gap, block, leaf, one, two, bind, while, branch, update, function}
use Rattle.calculus.specs.Elements.{plain, made}
use Rattle.calculus.specs.Constraint.{Row, C, B, P, L, Sets}

-- a node with its parts renamed
unfoldable pub rename_node : (ℕ → ℕ) → Node → Node
rename_node σ gap = gap
rename_node σ (block n s g) = block n s g
rename_node σ (leaf l) = leaf l
rename_node σ (one o a) = one o (σ a)
rename_node σ (two t a b) = two t (σ a) (σ b)
rename_node σ (bind a b) = bind (σ a) (σ b)
rename_node σ (while a b) = while (σ a) (σ b)
rename_node σ (branch a b d) = branch (σ a) (σ b) (σ d)
rename_node σ (update a b d) = update (σ a) (σ b) (σ d)

-- Word q of d stands for word σ q of c, which has no fewer names: the same node, scope and block there, apart from the renaming, and a
-- function's body and a block's body renamed with it.
pub record Renamed (σ : ℕ → ℕ) (d c : Code) : Type 0 where
  pub names : d.names ≤ c.names
  pub inside : (q : ℕ) → q < d.size → σ q < c.size
  pub node : (q : ℕ) → c.node (σ q) ≡ rename_node σ (d.node q)
  pub scope : (q : ℕ) → q < d.size → c.scope (σ q) ≡ map σ (d.scope q)
  pub home : (q : ℕ) → q < d.size → c.home (σ q) ≡ σ (d.home q)
  pub blocks : (b : ℕ) → Memᴰ b d.blocks → Memᴰ (σ b) c.blocks
  pub bodies : (f : ℕ) → d.node f ≡ leaf function → σ (suc f) ≡ suc (σ f)
  pub starts : (b n s g : ℕ) → d.node b ≡ block n s g → σ (b + 3) ≡ σ b + 3

unfoldable pub rename_row : (ℕ → ℕ) → Row → Row
rename_row σ (C i) = C (σ i)
rename_row σ (B i) = B (σ i)
rename_row σ (P i) = P (σ i)
rename_row σ (L i) = L (σ i)

-- an element of d below "all 64" stands for itself, and what word i makes for what word σ i of c makes
unfoldable pub rename_element : (ℕ → ℕ) → (d c : Code) → ℕ → ℕ
rename_element σ d c v = elim (ltb v (plain d)) [ true ↦ v | false ↦ made c (σ (v - plain d)) ]

-- the sets of d, read from sets of c
unfoldable pub carried : (ℕ → ℕ) → (d c : Code) → Sets → Sets
unfolding rename_row rename_element
carried σ d c e r v = e (rename_row σ r) (rename_element σ d c v)
