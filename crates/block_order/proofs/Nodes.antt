-- The node of a term whose parts stand at the renumbered places is the renumbered node.
use Prim.Native.Nat.{ℕ, ◌≤◌}
use mathlib.Core.Path.{◌≡◌, refl, ◌∙◌}
use lib.Dec.{T, ltb}
use lib.ListN.{length}
use Rattle.table.specs.declared.Term.{Term}
use Rattle.table.specs.declared.Term.TheVariants as terms
use Rattle.table.specs.Words.{kind, parts, term_of}
use Rattle.table.specs.Code.{term_node}
use Rattle.table.proofs.Nodes.{parts-alike}
use Rattle.renaming.specs.Renaming.{rename_node}

module _ (π : ℕ → ℕ) (a b d : ℕ) where
  rename-term : (t : Term) → term_node t (π a) (π b) (π d) ≡ rename_node π (term_node t a b d)
  unfolding term_node rename_node
  rename-term (terms.Constant k) = refl
  rename-term (terms.Number n) = refl
  rename-term (terms.Literal n) = refl
  rename-term (terms.Name n) = refl
  rename-term (terms.Variable n) = refl
  rename-term terms.Function = refl
  rename-term terms.Apply = refl
  rename-term terms.Let = refl
  rename-term terms.Sequence = refl
  rename-term terms.If = refl
  rename-term terms.While = refl
  rename-term (terms.Operation o) = refl
  rename-term terms.Record = refl
  rename-term terms.Get = refl
  rename-term terms.Set = refl
  rename-term terms.Delete = refl
  rename-term terms.Cell = refl
  rename-term terms.Read = refl
  rename-term terms.Assign = refl
  rename-term (terms.Send s) = refl
  rename-term (terms.Exercise s) = refl

  pub term-renamed : (a' b' d' w : ℕ) → 16 ≤ kind w → kind w ≤ 36 → (T (ltb 0 (length (parts w))) → a' ≡ π a) → (T (ltb 1 (length (parts w))) → b' ≡ π b)
      → (T (ltb 2 (length (parts w))) → d' ≡ π d) → term_node (term_of w) a' b' d' ≡ rename_node π (term_node (term_of w) a b d)
  term-renamed a' b' d' w low high x y z = parts-alike a' b' d' (π a) (π b) (π d) w low high x y z ∙ rename-term (term_of w)
