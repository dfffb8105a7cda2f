-- What a node says apart from its parts is the same once its parts are renamed.
use Prim.Native.Nat.{ℕ}
use mathlib.Core.Path.{◌≡◌, refl}
use Rattle.table.specs.Code.{Node, gap, block, leaf, one, two, bind, while, branch, update}
use Rattle.calculus.specs.Elements.{makes}
use Rattle.calculus.specs.Rules.{name_of, perms_of, guarded, is_block, delivery_to}
use Rattle.renaming.specs.Renaming.{rename_node}

pub record Alike (n m : Node) : Type 0 where
  pub makings : makes n ≡ makes m
  pub names : name_of n ≡ name_of m
  pub perms : perms_of n ≡ perms_of m
  pub guards : (s : ℕ) → guarded n s ≡ guarded m s
  pub heads : is_block n ≡ is_block m
  pub deliveries : (a r s : ℕ) → delivery_to a r s n ≡ delivery_to a r s m

same : (n : Node) → Alike n n
same n = record { makings = refl; names = refl; perms = refl; guards = λ s. refl; heads = refl; deliveries = λ a r s. refl }

pub renamed-alike : (σ : ℕ → ℕ) (n : Node) → Alike (rename_node σ n) n
unfolding rename_node makes name_of perms_of guarded is_block delivery_to
renamed-alike σ gap = same gap
renamed-alike σ (block n s g) = same (block n s g)
renamed-alike σ (leaf l) = same (leaf l)
renamed-alike σ (one o a) = record { makings = refl; names = refl; perms = refl; guards = λ s. refl; heads = refl; deliveries = λ n r s. refl }
renamed-alike σ (two t a b) = record { makings = refl; names = refl; perms = refl; guards = λ s. refl; heads = refl; deliveries = λ n r s. refl }
renamed-alike σ (bind a b) = record { makings = refl; names = refl; perms = refl; guards = λ s. refl; heads = refl; deliveries = λ n r s. refl }
renamed-alike σ (while a b) = record { makings = refl; names = refl; perms = refl; guards = λ s. refl; heads = refl; deliveries = λ n r s. refl }
renamed-alike σ (branch a b d) =
    record { makings = refl; names = refl; perms = refl; guards = λ s. refl; heads = refl; deliveries = λ n r s. refl }
renamed-alike σ (update a b d) =
    record { makings = refl; names = refl; perms = refl; guards = λ s. refl; heads = refl; deliveries = λ n r s. refl }

-- where nothing is renamed
pub renamed-same : (n : Node) → rename_node (λ q. q) n ≡ n
unfolding rename_node
renamed-same gap = refl
renamed-same (block n s g) = refl
renamed-same (leaf l) = refl
renamed-same (one o a) = refl
renamed-same (two t a b) = refl
renamed-same (bind a b) = refl
renamed-same (while a b) = refl
renamed-same (branch a b d) = refl
renamed-same (update a b d) = refl
