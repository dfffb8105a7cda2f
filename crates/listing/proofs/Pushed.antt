-- What was pushed on a stack that grows downwards.
use Prim.Native.Nat.{ℕ, ◌+◌}
use mathlib.Core.Path.{◌≡◌, subst}
use mathlib.Core.List.{List, ◌++◌}
use lib.ListN.{length}

-- what was pushed, in other terms
pub as-left : {l m y : List ℕ} (x : List ℕ) (r : ℕ) {top : ℕ} → l ≡ m → r + length l ≡ top → y ≡ l ++ x → (r + length m ≡ top) × (y ≡ m ++ x)
as-left {l} {m} {y} x r {top} e p q = (subst (λ (k : List ℕ). r + length k ≡ top) e p, subst (λ (k : List ℕ). y ≡ k ++ x) e q)
