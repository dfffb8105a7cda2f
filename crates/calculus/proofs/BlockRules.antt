-- A rule for each block, fired for one block after the other.
use Prim.Native.Nat.{ℕ, ◌+◌, ◌≤◌, ◌<◌}
use mathlib.Core.Path.{◌≡◌, sym, ap, ◌∙◌}
use mathlib.Core.Logic.{⊎_elim}
use mathlib.Core.List.{List}
use native.Mathlib.Omega.{arith}
use lib.ListN.{length}
use Rattle.table.specs.Scan.{name, accepted, reading}
use Rattle.table.specs.Code.{code, task_at, end_of}
use Rattle.table.proofs.Blocks.{Follows, blocks-first, blocks-next, blocks_end}
use Rattle.table.proofs.BlockLoop.{blocks_on}
use Rattle.calculus.specs.Constraint.{Rule, each}
use Rattle.calculus.specs.Estimate.{fire}
use Rattle.calculus.proofs.Folds.{each_nil, each-cons}

module _ (ws : List ℕ) (e : reading ws ≡ accepted) (k : ℕ → Rule) where
  pub all_start : (est : List ℕ) → fire (code ws) (each (blocks_on ws 1) k) est ≡ fire (code ws) (each (code ws).blocks k) est
  unfolding code
  all_start est = ap (λ (xs : List ℕ). fire (code ws) (each xs k) est) (sym (blocks-first ws e))

  pub all-step : (b : ℕ) → b < length ws → task_at ws b ≡ name → (est new : List ℕ) → new ≡ fire (code ws) (k b) est
      → fire (code ws) (each (blocks_on ws (end_of ws (b + 3))) k) new ≡ fire (code ws) (each (blocks_on ws b) k) est
  all-step b i t est new w =
      ap (fire (code ws) (each (blocks_on ws (end_of ws (b + 3))) k)) w
      ∙ sym (each-cons (code ws) b (blocks_on ws (end_of ws (b + 3))) k est)
      ∙ ap (λ (xs : List ℕ). fire (code ws) (each xs k) est) (sym (blocks-next ws e b i t))

  pub all_end : (b : ℕ) → Follows ws b → length ws ≤ b → (est : List ℕ) → fire (code ws) (each (blocks_on ws b) k) est ≡ est
  all_end b f n est =
      let z : b ≡ length ws = ⊎_elim (λ x. x) (λ x. absurd (omega (arith, x.0))) f in
      ap (λ (x : ℕ). fire (code ws) (each (blocks_on ws x) k) est) z
      ∙ ap (λ (xs : List ℕ). fire (code ws) (each xs k) est) (blocks_end ws e)
      ∙ each_nil (code ws) k est
