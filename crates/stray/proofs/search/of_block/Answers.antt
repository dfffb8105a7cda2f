-- `stray::search::of_block` meets its contract: the second test counts where the first holds.
-- Assumes nothing.
use mathlib.Core.Path.{◌≡◌, sym, ap, ◌∙◌}
use mathlib.Core.Bool.{Bool, false, ◌&&◌}
use mathlib.Core.List.{List}
use Prim.Native.Nat.{ℕ, ◌*◌, ◌/◌, ◌%◌, ◌<◌}
use native.Mathlib.Omega.{arith}
use borrow.Author.Tests.{eq-eqb, ne_eqb}
use lib.Dec.{eqb}
use lib.ListN.{length, get_or}
use Rattle.table.specs.Words.{kind}
use Rattle.table.specs.Scan.{accepted, reading}
use Rattle.table.specs.Code.{code}
use Rattle.calculus.specs.Rules.{is_block}
use Rattle.stray.specs.Stray.{of_block}
use Rattle.stray.proofs.Named.{kind-block}
use Rattle.stray.proofs.search.of_block.Goals as goal

even : (ws : List ℕ) → reading ws ≡ accepted → (r : ℕ) → r < 2 * length ws → r % 2 ≡ 0 → eqb (kind (get_or ws (r / 2) 0)) 2 ≡ of_block (code ws) r
unfolding of_block
even ws e r h z =
    kind-block ws e (r / 2) (omega arith) ∙ ap (λ (b : Bool). b && is_block ((code ws).node (r / 2))) (sym (eq-eqb (r % 2) 0 z))

odd : (ws : List ℕ) (r : ℕ) → (r % 2 ≡ 0 → ⊥) → false ≡ of_block (code ws) r
unfolding of_block
odd ws r n = ap (λ (b : Bool). b && is_block ((code ws).node (r / 2))) (sym (ne_eqb (r % 2) 0 n))

pub returns-then-r-eq0 : goal.returns-then-r-eq0
returns-then-r-eq0 c =
    let a = c.args in
    ap (λ (n : ℕ). eqb n 2) c.kind_of.ensures ∙ even a.words.now c.requires.0 a.r c.requires.1 c.if-r-eq0.true

pub returns-else-r-eq0 : goal.returns-else-r-eq0
returns-else-r-eq0 c =
    let a = c.args in ne_eqb (a.r % 2) 0 c.if-r-eq0.false ∙ odd a.words.now a.r c.if-r-eq0.false
