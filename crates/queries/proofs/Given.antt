-- What follows from an accepted table with its layout, and from a well-formed estimate of it.
use Prim.Native.Nat.{ℕ, ◌+◌, ◌*◌, ◌≤◌}
use mathlib.Core.Path.{◌≡◌}
use mathlib.Core.List.{List}
use native.Mathlib.Nat.{mul-le-mul}
use native.Mathlib.Omega.{arith}
use lib.ListN.{length, get_or}
use Rattle.table.specs.Code.{code, Linked}
use Rattle.table.proofs.Linked.{linked as code-linked}
use Rattle.table.proofs.Blocks.{head-word}
use Rattle.table.proofs.Widths.{names-most}
use Rattle.calculus.specs.Layout.{row_words, estimate_words, WellFormed}
use Rattle.rows.specs.declared.layout.Layout.{Layout}
use Rattle.rows.specs.Laid.{Sized}
use Rattle.queries.specs.Ready.{Ready}

module _ {ws links masks : List ℕ} {l : Layout} (y : Ready ws links masks l) where
  -- the table as a code
  pub linked-code : Linked (code ws)
  linked-code = code-linked ws y.readable

  pub size_is : length ws ≡ l.size
  unfolding code
  size_is = y.laid.size

  pub sized : {est : List ℕ} → WellFormed (code ws) est → Sized l est
  unfolding estimate_words row_words code
  sized {est} w =
      let small : length ws ≤ 1024 = (head-word ws y.readable).sized in
      let long : length est ≡ 2 * l.size * l.row + l.size = rw (y.laid.row, y.laid.size) at w.long in
      let wide : l.row ≤ 36 = omega (arith, names-most (get_or ws 0 0)) in
      let n : l.size ≤ 1024 = omega arith in
      let most : 2 * l.size * l.row ≤ 2048 * 36 = mul-le-mul {n₂ = 2048} {m₂ = 36} (omega arith) wide in
      record {
        size = omega arith;
        lead = omega arith;
        wide = omega arith;
        most = wide;
        long = long;
        short = omega arith;
      }
