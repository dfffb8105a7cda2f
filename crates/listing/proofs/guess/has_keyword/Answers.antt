-- `listing::guess::has_keyword` meets its contract. Assumes nothing.
use Prim.Native.Nat.{ℕ}
use mathlib.Core.Path.{sym, ap, ◌∙◌}
use mathlib.Core.Bool.{not}
use mathlib.Core.List.{List}
use native.Mathlib.Omega.{arith}
use lib.Dec.{eqb}
use lib.ListN.{length}
use Rattle.listing.specs.Spelling.{prefix}
use Rattle.listing.proofs.Letters.{letters-length, keyword-short, keyword-part}
use Rattle.listing.proofs.Guessing.{prefix-starts, unused-no, used-yes}
use Rattle.listing.proofs.guess.has_keyword.Goals as goal

pub overflow_add-from-then-n-ne0 : goal.overflow_add-from-then-n-ne0
overflow_add-from-then-n-ne0 c =
    omega (arith, c.keyword_size-n.ensures, keyword-short c.args.k)

pub slice_bounds-starts_with-end : goal.slice_bounds-starts_with-end
slice_bounds-starts_with-end c =
    omega (arith, c.keyword_size-n.ensures, keyword-short c.args.k, ap length c.requires.0 ∙ letters-length)

pub returns-then-n-ne0 : goal.returns-then-n-ne0
returns-then-n-ne0 c =
    let n = c.keyword_size-n.ensures in
    c.starts_with.ensures.value
    ∙ prefix-starts _ c.args.l.now
    ∙ ap (λ (w : List ℕ). prefix w c.args.l.now) (keyword-part c.args.k _ _ c.requires.1 c.requires.0 n)
    ∙ used-yes c.args.k c.args.l.now (λ z. c.if-n-ne0.true (n ∙ z))

pub returns-else-n-ne0 : goal.returns-else-n-ne0
returns-else-n-ne0 c =
    ap (λ (n : ℕ). not (eqb n 0)) c.if-n-ne0.false ∙ unused-no c.args.k c.args.l.now (sym c.keyword_size-n.ensures ∙ c.if-n-ne0.false)
