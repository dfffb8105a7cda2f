-- Whether a send starts a block: what its two tests say of the code of a table.
use Prim.Native.Nat.{ℕ, ◌+◌}
use mathlib.Core.Path.{◌≡◌, refl, sym, ◌∙◌}
use mathlib.Core.Bool.{Bool, true, false, ◌&&◌, false≢true, and-true}
use mathlib.Core.List.{List}
use lib.ListN.{get_or}
use Rattle.delivery.specs.Delivery.{delivered}
use Rattle.table.specs.Words.{argument}
use Rattle.table.specs.Item.{handler_at}
use Rattle.table.specs.Code.{block, code}
use Rattle.calculus.specs.Elements.{name_element}
use Rattle.calculus.specs.Constraint.{C}
use Rattle.calculus.specs.Rules.{name_of, delivery_to}
use Rattle.calculus.specs.Layout.{sets}
use Rattle.clauses.proofs.Sorts.{row-C}
use Rattle.queries.specs.Starts.{starts_at}

both_so : (x y : Bool) → x && y ≡ true → (x ≡ true) × (y ≡ true)
both_so true y e = (refl, e)
both_so false y e = absurd (false≢true e)

-- a send at x, with r required and the sender's permissions s, and a block at b
module _ (ws est : List ℕ) (x r s b : ℕ)
    (n : (code ws).node b ≡ block (argument (get_or ws b 0)) (argument (get_or ws (b + 1) 0)) (argument (get_or ws (b + 2) 0))) where
  abbrev pub answer : Bool
  answer = delivered (delivery_to (name_of ((code ws).node b)) r s ((code ws).node b))

  abbrev pub named : Bool
  named = sets (code ws) est (C (x + 1)) (name_element (name_of ((code ws).node b)))

  both-tests : starts_at (code ws) ws est x r s b ≡ named && answer
  unfolding delivery_to name_of handler_at
  both-tests = rw (n, row-C)

  pub answer-so : starts_at (code ws) ws est x r s b ≡ true → answer ≡ true
  answer-so e = (both_so named answer (sym both-tests ∙ e)).1

  pub named-so : starts_at (code ws) ws est x r s b ≡ true → named ≡ true
  named-so e = (both_so named answer (sym both-tests ∙ e)).0

  pub named-not : starts_at (code ws) ws est x r s b ≡ false → answer ≡ true → named ≡ false
  named-not e a = rw (a, and-true) at (sym both-tests ∙ e)
