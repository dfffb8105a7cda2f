-- `masks::word_makes` meets its contract: the code's number is the table of the definition, packed.
-- Assumes nothing.
use mathlib.Core.Path.{◌≡◌, sym, ap, ◌∙◌}
use mathlib.Core.Bool.{Bool}
use Prim.Native.Nat.{ℕ, ◌-◌, ◌*◌, ◌/◌, ◌%◌, ◌^◌, ◌<◌, ◌≤◌}
use native.Mathlib.Omega.{arith}
use lib.Dec.{eqb, eqb→eq}
use lib.ListN.{get_or, replicate, get_or-eq_default}
use Rattle.table.specs.Words.{kind, first_kind}
use Rattle.table.proofs.Constants.{at}
use Rattle.masks.specs.Masks.{makes_by_kind, word_makes}
use Rattle.masks.proofs.Sorts.{other_word}
use Rattle.masks.proofs.word_makes.Goals as goal

-- the code's number holds what each kind makes, two bits for each
makes_right : ℕ → ℕ → Bool
makes_right k x = eqb (13455328256 / 2 ^ (2 * k) % 4) (get_or makes_by_kind k 2)

past : (w : ℕ) → 36 < kind w → 2 ≡ word_makes w
unfolding word_makes makes_by_kind
past w h = let i : 21 ≤ kind w - first_kind = omega arith in sym (get_or-eq_default makes_by_kind 2 i)

entry : (w k : ℕ) → k ≡ kind w → k - first_kind < 21 → 13455328256 / 2 ^ (2 * (k - first_kind)) % 4 ≡ word_makes w
unfolding word_makes makes_by_kind makes_right
entry w k e h =
    eqb→eq _ (get_or makes_by_kind (k - first_kind) 2) (at makes_right (replicate 21 0) tt (k - first_kind) h)
    ∙ ap (λ (i : ℕ). get_or makes_by_kind (i - first_kind) 2) e

pub returns-then-kind-lt-FIRST_TERM : goal.returns-then-kind-lt-FIRST_TERM
returns-then-kind-lt-FIRST_TERM c = sym (other_word c.args.w (omega (arith, c.kind_of-kind.ensures, c.if-kind-lt-FIRST_TERM.true)))

pub returns-then-kind-gt-LAST_TERM : goal.returns-then-kind-gt-LAST_TERM
returns-then-kind-gt-LAST_TERM c = past c.args.w (omega (arith, c.kind_of-kind.ensures, c.if-kind-gt-LAST_TERM.true))

pub returns : goal.returns
returns c = entry c.args.w c.kind_of-kind.result c.kind_of-kind.ensures (omega (arith, c.if-kind-gt-LAST_TERM.false))
