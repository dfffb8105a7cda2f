-- `checker::tests::lowered` meets its contract. Assumes nothing.
use mathlib.Core.Path.{refl, sym, subst}
use native.Mathlib.Omega.{arith}
use lib.Dec.{T}
use Rattle.checker.proofs.Lowered.{lowered_none}
use Rattle.checker.proofs.tests.lowered.Goals as goal

pub returns-then-obeyed : goal.returns-then-obeyed
returns-then-obeyed c = λ e k d. lowered_none (λ q h z. d.yes (subst T (sym c.if-obeyed.true) tt))

pub returns-then-p-below : goal.returns-then-p-below
returns-then-p-below c = λ e k d. record { most = omega arith; obeyed = λ q h z. absurd (omega arith); broken = λ h a. subst T c.if-obeyed.false (d.no (a refl)) }

pub returns-else-p-below : goal.returns-else-p-below
returns-else-p-below c = λ e k d. record { most = omega arith; obeyed = λ q h z. absurd (omega arith); broken = λ h. absurd (omega arith) }
