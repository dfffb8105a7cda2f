-- `interface::system_fault` meets its contract. Assumes nothing.
use Prim.Native.Nat.{ℕ, ◌%◌}
use mathlib.Core.Path.{◌≡◌, refl, sym}
use mathlib.Core.Bool.{Bool, not}
use mathlib.Core.List.{[], ◌∷◌}
use lib.Dec.{eqb, ltb, lit<}
use borrow.Author.Tests.{lt-ltb, le-ltb, eq-eqb, ne_eqb}
use Rattle.table.specs.Scan.{first_of}
use Rattle.interface.specs.Numbers.{system_tests}
use Rattle.interface.proofs.system_fault.Goals as goal

by_tests : {long whole : Bool} (size : ℕ) → ltb 1024 size ≡ long → eqb (size % 4) 0 ≡ whole
    → first_of ((long, 31) ∷ (not whole, 30) ∷ []) ≡ first_of (system_tests size)
unfolding system_tests
by_tests size p q = sym (λ i. first_of ((p i, 31) ∷ (not (q i), 30) ∷ []))

pub returns-then-size-gt1024 : goal.returns-then-size-gt1024
unfolding first_of
returns-then-size-gt1024 c = (by_tests _ (lt-ltb _ _ c.if-size-gt1024.true) refl, lit< tt)

pub returns-then-size-ne0 : goal.returns-then-size-ne0
unfolding first_of
returns-then-size-ne0 c = (by_tests _ (le-ltb _ _ c.if-size-gt1024.false) (ne_eqb _ _ c.if-size-ne0.true), lit< tt)

pub returns : goal.returns
unfolding first_of
returns c = sym (by_tests _ (le-ltb _ _ c.if-size-gt1024.false) (eq-eqb _ _ c.if-size-ne0.false))
