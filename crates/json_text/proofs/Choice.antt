-- A number that was read, compared.
-- Assumes nothing.
use Prim.Native.Nat.{ℕ}
use mathlib.Core.Path.{◌≡◌, sym, ◌∙◌}
use mathlib.Core.Bool.{true, false}
use lib.Dec.{eqb}
use borrow.Author.Tests.{eq-eqb, ne_eqb}

pub is : {a b k : ℕ} → b ≡ a → b ≡ k → eqb a k ≡ true
is {a} {b} {k} e q = eq-eqb a k (sym e ∙ q)

pub is-not : {a b k : ℕ} → b ≡ a → (b ≡ k → ⊥) → eqb a k ≡ false
is-not {a} {b} {k} e n = ne_eqb a k (λ q. n (e ∙ q))
