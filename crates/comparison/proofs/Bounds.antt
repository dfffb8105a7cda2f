-- A leak compared with a bound: which bound, and what is said within it and over it.
use Prim.Native.Nat.{ℕ, ◌-◌}
use mathlib.Core.Path.{◌≡◌, sym, ap, ap₂, ◌∙◌}
use mathlib.Core.Bool.{Bool, true, false, not}
use native.Mathlib.Omega.{arith}
use lib.Bits.{bit_and}
use lib.Count.{count_trailing_zeros, trailing_of_zero}
use borrow.Author.Tests.{eqb-true, eq-eqb, ne_eqb}
use Rattle.permset.specs.Sets.{difference, within, lowest}
use Rattle.calculus.specs.Answer.{verdict, standing_bound, bound_used}
use Rattle.comparison.specs.Values.{compare}

pub standing-bound : (bound : ℕ) → bound ≡ standing_bound → 0 ≡ bound_used bound
unfolding bound_used
standing-bound bound e = sym (rw (eq-eqb bound standing_bound e, bound_used))

pub given-bound : (bound : ℕ) → (bound ≡ standing_bound → ⊥) → bound ≡ bound_used bound
unfolding bound_used
given-bound bound e = sym (rw (ne_eqb bound standing_bound e, bound_used))

pub within-bound : (leak bound facts : ℕ) → within leak bound ≡ true
    → verdict (record { leak = leak; bound = bound; over = false; first = 32; facts = facts }) ≡ compare leak bound facts
unfolding compare within difference lowest
within-bound leak bound facts e =
    let none : leak - bit_and leak bound ≡ 0 = omega (arith, eqb-true (bit_and leak bound) leak e) in
    ap₂ (λ (o : Bool) (f : ℕ). verdict (record { leak = leak; bound = bound; over = o; first = f; facts = facts }))
    (sym (ap not e))
    (sym (ap (count_trailing_zeros 32) none ∙ trailing_of_zero 32))

pub over-bound : (leak bound facts : ℕ) → within leak bound ≡ false
    → verdict (record { leak = leak; bound = bound; over = true; first = lowest (difference leak bound); facts = facts })
    ≡ compare leak bound facts
unfolding compare
over-bound leak bound facts e =
    ap (λ (o : Bool). verdict (record { leak = leak; bound = bound; over = o; first = lowest (difference leak bound); facts = facts }))
    (sym (ap not e))
