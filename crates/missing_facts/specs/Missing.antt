-- What an estimate lacks where it does not obey a rule (document 02, wish 12): the first thing, in the order of the rule's parts, that the rule asks for and
-- the estimate does not have.
use Rattle.std.specs.Prelude.{ℕ, Bool, true, false, ◌&&◌, ◌||◌, List, [], ◌∷◌}
use Rattle.std.proofs.Math.Bool.{not}
use Rattle.calculus.specs.Constraint.{Row, Sets, Rule, none, put, sub, given, some, only, each, ◌and◌, range}

pub data Missing : Type 0 where
  nothing : Missing
  -- the row lacks this element; a live flag is the row L, with element 0
  lacks : Row → (v : ℕ) → Missing

unfoldable pub or_else : Missing → Missing → Missing
or_else nothing m = m
or_else (lacks r v) m = lacks r v

-- that of the first number of a list that has one
unfoldable pub first_of : (ℕ → Missing) → List ℕ → Missing
unfolding or_else
first_of f [] = nothing
first_of f (i ∷ is) = or_else (f i) (first_of f is)

-- some number of a list passes
unfoldable pub any_of : (ℕ → Bool) → List ℕ → Bool
any_of q [] = false
any_of q (i ∷ is) = q i || any_of q is

-- where a test holds
unfoldable pub upon : Bool → Missing → Missing
upon true m = m
upon false m = nothing

-- in an estimate whose elements are below n: parts from left to right, numbers in the order of their list, elements from the lowest on
module _ (n : ℕ) (e : Sets) where
  unfoldable pub missing : Rule → Missing
  unfolding or_else first_of any_of upon range
  missing none = nothing
  missing (put r v) = upon (not (e r v)) (lacks r v)
  missing (sub a b) = first_of (λ v. upon (e a v && not (e b v)) (lacks b v)) (range n 0)
  missing (given r v k) = upon (e r v) (missing k)
  missing (some r q k) = upon (any_of (λ v. q v && e r v) (range n 0)) (missing k)
  missing (only t k) = upon t (missing k)
  missing (each xs k) = first_of (λ i. missing (k i)) xs
  missing (k and l) = or_else (missing k) (missing l)
