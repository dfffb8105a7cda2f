-- A clause that sets obey for all targets they obey for each; what is true of each clause of a list.
use Prim.Native.Nat.{ℕ, zero, suc, ◌+◌, ◌≤◌, ◌<◌}
use mathlib.Core.List.{List, [], ◌∷◌, Memᴰ}
use native.Mathlib.Decide.{dec_lt}
use native.Mathlib.Omega.{arith}
use lib.Dec.{T}
use lib.ListN.{get_or}
use Rattle.delivery.specs.Delivery.{delivered}
use Rattle.table.specs.Code.{Code, Node, NodeLinked, Linked, gap, block, leaf, one, two, bind, while, branch, update}
use Rattle.calculus.specs.Elements.{made, nothing, is_function, is_record, is_cell, makes}
use Rattle.calculus.specs.Constraint.{C, Sets, Obeys, Rule}
use Rattle.calculus.specs.Rules.{name_of, guarded, delivery_to, permissions}
use Rattle.calculus.proofs.Deliveries.{delivered-parts}
use Rattle.calculus.proofs.Ranges.{below_in}
use Rattle.clauses.specs.declared.Clause.{Clause}
use Rattle.clauses.specs.declared.Test.{Test}
use Rattle.clauses.specs.declared.Test.TheVariants as tests
use Rattle.clauses.specs.declared.What.{What}
use Rattle.clauses.specs.declared.What.TheVariants as whats
use Rattle.clauses.specs.Asks.{thing_at, under, for_thing, things, blocks, effect, asks}
use Rattle.clauses.specs.Clauses.{never}

-- each clause of a list
abbrev pub Every : (Clause → Type 0) → List Clause → Type 0
Every q [] = Unit {0}
Every q (x ∷ xs) = q x × Every q xs

pub every-at : (q : Clause → Type 0) → q never → (xs : List Clause) → Every q xs → (k : ℕ) → q (get_or xs k never)
every-at q n [] a k = n
every-at q n (x ∷ xs) a zero = a.0
every-at q n (x ∷ xs) a (suc k) = every-at q n xs a.1 k

pub at_every : (q : Clause → Type 0) (xs : List Clause) → ((k : ℕ) → q (get_or xs k never)) → Every q xs
at_every q [] a = tt
at_every q (x ∷ xs) a = (a zero, at_every q xs (λ k. a (suc k)))

-- e obeys a clause, for all targets or for the target f
abbrev pub Asked : Code → Sets → ℕ → Clause → Type 0
Asked c e f x = Obeys e (asks c x f)

module _ (c : Code) (k : Linked c) (e : Sets) where
  module _ (d a v : ℕ) (i j : Rule) (g : Obeys e i → Obeys e j) where
    under-map : (t : Test) → Obeys e (under c t d a v i) → Obeys e (under c t d a v j)
    unfolding under
    under-map tests.Never o = tt
    under-map tests.Free o = g o
    under-map tests.Has o = λ h. g (o h)
    under-map tests.Some o = λ w s h. g (o w s h)
    under-map tests.Text o = λ w s h. g (o w s h)
    under-map tests.TextHas o = λ w s h m. g (o w s h m)
    under-map tests.TextSome o = λ w s h x r m. g (o w s h x r m)

  nothing-thing : (z : ℕ) → T (thing_at z nothing) → ⊥
  unfolding thing_at is_function is_record is_cell
  nothing-thing zero t = t
  nothing-thing (suc zero) t = t
  nothing-thing (suc (suc n)) t = t

  pub gap-thing : (z f : ℕ) → c.size ≤ f → T (thing_at z (makes (c.node f))) → ⊥
  unfolding makes
  gap-thing z f h t = nothing-thing z (rw (k.outside f h) at t)

  things-narrow : (w : What) (x y z f : ℕ) → Obeys e (things c w x y z 0) → Obeys e (things c w x y z f)
  unfolding things
  things-narrow w x y z zero o = o
  things-narrow w x y z (suc f) o = λ t. go t (dec_lt (suc f) c.size)
    where
      go : T (thing_at z (makes (c.node (suc f)))) → Dec (suc f < c.size) → T (e (C (x + 1)) (made c (suc f))) → Obeys e (for_thing w x y (suc f))
      go t (yes i) = o (suc f) (below_in i) t
      go t (no i) = absurd (gap-thing z (suc f) (omega arith) t)

  listed-node : (b : ℕ) (n : Node) → NodeLinked c b n → (s : ℕ) → T (guarded n s) → Memᴰ b c.blocks
  unfolding guarded
  listed-node b gap l s t = absurd t
  listed-node b (block n q g) l s t = l.4
  listed-node b (leaf m) l s t = absurd t
  listed-node b (one m a) l s t = absurd t
  listed-node b (two m a d) l s t = absurd t
  listed-node b (bind a d) l s t = absurd t
  listed-node b (while a d) l s t = absurd t
  listed-node b (branch a d n) l s t = absurd t
  listed-node b (update a d n) l s t = absurd t

  -- what has a guard is listed as a block
  pub listed-guarded : (b s : ℕ) → T (guarded (c.node b) s) → Memᴰ b c.blocks
  unfolding guarded
  listed-guarded b s t = go (dec_lt b c.size)
    where
      go : Dec (b < c.size) → Memᴰ b c.blocks
      go (yes i) = listed-node b (c.node b) (k.nodes b i) s t
      go (no i) = absurd (rw (k.outside b (omega arith)) at t)

  pub admitted-listed : (n r s b : ℕ) → T (delivered (delivery_to n r s (c.node b))) → Memᴰ b c.blocks
  admitted-listed n r s b t = listed-guarded b s (delivered-parts n r s (c.node b) t).2

  blocks-narrow : (x y z f : ℕ) → Obeys e (blocks c x y z 0) → Obeys e (blocks c x y z f)
  unfolding blocks
  blocks-narrow x y z zero o = o
  blocks-narrow x y z (suc f) o = λ t. o (suc f) (admitted-listed (name_of (c.node (suc f))) z (permissions c x) (suc f) t) t

  module _ (x y z f : ℕ) where
    effect-narrow : (w : What) → Obeys e (effect c w x y z 0) → Obeys e (effect c w x y z f)
    unfolding effect
    effect-narrow whats.Live o = o
    effect-narrow whats.Put o = o
    effect-narrow whats.Fill o = o
    effect-narrow whats.Flow o = o
    effect-narrow whats.Pass o = o
    effect-narrow whats.Permit o = o
    effect-narrow whats.Operate o = o
    effect-narrow whats.Part o = o
    effect-narrow whats.Parts o = o
    effect-narrow whats.Branches o = o
    effect-narrow whats.Enter o = things-narrow whats.Enter x y z f o
    effect-narrow whats.Lower o = things-narrow whats.Lower x y z f o
    effect-narrow whats.Hand o = things-narrow whats.Hand x y z f o
    effect-narrow whats.Take o = things-narrow whats.Take x y z f o
    effect-narrow whats.Back o = things-narrow whats.Back x y z f o
    effect-narrow whats.Send o = blocks-narrow x y z f o

  -- a clause that is obeyed for all targets is obeyed for each
  pub asked-narrow : (x : Clause) (f : ℕ) → Asked c e 0 x → Asked c e f x
  unfolding asks
  asked-narrow x f o =
      under-map x.guard.d x.guard.a x.guard.v _ _ (effect-narrow x.effect.x x.effect.y x.effect.z f x.effect.what) x.guard.test o
