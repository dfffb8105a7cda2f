-- What a clause asks, as a rule: its guard is a condition on the sets, its effect what has to be in them.
use Rattle.std.specs.Prelude.{ℕ, zero, suc, ◌+◌, ◌/◌, ◌%◌, Bool, true, false, not, eqb}
use Rattle.permset.specs.Sets.{width, member}
use Rattle.table.specs.Words.{operation_of}
use Rattle.table.specs.Code.{Code}
use Rattle.calculus.specs.Elements.{plain, made, is_string, Making, is_function, is_record, is_cell, makes, sendable, any_record, results}
use Rattle.calculus.specs.Constraint.{Row, C, B, P, Rule, none, put, sub, given, some, only, each, every, ◌and◌}
use Rattle.calculus.specs.Rules.{delivering, live, fill, pass, part, waiting}
use Rattle.rows.specs.Mask.{made_as}
use Rattle.clauses.specs.declared.Test.{Test}
use Rattle.clauses.specs.declared.Test.TheVariants as tests
use Rattle.clauses.specs.declared.What.{What}
use Rattle.clauses.specs.declared.What.TheVariants as whats
use Rattle.clauses.specs.declared.Clause.{Clause}

-- the row with a number: 2i is C(i), 2i + 1 is B(i)
unfoldable pub row_at : ℕ → Row
row_at n = elim (eqb (n % 2) 0) [ true ↦ C (n / 2) | false ↦ B (n / 2) ]

-- the elements of a mask, by its number: functions, records and 7, cells, what may be sent
unfoldable pub sort_at : ℕ → Code → ℕ → Bool
sort_at zero c v = made_as c is_function v
sort_at (suc zero) c v = any_record c v
sort_at (suc (suc zero)) c v = made_as c is_cell v
sort_at (suc (suc (suc n))) c v = sendable c v

-- the things of a mask, by its number
unfoldable pub thing_at : ℕ → Making → Bool
thing_at zero m = is_function m
thing_at (suc zero) m = is_record m
thing_at (suc (suc n)) m = is_cell m

-- ---- guards

unfoldable pub under : Code → Test → (d a v : ℕ) → Rule → Rule
under c tests.Never d a v k = none
under c tests.Free d a v k = k
under c tests.Has d a v k = given (C a) v k
under c tests.Some d a v k = some (C a) (sort_at v c) k
under c tests.Text d a v k = some (C d) is_string k
under c tests.TextHas d a v k = some (C d) is_string (given (C a) v k)
under c tests.TextSome d a v k = some (C d) is_string (some (C a) (sort_at v c) k)

-- ---- effects

-- what is asked for the thing f
unfoldable pub for_thing : What → (x y f : ℕ) → Rule
for_thing whats.Live x y f = none
for_thing whats.Put x y f = none
for_thing whats.Fill x y f = none
for_thing whats.Flow x y f = none
for_thing whats.Pass x y f = none
for_thing whats.Permit x y f = none
for_thing whats.Operate x y f = none
for_thing whats.Part x y f = none
for_thing whats.Parts x y f = none
for_thing whats.Branches x y f = none
for_thing whats.Enter x y f = live (suc f)
for_thing whats.Lower x y f = sub (P (suc f)) (P x)
for_thing whats.Hand x y f = sub (row_at y) (B f)
for_thing whats.Take x y f = sub (B f) (row_at y)
for_thing whats.Back x y f = sub (C (suc f)) (row_at y)
for_thing whats.Send x y f = none

module _ (c : Code) where
  -- the thing f of the mask z, where C(x + 1) has it
  abbrev pub at_thing : What → (x y z f : ℕ) → Rule
  at_thing w x y z f = only (thing_at z (makes (c.node f))) (given (C (x + 1)) (made c f) (for_thing w x y f))

  -- the block b, where the send at x may start it for a name in C(x + 1)
  abbrev pub at_block : (x y z b : ℕ) → Rule
  at_block x y z b =
      delivering c x z (x + 1) b
      ((live b and pass c (C y) (sendable c) (B b) and sub (P b) (P x)) and put (C b) (made c (c.home x)))

  -- all targets, or the one target f where it is not 0
  unfoldable pub things : What → (x y z f : ℕ) → Rule
  things w x y z zero = every c.size (at_thing w x y z)
  things w x y z (suc f) = at_thing w x y z (suc f)

  unfoldable pub blocks : (x y z f : ℕ) → Rule
  blocks x y z zero = each c.blocks (at_block x y z)
  blocks x y z (suc f) = at_block x y z (suc f)

  unfoldable pub effect : What → (x y z f : ℕ) → Rule
  effect whats.Live x y z f = live x
  effect whats.Put x y z f = put (row_at x) y
  effect whats.Fill x y z f = fill c (row_at x)
  effect whats.Flow x y z f = sub (row_at x) (row_at y)
  effect whats.Pass x y z f = pass c (row_at x) (sort_at z c) (row_at y)
  effect whats.Permit x y z f = every width (λ i. only (member y i) (put (P x) i))
  effect whats.Operate x y z f =
      every (plain c)
      (λ u. given (C (x + 1)) u (every (plain c) (λ v. given (C y) v (each (results c (operation_of z) u v) (λ w. put (C x) w)))))
  effect whats.Part x y z f = part x y
  effect whats.Parts x y z f = part x (x + 1) and only (not (eqb y 0)) (part x y) and only (not (eqb z 0)) (part x z)
  effect whats.Branches x y z f = part x (x + 1) and waiting x y and only (not (eqb z 0)) (waiting x z)
  effect whats.Enter x y z f = things whats.Enter x y z f
  effect whats.Lower x y z f = things whats.Lower x y z f
  effect whats.Hand x y z f = things whats.Hand x y z f
  effect whats.Take x y z f = things whats.Take x y z f
  effect whats.Back x y z f = things whats.Back x y z f
  effect whats.Send x y z f = blocks x y z f

  -- ---- clauses

  -- what a clause asks, for all targets of its effect or (f not 0) for the target f
  unfoldable pub asks : Clause → ℕ → Rule
  asks k f =
      under c k.guard.test k.guard.d k.guard.a k.guard.v (effect k.effect.what k.effect.x k.effect.y k.effect.z f)
