-- The least estimate: what a rule does to the words of an estimate, in place and from left to right, repeated until nothing changes.
use Prim.Native.Nat.{ℕ, zero, suc, ◌+◌, ◌*◌}
use mathlib.Core.List.{List, [], ◌∷◌}
use Rattle.std.specs.Prelude.{Bool, ◌&&◌, replicate, eqb}
use Rattle.std.proofs.Math.Bool.{true, false}
use Rattle.std.proofs.Math.ListN.{get_or}
use Rattle.std.specs.Int.Count.{ones_in}
use Rattle.permset.specs.Sets.{width, union}
use Rattle.table.specs.Code.{Code}
use Rattle.calculus.specs.Elements.{elements}
use Rattle.calculus.specs.Constraint.{Row, P, Rule, none, put, sub, given, some, only, each, every, ◌and◌}
use Rattle.calculus.specs.Rules.{rule, guarded}
use Rattle.calculus.specs.Layout.{mark, pour, estimate_words, base, span, place, sets, content}

-- ---- computing: `strict` and `whole` hand on a number and a list that are worked out

unfoldable pub strict : {A : Type 0} → ℕ → (ℕ → A) → A
strict zero k = k zero
strict (suc n) k = k (suc n)

unfoldable pub whole : {A : Type 0} → List ℕ → (List ℕ → A) → A
unfolding strict
whole [] k = k []
whole (x ∷ xs) k = strict x (λ y. whole xs (λ ys. k (y ∷ ys)))

-- ---- one rule

-- one of the n numbers from i on passes the test
unfoldable pub any_from : ℕ → ℕ → (ℕ → Bool) → Bool
any_from zero i q = false
any_from (suc n) i q = elim (q i) [ true ↦ true | false ↦ any_from n (suc i) q ]

-- f at each number of a list in turn
unfoldable pub through : List ℕ → (ℕ → List ℕ → List ℕ) → List ℕ → List ℕ
unfolding whole
through [] f ws = ws
through (x ∷ xs) f ws = whole (f x ws) (through xs f)

module _ (c : Code) where
  -- the test of `some`: the row has an element with the property q
  unfoldable pub found : List ℕ → Row → (ℕ → Bool) → Bool
  unfolding any_from span sets
  found ws r q = any_from (span c r) 0 (λ v. q v && sets c ws r v)

  unfoldable pub fire : Rule → List ℕ → List ℕ
  unfolding mark pour place sets content base span any_from through whole
  fire none ws = ws
  fire (put r v) ws = mark ws (place c r v)
  fire (sub a b) ws = pour ws (base c b) (content c ws a)
  fire (given r v k) ws = elim (sets c ws r v) [ true ↦ fire k ws | false ↦ ws ]
  fire (some r q k) ws = elim (any_from (span c r) 0 (λ v. q v && sets c ws r v)) [ true ↦ fire k ws | false ↦ ws ]
  fire (only t k) ws = elim t [ true ↦ fire k ws | false ↦ ws ]
  fire (each xs k) ws = through xs (λ i. fire (k i)) ws
  fire (k and l) ws = whole (fire k ws) (fire l)

-- ---- all rules

-- two lists of words are the same
unfoldable pub same : List ℕ → List ℕ → Bool
same [] [] = true
same [] (y ∷ ys) = false
same (x ∷ xs) [] = false
same (x ∷ xs) (y ∷ ys) = elim (eqb x y) [ true ↦ same xs ys | false ↦ false ]

-- the most facts that an estimate may have
unfoldable pub most_facts : Code → ℕ
most_facts c = c.size * (2 * elements c + suc width)

module _ (c : Code) (ρ : ℕ) where
  -- each rule once
  unfoldable pub sweep : List ℕ → List ℕ
  unfolding fire
  sweep ws = fire c (every c.size (rule c ρ)) ws

  -- sweeps until one changes nothing, at most n
  unfoldable pub close : ℕ → List ℕ → List ℕ
  unfolding sweep same whole
  close zero ws = ws
  close (suc n) ws = whole (sweep ws) (λ xs. elim (same xs ws) [ true ↦ ws | false ↦ close n xs ])

  unfoldable pub estimate : List ℕ
  unfolding close estimate_words most_facts
  estimate = close (most_facts c) (replicate (estimate_words c) 0)

-- ---- what is read from an estimate

-- the set digits of 32-bit words
unfoldable pub facts : List ℕ → ℕ
facts [] = 0
facts (w ∷ ws) = ones_in 32 w + facts ws

module _ (c : Code) (ρ : ℕ) (ws : List ℕ) where
  -- the permissions of a row P as a number
  unfoldable pub permissions_at : ℕ → ℕ
  unfolding content
  permissions_at b = get_or (content c ws (P b)) 0 0

  -- the union of P(b) over those of the blocks bs with guard within ρ
  unfoldable pub leak_among : List ℕ → ℕ
  unfolding permissions_at
  leak_among [] = 0
  leak_among (b ∷ bs) = elim (guarded (c.node b) ρ) [ true ↦ union (permissions_at b) (leak_among bs) | false ↦ leak_among bs ]

  unfoldable pub leak : ℕ
  unfolding leak_among
  leak = leak_among c.blocks
