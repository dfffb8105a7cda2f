-- One rule for another: where sets of c obey the first, the sets of d read from them obey the second. Carries σ d c e the shapes of rules.
use Prim.Native.Nat.{ℕ, ◌<◌}
use mathlib.Core.Path.{◌≡◌, sym, ap, subst}
use mathlib.Core.Bool.{Bool}
use mathlib.Core.List.{List, Memᴰ}
use native.Mathlib.Omega.{arith}
use lib.Dec.{T}
use Rattle.table.specs.Code.{Code}
use Rattle.calculus.specs.Elements.{plain, made, elements, Making, makes}
use Rattle.calculus.specs.Constraint.{Row, P, L, Sets, Rule, Obeys, none, put, sub, given, some, only, each, every, range, ◌and◌}
use Rattle.calculus.specs.Rules.{fill, pass, each_made, part}
use Rattle.calculus.proofs.Ranges.{below_in, in-below}
use Rattle.renaming.specs.Renaming.{Renamed, rename_row, rename_element, carried}
use Rattle.renaming.proofs.Elements.{el-plain, el-made, el-lt, makes-of}

pub record Carries (σ : ℕ → ℕ) (d c : Code) (e : Sets) (j l : Rule) : Type 0 where
  pub go : Obeys e j → Obeys (carried σ d c e) l

module _ {σ : ℕ → ℕ} {d c : Code} {e : Sets} where
  pub nothing : Carries σ d c e none none
  nothing = record { go = λ o. tt }

  puts : (r : Row) (v : ℕ) → Carries σ d c e (put (rename_row σ r) (rename_element σ d c v)) (put r v)
  unfolding carried
  puts r v = record { go = λ o. o }

  pub puts_plain : (r : Row) (v : ℕ) → v < plain d → Carries σ d c e (put (rename_row σ r) v) (put r v)
  puts_plain r v h = subst (λ (x : ℕ). Carries σ d c e (put (rename_row σ r) x) (put r v)) (el-plain σ d c v h) (puts r v)

  pub puts-made : (r : Row) (i : ℕ) → Carries σ d c e (put (rename_row σ r) (made c (σ i))) (put r (made d i))
  puts-made r i = subst (λ (x : ℕ). Carries σ d c e (put (rename_row σ r) x) (put r (made d i))) (el-made σ d c i) (puts r (made d i))

  pub subs : (a b : Row) → Carries σ d c e (sub (rename_row σ a) (rename_row σ b)) (sub a b)
  unfolding carried
  subs a b = record { go = λ o v. o (rename_element σ d c v) }

  givens : (r : Row) (v : ℕ) {j l : Rule} → Carries σ d c e j l → Carries σ d c e (given (rename_row σ r) (rename_element σ d c v) j) (given r v l)
  unfolding carried
  givens r v f = record { go = λ o t. f.go (o t) }

  pub givens-plain : (r : Row) (v : ℕ) {j l : Rule} → v < plain d → Carries σ d c e j l → Carries σ d c e (given (rename_row σ r) v j) (given r v l)
  givens-plain r v {j} {l} h f = subst (λ (x : ℕ). Carries σ d c e (given (rename_row σ r) x j) (given r v l)) (el-plain σ d c v h) (givens r v f)

  givens-made : (r : Row) (i : ℕ) {j l : Rule} → Carries σ d c e j l → Carries σ d c e (given (rename_row σ r) (made c (σ i)) j) (given r (made d i) l)
  givens-made r i {j} {l} f =
      subst (λ (x : ℕ). Carries σ d c e (given (rename_row σ r) x j) (given r (made d i) l)) (el-made σ d c i) (givens r (made d i) f)

  pub somes : (r : Row) (q u : ℕ → Bool) {j l : Rule} → ((v : ℕ) → q (rename_element σ d c v) ≡ u v) → Carries σ d c e j l
      → Carries σ d c e (some (rename_row σ r) q j) (some r u l)
  unfolding carried
  somes r q u h f = record { go = λ o v t w. f.go (o (rename_element σ d c v) (subst T (sym (h v)) t) w) }

  -- the rest is asked only where the test holds
  pub onlys : (t u : Bool) {j l : Rule} → t ≡ u → (T u → Carries σ d c e j l) → Carries σ d c e (only t j) (only u l)
  onlys t u h f = record { go = λ o w. (f w).go (o (subst T (sym h) w)) }

  pub both : {j l j' l' : Rule} → Carries σ d c e j j' → Carries σ d c e l l' → Carries σ d c e (j and l) (j' and l')
  both f g = record { go = λ o. (f.go o.0, g.go o.1) }

  -- at each of a list: what is asked at y in d is asked at f y in c
  pub eachs : (xs ys : List ℕ) (j l : ℕ → Rule) (f : ℕ → ℕ) → ((y : ℕ) → Memᴰ y ys → Memᴰ (f y) xs × Carries σ d c e (j (f y)) (l y))
      → Carries σ d c e (each xs j) (each ys l)
  eachs xs ys j l f h = record { go = λ o y n. (h y n).1.go (o (f y) (h y n).0) }

  pub each_below : (n l : ℕ) (j k : ℕ → Rule) (f : ℕ → ℕ) → ((y : ℕ) → y < l → (f y < n) × Carries σ d c e (j (f y)) (k y))
      → Carries σ d c e (every n j) (every l k)
  each_below n l j k f h =
      eachs (range n 0) (range l 0) j k f (λ y w. let r = h y (in-below w) in (below_in r.0, r.1))

  pub parts : (p q : ℕ) → Carries σ d c e (part (σ p) (σ q)) (part p q)
  unfolding rename_row
  parts p q = both (puts_plain (L q) 0 (omega arith)) (subs (P q) (P p))

  -- ---- shapes that go by the code

  module _ (m : Renamed σ d c) where
    pub fills : (r : Row) → Carries σ d c e (fill c (rename_row σ r)) (fill d r)
    fills r =
        each_below (plain c) (plain d) (λ v. put (rename_row σ r) v) (λ v. put r v) (λ v. v)
        (λ v l. (let n = m.names in omega arith, puts_plain r v l))

    pub passes : (a b : Row) (q u : ℕ → Bool) → ((v : ℕ) → q (rename_element σ d c v) ≡ u v)
        → Carries σ d c e (pass c (rename_row σ a) q (rename_row σ b)) (pass d a u b)
    passes a b q u h =
        each_below (elements c) (elements d) (λ v. only (q v) (given (rename_row σ a) v (put (rename_row σ b) v)))
        (λ v. only (u v) (given a v (put b v))) (rename_element σ d c)
        (λ v l. (el-lt σ d c m v l, onlys (q (rename_element σ d c v)) (u v) (h v) (λ t. givens a v (puts b v))))

    pub mades : (q : Making → Bool) (r : Row) (j l : ℕ → Rule) → ((f : ℕ) → T (q (makes (d.node f))) → Carries σ d c e (j (σ f)) (l f))
        → Carries σ d c e (each_made c q (rename_row σ r) j) (each_made d q r l)
    mades q r j l h =
        each_below c.size d.size (λ f. only (q (makes (c.node f))) (given (rename_row σ r) (made c f) (j f)))
        (λ f. only (q (makes (d.node f))) (given r (made d f) (l f))) σ
        (λ f n. (m.inside f n, onlys _ _ (ap q (makes-of σ d c m f)) (λ t. givens-made r f (h f t))))
