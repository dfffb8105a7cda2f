-- What a rule demands of an estimate as it is: all of it is there once the rule is fired, and an estimate that obeys the rule and has
-- nothing new that is not demanded is what firing the rule gives.
use Prim.Native.Nat.{ℕ}
use mathlib.Core.Path.{◌≡◌, refl, sym, subst, subst₂}
use mathlib.Core.List.Memᴰ
use mathlib.Core.List.{List, [], ◌∷◌, Memᴰ}
use mathlib.Core.Logic.{◌⊎◌, inl, inr, ⊎_elim}
use mathlib.Core.Bool.{Bool, true, ◌&&◌}
use native.Mathlib.Omega.{arith}
use lib.Dec.{T}
use Rattle.table.specs.Code.{Code}
use Rattle.calculus.specs.Constraint.{Row, Sets, Rule, Obeys, none, put, sub, given, some, only, each, ◌and◌}
use Rattle.calculus.specs.Layout.{mark, pour, place, base, span, sets, content, WellFormed, LiesIn}
use Rattle.calculus.specs.Estimate.{fire}
use Rattle.calculus.proofs.Digits.{T_and, T_true}
use Rattle.calculus.proofs.Slices.{◌≼◌}
use Rattle.calculus.proofs.Places.{span-lt}
use Rattle.calculus.proofs.Rows.{sets-allowed, sets-bit, in-sets, put_has, sub-has}
use Rattle.calculus.proofs.Firing.{Fits, any-has, fire-adds, fire-well, fire-inside}
use Rattle.calculus.proofs.Least.{sets-ext}
use Rattle.calculus.proofs.Folds.{found, fire-and, fire-only, fire-given, fire-some, each-cons}

-- the rule demands that v be in r
abbrev pub Demands : Sets → Rule → Row → ℕ → Type 0
Demands e none r v = ⊥
Demands e (put s u) r v = (s ≡ r) × (u ≡ v)
Demands e (sub a b) r v = (b ≡ r) × T (e a v)
Demands e (given s u k) r v = T (e s u) × Demands e k r v
Demands e (some s q k) r v = ((u : ℕ) × T (q u) × T (e s u)) × Demands e k r v
Demands e (only t k) r v = T t × Demands e k r v
Demands e (each xs k) r v = (i : ℕ) × Memᴰ i xs × Demands e (k i) r v
Demands e (k and l) r v = Demands e k r v ⊎ Demands e l r v

module _ (c : Code) where
  -- more digits, more elements
  pub sets-mono : (ws xs : List ℕ) → ws ≼ xs → LiesIn c ws (sets c xs)
  sets-mono ws xs f r v h = in-sets c xs r v (sets-allowed c ws r v h) (f (place c r v) (sets-bit c ws r v h))

  -- the test of `some` holds where the row has an element with the property
  pub found-has : (ws : List ℕ) (r : Row) (q : ℕ → Bool) (v : ℕ) → T (q v) → T (sets c ws r v) → found c ws r q ≡ true
  unfolding found
  found-has ws r q v t h =
      T_true (found c ws r q)
      (any-has (span c r) 0 (λ v. q v && sets c ws r v) v (omega arith) (omega (arith, span-lt c r v (sets-allowed c ws r v h)))
      (T_and (q v) (sets c ws r v) t h))

  module _ (e : Sets) (r : Row) (v : ℕ) where
    -- words without stray bits, whose sets hold those of e
    abbrev Over : List ℕ → Type 0
    Over ws = WellFormed c ws × ((s : Row) (u : ℕ) → T (e s u) → T (sets c ws s u))

    abbrev Has : List ℕ → Type 0
    Has ws = T (sets c ws r v)

    over-fire : (k : Rule) → Fits c k → (ws : List ℕ) → Over ws → Over (fire c k ws)
    over-fire k f ws o =
        (fire-well c k f ws o.0, λ s u h. sets-mono ws (fire c k ws) (fire-adds c k ws) s u (o.1 s u h))

    each-demanded : (k : ℕ → Rule) (xs : List ℕ) → ((i : ℕ) → Memᴰ i xs → Fits c (k i)) → (i : ℕ) → Memᴰ i xs
        → ((ws : List ℕ) → Over ws → Has (fire c (k i) ws)) → (ws : List ℕ) → Over ws → Has (fire c (each xs k) ws)
    each-demanded k [] f i m h ws o = absurd (Memᴰ.not-nil m)
    each-demanded k (x ∷ xs) f i m h ws o =
        subst Has (sym (each-cons c x xs k ws))
        (⊎_elim
        (λ q. sets-mono (fire c (k x) ws) (fire c (each xs k) (fire c (k x) ws)) (fire-adds c (each xs k) (fire c (k x) ws)) r v
        (subst (λ (y : ℕ). Has (fire c (k y) ws)) q (h ws o)))
        (λ n. each-demanded k xs (λ j l. f j (Memᴰ.tail l)) i n h (fire c (k x) ws) (over-fire (k x) (f x (Memᴰ.head refl)) ws o))
        (Memᴰ.cases_cons m))

    put_meets : (s : Row) (u : ℕ) → Fits c (put s u) → (s ≡ r) × (u ≡ v) → (ws : List ℕ) → Over ws → Has (fire c (put s u) ws)
    unfolding fire
    put_meets s u f d ws o =
        subst₂ (λ (x : Row) (y : ℕ). T (sets c (mark ws (place c s u)) x y)) d.0 d.1 (put_has c ws o.0 s u f)

    sub-meets : (a b : Row) → Fits c (sub a b) → (b ≡ r) × T (e a v) → (ws : List ℕ) → Over ws → Has (fire c (sub a b) ws)
    unfolding fire
    sub-meets a b f d ws o =
        subst (λ (x : Row). T (sets c (pour ws (base c b) (content c ws a)) x v)) d.0 (sub-has c ws o.0 a b f v (o.1 a v d.1))

    meets : (k : Rule) → Fits c k → Demands e k r v → (ws : List ℕ) → Over ws → Has (fire c k ws)
    meets none f d ws o = absurd d
    meets (put s u) f d ws o = put_meets s u f d ws o
    meets (sub a b) f d ws o = sub-meets a b f d ws o
    meets (given s u k) f d ws o = subst Has (sym (fire-given c s u k ws (T_true (sets c ws s u) (o.1 s u d.0)))) (meets k f d.1 ws o)
    meets (some s q k) f d ws o =
        subst Has (sym (fire-some c s q k ws (found-has ws s q d.0.0 d.0.1 (o.1 s d.0.0 d.0.2)))) (meets k f d.1 ws o)
    meets (only t k) f d ws o = subst Has (sym (fire-only c t k ws (T_true t d.0))) (meets k (f d.0) d.1 ws o)
    meets (each xs k) f d ws o = each-demanded k xs f d.0 d.1 (meets (k d.0) (f d.0 d.1) d.2) ws o
    meets (k and l) f (inl d) ws o =
        subst Has (sym (fire-and c k l ws))
        (sets-mono (fire c k ws) (fire c l (fire c k ws)) (fire-adds c l (fire c k ws)) r v (meets k f.0 d ws o))
    meets (k and l) f (inr d) ws o =
        subst Has (sym (fire-and c k l ws)) (meets l f.1 d (fire c k ws) (over-fire k f.0 ws o))

  -- what is demanded at the start is there in the end
  pub demanded : (k : Rule) → Fits c k → (ws : List ℕ) → WellFormed c ws → (r : Row) (v : ℕ) → Demands (sets c ws) k r v
      → T (sets c (fire c k ws) r v)
  demanded k f ws w r v d = meets (sets c ws) r v k f d ws (w, λ s u h. h)

  -- words that obey the rule, and in which all that is new is demanded, are those that the rule makes
  pub fire-makes : (k : Rule) → Fits c k → (ws xs : List ℕ) → WellFormed c ws → WellFormed c xs → ws ≼ xs → Obeys (sets c xs) k
      → ((r : Row) (v : ℕ) → T (sets c xs r v) → T (sets c ws r v) ⊎ Demands (sets c ws) k r v) → fire c k ws ≡ xs
  fire-makes k f ws xs w x a o n =
      sets-ext c (fire c k ws) xs (fire-well c k f ws w) x (fire-inside c (sets c xs) k f o ws w (sets-mono ws xs a))
      (λ r v h. ⊎_elim (λ i. sets-mono ws (fire c k ws) (fire-adds c k ws) r v i) (λ d. demanded k f ws w r v d) (n r v h))
