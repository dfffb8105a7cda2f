-- Something is missing exactly where a rule is not obeyed, and what is named is not there.
use Prim.Native.Nat.{ℕ, ◌<◌}
use mathlib.Core.Path.{◌≡◌, refl, sym, ap, ap₂, ◌∙◌, subst}
use mathlib.Core.Bool.{Bool, true, false, not, ◌&&◌, ◌||◌}
use mathlib.Core.List.{List, [], ◌∷◌, Memᴰ}
use mathlib.Core.Logic.{◌⊎◌, inl, inr, ⊎_elim}
use native.Mathlib.Omega.{arith}
use lib.Dec.{T}
use Rattle.calculus.specs.Constraint.{Row, Sets, Rule, none, put, sub, given, some, only, each, ◌and◌, Obeys, range}
use Rattle.calculus.proofs.Ranges.{below_in}
use Rattle.missing_facts.specs.Missing.{Missing, nothing, lacks, or_else, first_of, any_of, upon, missing}

-- ---- choices

never : (r : Row) (v : ℕ) → lacks r v ≡ nothing → ⊥
never r v p = let z : ◌≡◌ {A = ℕ} 0 1 = cc in omega arith

or_left : (a b : Bool) → T a → T (a || b)
or_left true b h = tt
or_left false b h = absurd h

or_right : (a b : Bool) → T b → T (a || b)
or_right true b h = tt
or_right false b h = h

nothing-else : (a b : Missing) → a ≡ nothing → b ≡ nothing → or_else a b ≡ nothing
unfolding or_else
nothing-else nothing b p q = q
nothing-else (lacks r v) b p q = p

else-first : (a b : Missing) → or_else a b ≡ nothing → a ≡ nothing
unfolding or_else
else-first nothing b p = refl
else-first (lacks r v) b p = p

else-second : (a b : Missing) → or_else a b ≡ nothing → b ≡ nothing
unfolding or_else
else-second nothing b p = p
else-second (lacks r v) b p = absurd (never r v p)

first-nothing : (f : ℕ → Missing) (xs : List ℕ) → ((i : ℕ) → Memᴰ i xs → f i ≡ nothing) → first_of f xs ≡ nothing
unfolding first_of
first-nothing f [] h = refl
first-nothing f (x ∷ xs) h = nothing-else (f x) (first_of f xs) (h x (Memᴰ.head refl)) (first-nothing f xs (λ i m. h i (Memᴰ.tail m)))

nothing-each : (f : ℕ → Missing) (xs : List ℕ) → first_of f xs ≡ nothing → (i : ℕ) → Memᴰ i xs → f i ≡ nothing
unfolding first_of
nothing-each f (x ∷ xs) h i (Memᴰ.head p) = ap f p ∙ else-first (f x) (first_of f xs) h
nothing-each f (x ∷ xs) h i (Memᴰ.tail m) = nothing-each f xs (else-second (f x) (first_of f xs) h) i m
nothing-each f [] h i x'' = elim x'' [ ]

upon-nothing : (b : Bool) (m : Missing) → (T b → m ≡ nothing) → upon b m ≡ nothing
unfolding upon
upon-nothing true m h = h tt
upon-nothing false m h = refl

nothing-upon : (b : Bool) (m : Missing) → upon b m ≡ nothing → T b → m ≡ nothing
unfolding upon
nothing-upon true m p t = p
nothing-upon false m p t = absurd t

any-one : (q : ℕ → Bool) (xs : List ℕ) → T (any_of q xs) → (i : ℕ) × T (q i)
unfolding any_of
any-one q [] h = absurd h
any-one q (x ∷ xs) h = go (q x) refl h (any-one q xs)
  where
    go : (b : Bool) → q x ≡ b → T (b || any_of q xs) → (T (any_of q xs) → (i : ℕ) × T (q i)) → (i : ℕ) × T (q i)
    go true e t r = (x, rw e tt)
    go false e t r = r t

one-any : (q : ℕ → Bool) (xs : List ℕ) (i : ℕ) → Memᴰ i xs → T (q i) → T (any_of q xs)
unfolding any_of
one-any q (x ∷ xs) i (Memᴰ.head p) t = or_left (q x) (any_of q xs) (rw (sym p) t)
one-any q (x ∷ xs) i (Memᴰ.tail m) t = or_right (q x) (any_of q xs) (one-any q xs i m t)
one-any q [] i x'' t = elim x'' [ ]

and_both : (a b : Bool) → T a → T b → T (a && b)
and_both true b h k = k
and_both false b h k = h

and_left : (a b : Bool) → T (a && b) → T a
and_left true b h = tt
and_left false b h = h

and_right : (a b : Bool) → T (a && b) → T b
and_right true b h = h
and_right false b h = absurd h

not-both : (b : Bool) → T b → T (not b) → ⊥
not-both true h k = k
not-both false h k = h

not-not : (b : Bool) → (T (not b) → ⊥) → T b
not-not true h = tt
not-not false h = absurd (h tt)

-- ---- where a missing thing comes from

else-named : (a b : Missing) (r : Row) (v : ℕ) → or_else a b ≡ lacks r v → (a ≡ lacks r v) ⊎ (b ≡ lacks r v)
unfolding or_else
else-named nothing b r v p = inr p
else-named (lacks s w) b r v p = inl p

upon-named : (b : Bool) (m : Missing) (r : Row) (v : ℕ) → upon b m ≡ lacks r v → T b × (m ≡ lacks r v)
unfolding upon
upon-named true m r v p = (tt, p)
upon-named false m r v p = absurd (never r v (sym p))

first-named : (f : ℕ → Missing) (xs : List ℕ) (r : Row) (v : ℕ) → first_of f xs ≡ lacks r v → (i : ℕ) × (f i ≡ lacks r v)
unfolding first_of
first-named f [] r v p = absurd (never r v (sym p))
first-named f (x ∷ xs) r v p = ⊎_elim (λ a. (x, a)) (λ b. first-named f xs r v b) (else-named (f x) (first_of f xs) r v p)

-- ---- obeyed exactly if nothing is missing

module _ (n : ℕ) (e : Sets) where
  pub obeyed-nothing : (k : Rule) → Obeys e k → missing n e k ≡ nothing
  unfolding missing
  obeyed-nothing none o = refl
  obeyed-nothing (put r v) o = upon-nothing (not (e r v)) (lacks r v) (λ t. absurd (not-both (e r v) o t))
  obeyed-nothing (sub a b) o =
      first-nothing _ (range n 0)
      (λ v m. upon-nothing (e a v && not (e b v)) (lacks b v) (λ t. absurd (not-both (e b v) (o v (and_left (e a v) (not (e b v)) t)) (and_right (e a v) (not (e b v)) t))))
  obeyed-nothing (given r v k) o = upon-nothing (e r v) (missing n e k) (λ t. obeyed-nothing k (o t))
  obeyed-nothing (some r q k) o =
      upon-nothing (any_of (λ v. q v && e r v) (range n 0)) (missing n e k)
      (λ t. let w = any-one (λ v. q v && e r v) (range n 0) t in
      obeyed-nothing k (o w.0 (and_left (q w.0) (e r w.0) w.1) (and_right (q w.0) (e r w.0) w.1)))
  obeyed-nothing (only t k) o = upon-nothing t (missing n e k) (λ h. obeyed-nothing k (o h))
  obeyed-nothing (each xs k) o = first-nothing _ xs (λ i m. obeyed-nothing (k i) (o i m))
  obeyed-nothing (k and l) o = nothing-else _ _ (obeyed-nothing k o.0) (obeyed-nothing l o.1)

  -- where every element is below n
  pub nothing-obeyed : ((r : Row) (v : ℕ) → T (e r v) → v < n) → (k : Rule) → missing n e k ≡ nothing → Obeys e k
  unfolding missing
  nothing-obeyed below none m = tt
  nothing-obeyed below (put r v) m = not-not (e r v) (λ t. never r v (nothing-upon (not (e r v)) (lacks r v) m t))
  nothing-obeyed below (sub a b) m = λ v t.
      not-not (e b v)
      (λ s. never b v (nothing-upon (e a v && not (e b v)) (lacks b v) (nothing-each _ (range n 0) m v (below_in (below a v t))) (and_both (e a v) (not (e b v)) t s)))
  nothing-obeyed below (given r v k) m = λ t. nothing-obeyed below k (nothing-upon (e r v) (missing n e k) m t)
  nothing-obeyed below (some r q k) m = λ v s t.
      nothing-obeyed below k
      (nothing-upon (any_of (λ w. q w && e r w) (range n 0)) (missing n e k) m
      (one-any (λ w. q w && e r w) (range n 0) v (below_in (below r v t)) (and_both (q v) (e r v) s t)))
  nothing-obeyed below (only t k) m = λ h. nothing-obeyed below k (nothing-upon t (missing n e k) m h)
  nothing-obeyed below (each xs k) m = λ i h. nothing-obeyed below (k i) (nothing-each _ xs m i h)
  nothing-obeyed below (k and l) m = (nothing-obeyed below k (else-first (missing n e k) (missing n e l) m), nothing-obeyed below l (else-second (missing n e k) (missing n e l) m))

  -- a row that is named lacks the element
  there : (s r : Row) (w v : ℕ) → lacks s w ≡ lacks r v → T (e r v) → T (e s w)
  there s r w v p t = let x : s ≡ r = cc in let y : w ≡ v = cc in subst T (sym (ap₂ e x y)) t

  pub named-lacking : (k : Rule) (r : Row) (v : ℕ) → missing n e k ≡ lacks r v → T (e r v) → ⊥
  unfolding missing
  named-lacking none r v m t = never r v (sym m)
  named-lacking (put s w) r v m t = let u = upon-named (not (e s w)) (lacks s w) r v m in not-both (e s w) (there s r w v u.1 t) u.0
  named-lacking (sub a b) r v m t =
      let f = first-named (λ w. upon (e a w && not (e b w)) (lacks b w)) (range n 0) r v m in
      let u = upon-named (e a f.0 && not (e b f.0)) (lacks b f.0) r v f.1 in
      not-both (e b f.0) (there b r f.0 v u.1 t) (and_right (e a f.0) (not (e b f.0)) u.0)
  named-lacking (given s w k) r v m t = named-lacking k r v (upon-named (e s w) (missing n e k) r v m).1 t
  named-lacking (some s q k) r v m t = named-lacking k r v (upon-named (any_of (λ w. q w && e s w) (range n 0)) (missing n e k) r v m).1 t
  named-lacking (only b k) r v m t = named-lacking k r v (upon-named b (missing n e k) r v m).1 t
  named-lacking (each xs k) r v m t = let f = first-named (λ i. missing n e (k i)) xs r v m in named-lacking (k f.0) r v f.1 t
  named-lacking (k and l) r v m t =
      ⊎_elim (λ a. named-lacking k r v a t) (λ b. named-lacking l r v b t) (else-named (missing n e k) (missing n e l) r v m)
