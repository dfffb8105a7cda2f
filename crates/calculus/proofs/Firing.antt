-- What firing a rule does to an estimate, whatever the rule: it only adds, stays inside every estimate that obeys the rule, and has
-- nothing to add only where the rule is obeyed.
use Prim.Native.Nat.{ℕ, zero, suc, ◌+◌, ◌≤◌, ◌<◌}
use mathlib.Core.Path.{◌≡◌, refl, sym, ap, ◌∙◌, subst}
use mathlib.Core.List.Memᴰ
use mathlib.Core.List.{List, [], ◌∷◌, Memᴰ}
use mathlib.Core.Logic.{◌⊎◌, inl, inr, ⊎_elim}
use mathlib.Core.Bool.{Bool, true, false, ◌&&◌}
use native.Mathlib.Decide.{ℕ_discrete}
use native.Mathlib.Omega.{arith}
use lib.Dec.{T}
use Rattle.table.specs.Code.{Code}
use Rattle.calculus.specs.Constraint.{Sets, Rule, Obeys, none, put, sub, given, some, only, each, ◌and◌}
use Rattle.calculus.specs.Layout.{bit, place, base, span, allowed, sets, content, WellFormed, LiesIn}
use Rattle.calculus.specs.Estimate.{strict, whole, any_from, through, fire}
use Rattle.calculus.proofs.Digits.{T_and, T-fst, T-snd}
use Rattle.calculus.proofs.Slices.{◌≼◌, words-ext, mark-adds, pour-adds}
use Rattle.calculus.proofs.Places.{span-lt}
use Rattle.calculus.proofs.Rows.{Alike, sets-allowed, put-well, put-inside, put_has, sub-well, sub-inside, sub-has}

-- ---- computing aside

strict-is : {A : Type 0} (n : ℕ) (k : ℕ → A) → strict n k ≡ k n
unfolding strict
strict-is zero k = refl
strict-is (suc n) k = refl

pub whole_is : {A : Type 0} (xs : List ℕ) (k : List ℕ → A) → whole xs k ≡ k xs
unfolding whole
whole_is [] k = refl
whole_is (x ∷ xs) k = strict-is x (λ y. whole xs (λ ys. k (y ∷ ys))) ∙ whole_is xs (λ ys. k (x ∷ ys))

-- ---- branches

-- what holds of both branches holds of the one taken
either : (Q : List ℕ → Type 0) (b : Bool) (xs ys : List ℕ) → Q xs → Q ys → Q (elim b [ true ↦ xs | false ↦ ys ])
either Q true xs ys h k = h
either Q false xs ys h k = k

-- the branch for true is needed only where the test holds
when_t : (Q : List ℕ → Type 0) (b : Bool) (xs ys : List ℕ) → (T b → Q xs) → Q ys → Q (elim b [ true ↦ xs | false ↦ ys ])
when_t Q true xs ys h k = h tt
when_t Q false xs ys h k = k

taken : (b : Bool) (xs ys : List ℕ) → T b → elim b [ true ↦ xs | false ↦ ys ] ≡ xs
taken true xs ys h = refl
taken false xs ys h = absurd h

pub any-has : (n i : ℕ) (q : ℕ → Bool) (v : ℕ) → i ≤ v → v < i + n → T (q v) → T (any_from n i q)
unfolding any_from
any-has zero i q v h l t = absurd (omega arith)
any-has (suc n) i q v h l t = go (λ m. any-has n (suc i) q v m (omega arith) t) (ℕ_discrete v i)
  where
    holds : (b x : Bool) → T b ⊎ T x → T (elim b [ true ↦ true | false ↦ x ])
    holds true x k = tt
    holds false x (inl k) = absurd k
    holds false x (inr k) = k

    go : (suc i ≤ v → T (any_from n (suc i) q)) → Dec (v ≡ i) → T (any_from (suc n) i q)
    go r (yes e) = holds (q i) (any_from n (suc i) q) (inl (subst (λ (x : ℕ). T (q x)) e t))
    go r (no e) = holds (q i) (any_from n (suc i) q) (inr (r (omega arith)))

pub any_found : (n i : ℕ) (q : ℕ → Bool) → T (any_from n i q) → (v : ℕ) × T (q v)
unfolding any_from
any_found zero i q h = absurd h
any_found (suc n) i q h = found (any_found n (suc i) q) (q i) refl h
  where
    found : (T (any_from n (suc i) q) → (v : ℕ) × T (q v)) → (b : Bool) → q i ≡ b
        → T (elim b [ true ↦ true | false ↦ any_from n (suc i) q ]) → (v : ℕ) × T (q v)
    found r true e k = (i, rw e tt)
    found r false e k = r k

-- ---- a rule at each number of a list

through-keeps : (Q : List ℕ → Type 0) (f : ℕ → List ℕ → List ℕ) (xs : List ℕ)
    → ((x : ℕ) → Memᴰ x xs → (ws : List ℕ) → Q ws → Q (f x ws)) → (ws : List ℕ) → Q ws → Q (through xs f ws)
unfolding through
through-keeps Q f [] h ws k = k
through-keeps Q f (x ∷ xs) h ws k =
    rw (whole_is (f x ws) (through xs f)) (through-keeps Q f xs (λ y m. h y (Memᴰ.tail m)) (f x ws) (h x (Memᴰ.head refl) ws k))

module _ (c : Code) where
  -- a rule writes into rows of the code alone, and passes on sets of one kind
  abbrev pub Fits : Rule → Type 0
  Fits none = Unit {0}
  Fits (put r v) = T (allowed c r v)
  Fits (sub a b) = Alike c a b
  Fits (given r v k) = Fits k
  Fits (some r q k) = Fits k
  Fits (only t k) = T t → Fits k
  Fits (each xs k) = (i : ℕ) → Memᴰ i xs → Fits (k i)
  Fits (k and l) = Fits k × Fits l

  -- ---- firing only adds

  pub fire-adds : (k : Rule) (ws : List ℕ) → ws ≼ fire c k ws
  unfolding fire
  fire-adds none ws = λ n h. h
  fire-adds (put r v) ws = mark-adds ws (place c r v)
  fire-adds (sub a b) ws = pour-adds ws (base c b) (content c ws a)
  fire-adds (given r v k) ws = either (λ xs. ws ≼ xs) (sets c ws r v) (fire c k ws) ws (fire-adds k ws) (λ n h. h)
  fire-adds (some r q k) ws =
      either (λ xs. ws ≼ xs) (any_from (span c r) 0 (λ v. q v && sets c ws r v)) (fire c k ws) ws (fire-adds k ws) (λ n h. h)
  fire-adds (only t k) ws = either (λ xs. ws ≼ xs) t (fire c k ws) ws (fire-adds k ws) (λ n h. h)
  fire-adds (each xs k) ws =
      through-keeps (λ ys. ws ≼ ys) (λ i. fire c (k i)) xs (λ i m ys h n b. fire-adds (k i) ys n (h n b)) ws (λ n h. h)
  fire-adds (k and l) ws =
      rw (whole_is (fire c k ws) (fire c l)) (λ n h. fire-adds l (fire c k ws) n (fire-adds k ws n h))

  -- ---- it keeps the layout, and stays inside every estimate that obeys the rule

  pub fire-well : (k : Rule) → Fits k → (ws : List ℕ) → WellFormed c ws → WellFormed c (fire c k ws)
  unfolding fire
  fire-well none f ws w = w
  fire-well (put r v) f ws w = put-well c ws w r v f
  fire-well (sub a b) f ws w = sub-well c ws w a b f
  fire-well (given r v k) f ws w = either (WellFormed c) (sets c ws r v) (fire c k ws) ws (fire-well k f ws w) w
  fire-well (some r q k) f ws w =
      either (WellFormed c) (any_from (span c r) 0 (λ v. q v && sets c ws r v)) (fire c k ws) ws (fire-well k f ws w) w
  fire-well (only t k) f ws w = when_t (WellFormed c) t (fire c k ws) ws (λ h. fire-well k (f h) ws w) w
  fire-well (each xs k) f ws w = through-keeps (WellFormed c) (λ i. fire c (k i)) xs (λ i m ys h. fire-well (k i) (f i m) ys h) ws w
  fire-well (k and l) f ws w = rw (whole_is (fire c k ws) (fire c l)) (fire-well l f.1 (fire c k ws) (fire-well k f.0 ws w))

  module _ (e : Sets) where
    -- the layout is kept, and the sets lie inside e
    abbrev Kept : List ℕ → Type 0
    Kept ws = WellFormed c ws × LiesIn c ws e

    keeps : (k : Rule) → Fits k → Obeys e k → (ws : List ℕ) → Kept ws → Kept (fire c k ws)
    unfolding fire
    keeps none f o ws w = w
    keeps (put r v) f o ws w = (put-well c ws w.0 r v f, put-inside c ws w.0 e r v f o w.1)
    keeps (sub a b) f o ws w = (sub-well c ws w.0 a b f, sub-inside c ws w.0 a b f e o w.1)
    keeps (given r v k) f o ws w = when_t Kept (sets c ws r v) (fire c k ws) ws (λ h. keeps k f (o (w.1 r v h)) ws w) w
    keeps (some r q k) f o ws w =
        when_t Kept (any_from (span c r) 0 (λ v. q v && sets c ws r v)) (fire c k ws) ws
        (λ h. let x : (v : ℕ) × T (q v && sets c ws r v) = any_found (span c r) 0 (λ v. q v && sets c ws r v) h in
        let v : ℕ = x.0 in
        keeps k f (o v (T-fst (q v) (sets c ws r v) x.1) (w.1 r v (T-snd (q v) (sets c ws r v) x.1))) ws w)
        w
    keeps (only t k) f o ws w = when_t Kept t (fire c k ws) ws (λ h. keeps k (f h) (o h) ws w) w
    keeps (each xs k) f o ws w = through-keeps Kept (λ i. fire c (k i)) xs (λ i m ys h. keeps (k i) (f i m) (o i m) ys h) ws w
    keeps (k and l) f o ws w = rw (whole_is (fire c k ws) (fire c l)) (keeps l f.1 o.1 (fire c k ws) (keeps k f.0 o.0 ws w))

    pub fire-inside : (k : Rule) → Fits k → Obeys e k → (ws : List ℕ) → WellFormed c ws → LiesIn c ws e → LiesIn c (fire c k ws) e
    fire-inside k f o ws w i = (keeps k f o ws (w, i)).1

  -- ---- where nothing changes, the rule is obeyed

  -- a step that is undone by nothing after it
  settled : (ws xs ys : List ℕ) → WellFormed c ws → WellFormed c xs → ws ≼ xs → xs ≼ ys → ys ≡ ws → xs ≡ ws
  settled ws xs ys w x f g e =
      words-ext xs ws (x.long ∙ sym w.long) x.words w.words (λ n h. subst (λ (zs : List ℕ). T (bit zs n)) e (g n h)) f

  through-settled : (f : ℕ → List ℕ → List ℕ) (xs : List ℕ) → ((x : ℕ) (ws : List ℕ) → ws ≼ f x ws)
      → ((x : ℕ) → Memᴰ x xs → (ws : List ℕ) → WellFormed c ws → WellFormed c (f x ws))
      → (ws : List ℕ) → WellFormed c ws → through xs f ws ≡ ws → (x : ℕ) → Memᴰ x xs → f x ws ≡ ws
  unfolding through
  through-settled f [] a g ws w e x m = absurd (Memᴰ.not-nil m)
  through-settled f (y ∷ xs) a g ws w e x m =
      let s : through xs f (f y ws) ≡ ws = sym (whole_is (f y ws) (through xs f)) ∙ e in
      let t : f y ws ≡ ws =
      settled ws (f y ws) (through xs f (f y ws)) w (g y (Memᴰ.head refl) ws w) (a y ws)
      (through-keeps (λ zs. f y ws ≼ zs) f xs (λ z k zs h n b. a z zs n (h n b)) (f y ws) (λ n h. h)) s
      in
      ⊎_elim (λ q. ap (λ (z : ℕ). f z ws) q ∙ t)
      (λ k. through-settled f xs a (λ z l. g z (Memᴰ.tail l)) ws w (ap (through xs f) (sym t) ∙ s) x k)
      (Memᴰ.cases_cons m)

  pub fire-obeys : (k : Rule) → Fits k → (ws : List ℕ) → WellFormed c ws → fire c k ws ≡ ws → Obeys (sets c ws) k
  unfolding fire
  fire-obeys none f ws w e = tt
  fire-obeys (put r v) f ws w e = subst (λ (xs : List ℕ). T (sets c xs r v)) e (put_has c ws w r v f)
  fire-obeys (sub a b) f ws w e = λ v h. subst (λ (xs : List ℕ). T (sets c xs b v)) e (sub-has c ws w a b f v h)
  fire-obeys (given r v k) f ws w e = λ h. fire-obeys k f ws w (sym (taken (sets c ws r v) (fire c k ws) ws h) ∙ e)
  fire-obeys (some r q k) f ws w e =
      λ v t h.
      let a : T (any_from (span c r) 0 (λ v. q v && sets c ws r v)) =
      any-has (span c r) 0 (λ v. q v && sets c ws r v) v (omega arith) (omega (arith, span-lt c r v (sets-allowed c ws r v h)))
      (T_and (q v) (sets c ws r v) t h)
      in
      fire-obeys k f ws w (sym (taken (any_from (span c r) 0 (λ v. q v && sets c ws r v)) (fire c k ws) ws a) ∙ e)
  fire-obeys (only t k) f ws w e = λ h. fire-obeys k (f h) ws w (sym (taken t (fire c k ws) ws h) ∙ e)
  fire-obeys (each xs k) f ws w e =
      λ i m. fire-obeys (k i) (f i m) ws w
      (through-settled (λ i. fire c (k i)) xs (λ i. fire-adds (k i)) (λ i m. fire-well (k i) (f i m)) ws w e i m)
  fire-obeys (k and l) f ws w e =
      let s : fire c l (fire c k ws) ≡ ws = sym (whole_is (fire c k ws) (fire c l)) ∙ e in
      let t : fire c k ws ≡ ws =
      settled ws (fire c k ws) (fire c l (fire c k ws)) w (fire-well k f.0 ws w) (fire-adds k ws) (fire-adds l (fire c k ws)) s
      in
      (fire-obeys k f.0 ws w t, fire-obeys l f.1 ws w (ap (fire c l) (sym t) ∙ s))
