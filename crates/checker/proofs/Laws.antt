-- Answers that decide rules: how they are put together.
use Prim.Native.Nat.{ℕ, zero, suc, ◌+◌, ◌*◌, ◌≤◌, ◌<◌}
use mathlib.Core.Path.{◌≡◌, refl, sym, ◌∙◌, subst}
use mathlib.Core.Bool.{Bool, true, false, not, ◌&&◌, ◌||◌, and-true}
use mathlib.Core.List.Memᴰ
use mathlib.Core.List.{List, [], ◌∷◌}
use mathlib.Core.Logic.{⊎_elim}
use native.Mathlib.Decide.{ℕ_discrete}
use native.Mathlib.Omega.{arith}
use borrow.Author.Tests.{not-true, not-false}
use lib.Dec.{T, T_not, not_T}
use Rattle.table.specs.Code.{Code}
use Rattle.calculus.specs.Constraint.{Row, C, Sets, Rule, Obeys, none, put, sub, given, some, only, each, ◌and◌}
use Rattle.calculus.specs.Layout.{span, sets}
use Rattle.calculus.specs.Estimate.{any_from}
use Rattle.calculus.specs.Rules.{rule, Estimate}
use Rattle.calculus.proofs.Digits.{T_and, T-fst, T-snd}
use Rattle.calculus.proofs.Firing.{any-has, any_found}
use Rattle.calculus.proofs.Folds.{found}
use Rattle.calculus.proofs.Places.{span-lt}
use Rattle.calculus.proofs.Rows.{sets-allowed}
use Rattle.clauses.specs.Asks.{row_at}
use Rattle.queries.proofs.Laws.{C-found}
use Rattle.checker.specs.Decides.{Decides}
use Rattle.checker.specs.Lowered.{Lowered}
use Rattle.checker.specs.Obeyed.{all_of, first_from, obeys, first_broken}
use Rattle.checker.proofs.Lowered.{lowered_none, lowered-one}

-- l asks for k exactly where the test t holds
pub record Under (e : Sets) (l : Rule) (t : Bool) (k : Rule) : Type 0 where
  pub asks : Obeys e l → T t → Obeys e k
  pub from : (T t → Obeys e k) → Obeys e l

module _ {e : Sets} where
  pub decided : {k : Rule} {r s : Bool} → r ≡ s → Decides e k s → Decides e k r
  decided q d = subst (Decides e _) (sym q) d

  pub same-rule : {k l : Rule} {r : Bool} → (Obeys e k → Obeys e l) → (Obeys e l → Obeys e k) → Decides e k r → Decides e l r
  same-rule f g d = record { yes = λ t. f (d.yes t); no = λ o. d.no (g o) }

  pub put_is : {r : Bool} {s : Row} {v : ℕ} → r ≡ e s v → Decides e (put s v) r
  put_is q = decided q (record { yes = λ t. t; no = λ o. o })

  -- ---- both

  pub both : {k l : Rule} {r s : Bool} → Decides e k r → Decides e l s → Decides e (k and l) (r && s)
  both {k} {l} {r} {s} d f =
      record { yes = λ t. (d.yes (T-fst r s t), f.yes (T-snd r s t)); no = λ o. T_and r s (d.no o.0) (f.no o.1) }

  both-elim : {k l : Rule} {r s : Bool} → Decides e k r → Decides e l s → Decides e (k and l) (elim r [ true ↦ s | false ↦ false ])
  both-elim {r = true} d f = both d f
  both-elim {r = false} d f = both d f

  -- nothing is asked besides
  pub both-idle : {k l : Rule} {r : Bool} → Decides e k r → Decides e l true → Decides e (k and l) r
  both-idle {r = r} d f = decided (sym (and-true r)) (both d f)

  -- two parts, and what is asked besides
  pub parted : {j k l : Rule} {r : Bool} → Decides e ((j and k) and l) r → Decides e (j and k and l) r
  parted d = same-rule (λ o. (o.0.0, (o.0.1, o.1))) (λ o. ((o.0, o.1.0), o.1.1)) d

  -- ---- under a test

  module _ {l k : Rule} {t : Bool} (u : Under e l t k) where
    pub idle : not t ≡ true → Decides e l true
    idle q = record { yes = λ h. u.from (λ x. absurd (subst T (not-true t q) x)); no = λ o. tt }

    pub due : {r : Bool} → not t ≡ false → Decides e k r → Decides e l r
    due q d = record { yes = λ h. u.from (λ x. d.yes h); no = λ o. d.no (u.asks o (subst T (sym (not-false t q)) tt)) }

  pub under : {l k : Rule} {t r : Bool} → Under e l t k → Decides e k r → Decides e l (elim t [ true ↦ r | false ↦ true ])
  under {t = true} u d = due u refl d
  under {t = false} u d = idle u refl

  pub under-or : {l k : Rule} {t r : Bool} → Under e l t k → Decides e k r → Decides e l (not t || r)
  under-or {t = true} u d = due u refl d
  under-or {t = false} u d = idle u refl

  pub on-given : {k : Rule} {s : Row} {v : ℕ} {t : Bool} → t ≡ e s v → Under e (given s v k) t k
  on-given q = record { asks = λ o x. o (subst T q x); from = λ f x. f (subst T (sym q) x) }

  pub on-only : {k : Rule} {s t : Bool} → t ≡ s → Under e (only s k) t k
  on-only q = record { asks = λ o x. o (subst T q x); from = λ f x. f (subst T (sym q) x) }

module _ (c : Code) (ws : List ℕ) where
  abbrev e : Sets
  e = sets c ws

  -- an element of r with a property is found
  one_found : (r : Row) (q : ℕ → Bool) (v : ℕ) → T (e r v) → T (q v) → T (any_from (span c r) 0 q)
  one_found r q v h t = any-has (span c r) 0 q v (omega arith) (omega (arith, span-lt c r v (sets-allowed c ws r v h))) t

  pub on_some : {k : Rule} {r : Row} {q : ℕ → Bool} {t : Bool} → t ≡ found c ws r q → Under e (some r q k) t k
  unfolding found
  on_some {r = r} {q} f =
      record {
        asks = λ o x. let y = any_found (span c r) 0 (λ v. q v && e r v) (subst T f x) in
            o y.0 (T-fst (q y.0) (e r y.0) y.1) (T-snd (q y.0) (e r y.0) y.1);
        from = λ h v t x. h (subst T (sym f) (one_found r (λ v. q v && e r v) v x (T_and (q v) (e r v) t x)));
      }

  -- ---- `obeys` decides every rule

  sub_elements : (a b : Row) → Decides e (sub a b) (not (any_from (span c a) 0 (λ v. sets c ws a v && not (sets c ws b v))))
  sub_elements a b =
      record {
        yes = λ h v t. has (e b v) (λ z. T_not (any_from (span c a) 0 lacks) h (one_found a lacks v t (T_and (e a v) (not (e b v)) t z)));
        no = λ o. not_T (any_from (span c a) 0 lacks) (λ t. let x = any_found (span c a) 0 lacks t in
            T_not (e b x.0) (T-snd (e a x.0) (not (e b x.0)) x.1) (o x.0 (T-fst (e a x.0) (not (e b x.0)) x.1)));
      }
    where
      lacks : ℕ → Bool
      lacks v = sets c ws a v && not (sets c ws b v)

      has : (x : Bool) → (T (not x) → ⊥) → T x
      has true h = tt
      has false h = h tt

  each-decides : (xs : List ℕ) {k : ℕ → Rule} {q : ℕ → Bool} → ((i : ℕ) → Decides e (k i) (q i)) → Decides e (each xs k) (all_of xs q)
  unfolding all_of
  each-decides [] d = record { yes = λ t i m. absurd (Memᴰ.not-nil m); no = λ o. tt }
  each-decides (x ∷ xs) {k} d =
      same-rule
      (λ o i m. ⊎_elim (λ z. subst (λ (j : ℕ). Obeys e (k j)) (sym z) o.0) (o.1 i) (Memᴰ.cases_cons m))
      (λ o. (o x (Memᴰ.head refl), λ i m. o i (Memᴰ.tail m)))
      (both-elim (d x) (each-decides xs d))

  pub obeys-decides : (k : Rule) → Decides e k (obeys c k ws)
  unfolding obeys found
  obeys-decides none = record { yes = λ t. tt; no = λ o. tt }
  obeys-decides (put r v) = put_is refl
  obeys-decides (sub a b) = sub_elements a b
  obeys-decides (given r v k) = under (on-given refl) (obeys-decides k)
  obeys-decides (some r q k) = under (on_some refl) (obeys-decides k)
  obeys-decides (only t k) = under (on-only refl) (obeys-decides k)
  obeys-decides (each xs k) = each-decides xs (λ i. obeys-decides (k i))
  obeys-decides (k and l) = both-elim (obeys-decides k) (obeys-decides l)

  -- a test on the value set of the word a, by the number of its row
  pub on_value : {k : Rule} {a : ℕ} {q : ℕ → Bool} {t : Bool} → t ≡ found c ws (row_at (2 * a)) q → Under e (some (C a) q k) t k
  on_value {a = a} {q} f = on_some (f ∙ C-found c ws a q)

-- ---- the lowest word whose rule is not obeyed

first-from : (q : ℕ → Bool) (n i : ℕ) → (i ≤ first_from n i q) × Lowered (λ j. i ≤ j → T (q j)) (i + n) (first_from n i q)
unfolding first_from
first-from q zero i = (omega arith, record { most = omega arith; obeyed = λ j h l. absurd (omega arith); broken = λ h. absurd (omega arith) })
first-from q (suc n) i = go (q i) refl (first-from q n (suc i))
  where
    go : (t : Bool) → q i ≡ t → (suc i ≤ first_from n (suc i) q) × Lowered (λ j. suc i ≤ j → T (q j)) (suc i + n) (first_from n (suc i) q)
        → (i ≤ elim t [ true ↦ first_from n (suc i) q | false ↦ i ]) × Lowered (λ j. i ≤ j → T (q j)) (i + suc n) (elim t [ true ↦ first_from n (suc i) q | false ↦ i ])
    go false z f = (omega arith, record { most = omega arith; obeyed = λ j h l. absurd (omega arith); broken = λ h x. subst T z (x (omega arith)) })
    go true z f = (
      omega (arith, f.0),
      record {
        most = omega (arith, f.1.most);
        obeyed = λ j h l. here j (ℕ_discrete j i) (f.1.obeyed j h) l;
        broken = λ h x. f.1.broken (omega arith) (λ l. x (omega arith));
      },
    )
      where
        here : (j : ℕ) → Dec (j ≡ i) → (suc i ≤ j → T (q j)) → i ≤ j → T (q j)
        here j (yes s) g l = subst (λ (x : ℕ). T (q x)) (sym s) (subst T (sym z) tt)
        here j (no s) g l = g (omega arith)

module _ (c : Code) (ρ : ℕ) (ws : List ℕ) where
  pub first-broken : Lowered (λ p. Obeys (sets c ws) (rule c ρ p)) c.size (first_broken c ρ ws)
  unfolding first_broken
  first-broken =
      let f = (first-from (λ p. obeys c (rule c ρ p) ws) c.size 0).1 in
      record {
        most = omega (arith, f.most);
        obeyed = λ p h. (obeys-decides c ws (rule c ρ p)).yes (f.obeyed p h (omega arith));
        broken = λ h o. f.broken (omega arith) (λ l. (obeys-decides c ws (rule c ρ _)).no o);
      }

  -- nothing is broken exactly where the words are an estimate
  pub unbroken : first_broken c ρ ws ≡ c.size → Estimate c ρ (sets c ws)
  unbroken h p l = first-broken.obeyed p (omega arith)

  pub estimate-unbroken : Estimate c ρ (sets c ws) → first_broken c ρ ws ≡ c.size
  estimate-unbroken s = lowered-one refl first-broken (lowered_none s)

  pub broken-most : first_broken c ρ ws ≤ c.size
  broken-most = first-broken.most

  pub broken-disobeys : first_broken c ρ ws < c.size → Obeys (sets c ws) (rule c ρ (first_broken c ρ ws)) → ⊥
  broken-disobeys = first-broken.broken
