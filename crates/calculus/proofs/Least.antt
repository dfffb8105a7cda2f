-- The estimate obeys every rule, lies inside every estimate that does, has no stray bit, and is the only list of words of which all this
-- holds. No list of words without stray bits has more than `most_facts` facts.
use Prim.Native.Nat.{ℕ, zero, suc, ◌+◌, ◌*◌, ◌^◌, ◌≤◌, ◌<◌}
use mathlib.Core.Path.{◌≡◌, refl, sym, ap, ◌∙◌, subst}
use mathlib.Core.List.{List, [], ◌∷◌}
use mathlib.Core.Bool.{Bool, true, false}
use native.Mathlib.Decide.{dec_lt}
use native.Mathlib.Omega.{arith}
use lib.Dec.{T, eqb, eqb→eq, eqb_refl, lit<}
use lib.ListN.{get_or, replicate, length-replicate}
use Rattle.table.specs.Code.{Code, Linked}
use Rattle.calculus.specs.Constraint.{Sets, every}
use Rattle.calculus.specs.Rules.{rule, Estimate}
use Rattle.calculus.specs.Layout.{bit, estimate_words, place, used, sets, WellFormed, LiesIn}
use Rattle.calculus.specs.Estimate.{same, most_facts, sweep, close, estimate, facts}
use Rattle.calculus.proofs.Slices.{◌≼◌, bit-short, bit-zero, words-ext}
use Rattle.calculus.proofs.Counting.{count, count-mono, count-equal, facts-count}
use Rattle.calculus.proofs.Places.{At, used-place, count-used}
use Rattle.calculus.proofs.Rows.{sets-bit, in-sets}
use Rattle.calculus.proofs.Firing.{Fits, whole_is, fire-adds, fire-well, fire-inside, fire-obeys}
use Rattle.calculus.proofs.Ranges.{below_in, in-below}
use Rattle.calculus.proofs.Fitting.{rule_fits}

-- ---- the test whether a sweep has changed anything

pub same-eq : (xs ys : List ℕ) → T (same xs ys) → xs ≡ ys
unfolding same
same-eq [] [] h = refl
same-eq [] (y ∷ ys) h = absurd h
same-eq (x ∷ xs) [] h = absurd h
same-eq (x ∷ xs) (y ∷ ys) h = go (same-eq xs ys) (eqb x y) refl h
  where
    go : (T (same xs ys) → xs ≡ ys) → (b : Bool) → eqb x y ≡ b → T (elim b [ true ↦ same xs ys | false ↦ false ]) → x ∷ xs ≡ y ∷ ys
    go r true e t = let a : x ≡ y = eqb→eq x y (rw e tt) in let b : xs ≡ ys = r t in cc
    go r false e t = absurd t

same_refl : (xs : List ℕ) → T (same xs xs)
unfolding same
same_refl [] = tt
same_refl (x ∷ xs) = go (eqb x x) (eqb_refl x) (same_refl xs)
  where
    go : (b : Bool) → T b → T (same xs xs) → T (elim b [ true ↦ same xs xs | false ↦ false ])
    go true h t = t
    go false h t = h

module _ (c : Code) where
  -- ---- words and sets

  -- words whose sets lie inside those of others have their digits among theirs
  pub lies-adds : (ws xs : List ℕ) → WellFormed c ws → LiesIn c ws (sets c xs) → ws ≼ xs
  lies-adds ws xs w i n h =
      let a : At c n = used-place c n (rw (← w.long) (bit-short ws n h)) (w.clean n h) in
      let b : T (bit ws (place c a.row a.element)) = subst (λ (m : ℕ). T (bit ws m)) a.here h in
      subst (λ (m : ℕ). T (bit xs m)) (sym a.here)
      (sets-bit c xs a.row a.element (i a.row a.element (in-sets c ws a.row a.element a.may b)))

  -- two lists of words with the same sets are equal
  pub sets-ext : (ws xs : List ℕ) → WellFormed c ws → WellFormed c xs → LiesIn c ws (sets c xs) → LiesIn c xs (sets c ws) → ws ≡ xs
  sets-ext ws xs w x i j = words-ext ws xs (w.long ∙ sym x.long) w.words x.words (lies-adds ws xs w i) (lies-adds xs ws x j)

  -- ---- facts

  pub facts-bound : (ws : List ℕ) → WellFormed c ws → facts ws ≤ most_facts c
  facts-bound ws w =
      let e : facts ws ≡ count (32 * estimate_words c) (bit ws) = facts-count ws ∙ ap (λ (n : ℕ). count (32 * n) (bit ws)) w.long in
      omega (arith, count-mono (32 * estimate_words c) (bit ws) (used c) (λ n l. w.clean n), count-used c)

  -- where facts do not grow, nothing is new
  facts-equal : (ws xs : List ℕ) → WellFormed c ws → WellFormed c xs → ws ≼ xs → facts xs ≤ facts ws → xs ≡ ws
  facts-equal ws xs w x a l =
      let e : facts ws ≡ count (32 * estimate_words c) (bit ws) = facts-count ws ∙ ap (λ (n : ℕ). count (32 * n) (bit ws)) w.long in
      let f : facts xs ≡ count (32 * estimate_words c) (bit xs) = facts-count xs ∙ ap (λ (n : ℕ). count (32 * n) (bit xs)) x.long in
      words-ext xs ws (x.long ∙ sym w.long) x.words w.words
      (λ n h. count-equal (32 * estimate_words c) (bit ws) (bit xs) (λ m u. a m) (omega arith) n (rw (← x.long) (bit-short xs n h)) h) a

  module _ (k : Linked c) (ρ : ℕ) where
    -- ---- a sweep

    all_fit : Fits c (every c.size (rule c ρ))
    all_fit = λ p m. rule_fits c k p (in-below m) ρ

    sweep-well : (ws : List ℕ) → WellFormed c ws → WellFormed c (sweep c ρ ws)
    unfolding sweep
    sweep-well ws w = fire-well c (every c.size (rule c ρ)) all_fit ws w

    sweep-adds : (ws : List ℕ) → ws ≼ sweep c ρ ws
    unfolding sweep
    sweep-adds ws = fire-adds c (every c.size (rule c ρ)) ws

    -- ---- sweeps until nothing changes

    close-suc : (n : ℕ) (ws : List ℕ)
        → close c ρ (suc n) ws ≡ elim (same (sweep c ρ ws) ws) [ true ↦ ws | false ↦ close c ρ n (sweep c ρ ws) ]
    unfolding close
    close-suc n ws = whole_is (sweep c ρ ws) (λ xs. elim (same xs ws) [ true ↦ ws | false ↦ close c ρ n xs ])

    close-zero : (ws : List ℕ) → close c ρ zero ws ≡ ws
    unfolding close
    close-zero ws = refl

    close-keeps : (Q : List ℕ → Type 0) → ((ws : List ℕ) → Q ws → Q (sweep c ρ ws)) → (n : ℕ) (ws : List ℕ) → Q ws → Q (close c ρ n ws)
    close-keeps Q f zero ws h = rw close-zero h
    close-keeps Q f (suc n) ws h = rw close-suc (go (same (sweep c ρ ws) ws) (close-keeps Q f n (sweep c ρ ws) (f ws h)))
      where
        go : (b : Bool) → Q (close c ρ n (sweep c ρ ws)) → Q (elim b [ true ↦ ws | false ↦ close c ρ n (sweep c ρ ws) ])
        go true t = h
        go false t = t

    abbrev Settled : List ℕ → Type 0
    Settled ws = sweep c ρ ws ≡ ws

    close-settles : (n : ℕ) (ws : List ℕ) → WellFormed c ws → most_facts c ≤ facts ws + n → Settled (close c ρ n ws)
    close-settles zero ws w l =
        rw close-zero
        (facts-equal ws (sweep c ρ ws) w (sweep-well ws w) (sweep-adds ws) (omega (arith, facts-bound (sweep c ρ ws) (sweep-well ws w))))
    close-settles (suc n) ws w l =
        subst Settled (sym (close-suc n ws)) (go (close-settles n (sweep c ρ ws) (sweep-well ws w)) (same (sweep c ρ ws) ws) refl)
      where
        -- a sweep that changes something adds a fact
        grows : same (sweep c ρ ws) ws ≡ false → Dec (facts ws < facts (sweep c ρ ws)) → facts ws < facts (sweep c ρ ws)
        grows e (yes d) = d
        grows e (no d) =
            let q : sweep c ρ ws ≡ ws = facts-equal ws (sweep c ρ ws) w (sweep-well ws w) (sweep-adds ws) (omega arith) in
            absurd (subst T e (subst (λ (xs : List ℕ). T (same xs ws)) (sym q) (same_refl ws)))

        go : (most_facts c ≤ facts (sweep c ρ ws) + n → Settled (close c ρ n (sweep c ρ ws))) → (b : Bool) → same (sweep c ρ ws) ws ≡ b
            → Settled (elim b [ true ↦ ws | false ↦ close c ρ n (sweep c ρ ws) ])
        go r true e = same-eq (sweep c ρ ws) ws (rw e tt)
        go r false e = r (omega (arith, grows e (dec_lt (facts ws) (facts (sweep c ρ ws)))))

    -- ---- the estimate

    abbrev start : List ℕ
    start = replicate (estimate_words c) 0

    start-well : WellFormed c start
    start-well =
        record {
          long = length-replicate (estimate_words c) 0;
          words = λ i. zeros (estimate_words c) i;
          clean = λ n h. absurd (bit-zero (estimate_words c) n h);
        }
      where
        zeros : (n i : ℕ) → get_or (replicate n 0) i 0 < 2 ^ 32
        zeros zero i = lit< tt
        zeros (suc n) zero = lit< tt
        zeros (suc n) (suc i) = zeros n i

    pub estimate-well : WellFormed c (estimate c ρ)
    unfolding estimate
    estimate-well = close-keeps (WellFormed c) sweep-well (most_facts c) start start-well

    pub estimate-settled : sweep c ρ (estimate c ρ) ≡ estimate c ρ
    unfolding estimate
    estimate-settled = close-settles (most_facts c) start start-well (omega arith)

    -- where a sweep changes nothing, every rule is obeyed
    pub settled-obeys : (ws : List ℕ) → WellFormed c ws → sweep c ρ ws ≡ ws → Estimate c ρ (sets c ws)
    unfolding sweep
    settled-obeys ws w e = λ p h. fire-obeys c (every c.size (rule c ρ)) all_fit ws w e p (below_in h)

    pub estimate-obeys : Estimate c ρ (sets c (estimate c ρ))
    estimate-obeys = settled-obeys (estimate c ρ) estimate-well estimate-settled

    module _ (e : Sets) (o : Estimate c ρ e) where
      abbrev Kept : List ℕ → Type 0
      Kept ws = WellFormed c ws × LiesIn c ws e

      sweep-kept : (ws : List ℕ) → Kept ws → Kept (sweep c ρ ws)
      unfolding sweep
      sweep-kept ws w =
          (sweep-well ws w.0, fire-inside c e (every c.size (rule c ρ)) all_fit (λ p m. o p (in-below m)) ws w.0 w.1)

      pub estimate-least : LiesIn c (estimate c ρ) e
      unfolding estimate
      estimate-least =
          (close-keeps Kept sweep-kept (most_facts c) start
          (start-well, λ r v h. absurd (bit-zero (estimate_words c) (place c r v) (sets-bit c start r v h)))).1

    -- any words that obey every rule and lie inside every estimate that does are the estimate
    pub estimate-unique : (ws : List ℕ) → WellFormed c ws → Estimate c ρ (sets c ws) → ((e : Sets) → Estimate c ρ e → LiesIn c ws e)
        → ws ≡ estimate c ρ
    estimate-unique ws w o l =
        sets-ext ws (estimate c ρ) w estimate-well (l (sets c (estimate c ρ)) estimate-obeys) (estimate-least (sets c ws) o)

    pub estimate-facts : facts (estimate c ρ) ≤ most_facts c
    estimate-facts = facts-bound (estimate c ρ) estimate-well
