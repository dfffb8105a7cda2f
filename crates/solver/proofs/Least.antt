-- Words that sound steps from zeros have closed are the least estimate, and its facts are those counted; under a ceiling, stopping is exact.
use Prim.Native.Nat.{ℕ, zero, suc, ◌+◌, ◌*◌, ◌≤◌, ◌<◌}
use mathlib.Core.Path.{◌≡◌, refl, sym, ap, ap₂, ◌∙◌}
use mathlib.Core.Bool.{Bool, true, false}
use mathlib.Core.List.{List, ◌++◌}
use native.Mathlib.Decide.{dec_lt}
use native.Mathlib.Nat.{zero-add}
use native.Mathlib.Omega.{arith}
use borrow.Author.Tests.{lt-ltb, le-ltb}
use lib.Count.{ones_in}
use lib.Dec.{lit<, ltb}
use lib.ListN.{length, drop, replicate, length-replicate}
use Rattle.table.specs.Scan.{accepted, reading}
use Rattle.table.specs.Code.{Code, Linked, code}
use Rattle.table.proofs.Linked.{linked}
use Rattle.calculus.specs.Constraint.{Sets}
use Rattle.calculus.specs.Rules.{Estimate}
use Rattle.calculus.specs.Layout.{place, sets, estimate_words, WellFormed, LiesIn}
use Rattle.calculus.specs.Estimate.{estimate, facts, leak, most_facts}
use Rattle.calculus.proofs.Slices.{bit-zero}
use Rattle.calculus.proofs.Rows.{sets-bit}
use Rattle.calculus.proofs.Facts.{facts-le}
use Rattle.calculus.proofs.Least.{lies-adds, estimate-well, estimate-obeys, estimate-unique, facts-bound}
use Rattle.rows.specs.declared.layout.Layout.{Layout}
use Rattle.rows.specs.Laid.{LaidOut}
use Rattle.comparison.specs.declared.Findings.{Findings}
use Rattle.fixpoint.specs.Grown.{Closed}
use Rattle.solver.specs.Analysis.{FoundIn}
use Rattle.solver.specs.Ceiling.{cleared_over, words_within, Counted, SolvedIn}
use Rattle.solver.proofs.Zeros.{zeros-at}

pub over-cleared : (k n : ℕ) (ws : List ℕ) → n < k → cleared_over k n ws ≡ replicate (length ws) 0
unfolding cleared_over
over-cleared k n ws h = ap (λ (b : Bool). elim b [ true ↦ replicate (length ws) 0 | false ↦ ws ]) (lt-ltb n k h)

pub within-kept : (k n : ℕ) (ws : List ℕ) → k ≤ n → cleared_over k n ws ≡ ws
unfolding cleared_over
within-kept k n ws h = ap (λ (b : Bool). elim b [ true ↦ replicate (length ws) 0 | false ↦ ws ]) (le-ltb n k h)

module _ (c : Code) where
  abbrev zeros : List ℕ
  zeros = replicate (estimate_words c) 0

  pub zeros-well : WellFormed c zeros
  zeros-well =
      record {
        long = length-replicate (estimate_words c) 0;
        words = λ k. rw (zeros-at (estimate_words c) k) (lit< tt);
        clean = λ n h. absurd (bit-zero (estimate_words c) n h);
      }

  pub words-over : (ρ n : ℕ) → ltb n (facts (estimate c ρ)) ≡ true → words_within c ρ n ≡ zeros
  unfolding words_within
  words-over ρ n e = ap (λ (b : Bool). elim b [ true ↦ zeros | false ↦ estimate c ρ ]) e

  pub words-whole : (ρ n : ℕ) → ltb n (facts (estimate c ρ)) ≡ false → words_within c ρ n ≡ estimate c ρ
  unfolding words_within
  words-whole ρ n e = ap (λ (b : Bool). elim b [ true ↦ zeros | false ↦ estimate c ρ ]) e

  facts-zeros : (n : ℕ) → facts (replicate n 0) ≡ 0
  unfolding facts ones_in
  facts-zeros zero = refl
  facts-zeros (suc n) = zero-add (facts (replicate n 0)) ∙ facts-zeros n

  -- what obeys every rule after sound steps from zeros is the least estimate; where so many facts were added that the steps stopped, it has as many
  module _ (l : Linked c) (ρ n : ℕ) (ws : List ℕ) (k : ℕ) (d : Closed c ρ n zeros ws k) where
    well : WellFormed c ws
    well = d.grown.sound.well zeros-well

    inside : (e : Sets) → Estimate c ρ e → LiesIn c ws e
    inside e o =
        d.grown.sound.inside zeros-well e o
        (λ r v h. absurd (bit-zero (estimate_words c) (place c r v) (sets-bit c zeros r v h)))

    counted : k ≡ facts ws
    counted = omega (arith, d.grown.count, facts-zeros (estimate_words c))

    same : k ≤ n → ws ≡ estimate c ρ
    same h = estimate-unique c l ρ ws well (d.obeyed h) inside

    most : k ≤ facts (estimate c ρ)
    most =
        let a : facts ws ≤ facts (estimate c ρ) =
        facts-le ws (estimate c ρ) (well.long ∙ sym (estimate-well c l ρ).long)
        (lies-adds c ws (estimate c ρ) well (inside (sets c (estimate c ρ)) (estimate-obeys c l ρ)))
        in
        omega (arith, counted)

    pub counted-least : Counted c ρ n (cleared_over k n ws) k
    counted-least = record { words = go (dec_lt n k); within = λ h. counted ∙ ap facts (same h); over = λ h. omega (arith, most) }
      where
        go : Dec (n < k) → cleared_over k n ws ≡ words_within c ρ n
        go (yes h) =
            over-cleared k n ws h ∙ ap (λ (m : ℕ). replicate m 0) well.long
            ∙ sym (words-over ρ n (lt-ltb n (facts (estimate c ρ)) (omega (arith, most))))
        go (no h) =
            let e : facts (estimate c ρ) ≡ k = sym (counted ∙ ap facts (same (omega arith))) in
            within-kept k n ws (omega arith) ∙ same (omega arith) ∙ sym (words-whole ρ n (le-ltb n (facts (estimate c ρ)) (omega arith)))

-- ---- without a ceiling

module _ (ws : List ℕ) (r : reading ws ≡ accepted) (ρ n : ℕ) (h : most_facts (code ws) ≤ n) where
  few : facts (estimate (code ws) ρ) ≤ n
  few = omega (arith, facts-bound (code ws) (estimate (code ws) ρ) (estimate-well (code ws) (linked ws r) ρ))

  whole_words_lem : words_within (code ws) ρ n ≡ estimate (code ws) ρ
  whole_words_lem = words-whole (code ws) ρ n (le-ltb n (facts (estimate (code ws) ρ)) few)

  pub found_in : (est work est' work' : List ℕ) (s : Findings) → SolvedIn ws ρ n est work est' work' s → FoundIn ws ρ est work est' work' s
  found_in est work est' work' s d =
      record {
        estimates = d.estimates ∙ ap (λ (xs : List ℕ). xs ++ drop (estimate_words (code ws)) est) whole_words_lem;
        works = d.works;
        leaks = d.leaks ∙ ap (leak (code ws) ρ) whole_words_lem;
        counted = go (dec_lt n s.facts);
      }
    where
      go : Dec (n < s.facts) → s.facts ≡ facts (estimate (code ws) ρ)
      go (yes i) = absurd (omega (arith, d.over i, few))
      go (no i) = d.within (omega arith)

pub most-is : (c : Code) (l : Layout) → LaidOut c l → most_facts c ≡ l.size * (2 * (32 * l.lead + l.size) + 25)
unfolding most_facts
most-is c l o = ap₂ (λ (n p : ℕ). n * (2 * (p + n) + 25)) o.size o.lead
