-- What an analysis under a ceiling answers and leaves, and that it is sound: demands 2 and 3. A larger ceiling gives the same estimate, and the
-- figure that calls without a ceiling use refuses nothing.
use Prim.Native.Nat.{ℕ, ◌≤◌, ◌<◌}
use mathlib.Core.Path.{◌≡◌, refl, sym, ap, ap₂, ◌∙◌, subst}
use Rattle.std.specs.Prelude.{Result, Ok, Err}
use mathlib.Core.Bool.{Bool, true, false}
use mathlib.Core.List.{List, ◌++◌}
use native.Mathlib.Omega.{arith}
use borrow.Author.Tests.{lt-ltb, le-ltb}
use lib.Dec.{ltb}
use lib.ListN.{length, drop}
use Rattle.table.specs.Scan.{accepted, reading}
use Rattle.table.specs.Code.{code}
use Rattle.table.proofs.Linked.{linked}
use Rattle.calculus.specs.Layout.{estimate_words}
use Rattle.calculus.specs.Estimate.{estimate, leak, facts, most_facts}
use Rattle.calculus.specs.Answer.{Answer, verdict, standing_bound, judge, answer, estimate_after}
use Rattle.calculus.specs.Answer as answers
use Rattle.calculus.specs.Correct.{Correct}
use Rattle.calculus.proofs.Correct.{call-correct}
use Rattle.calculus.proofs.Least.{estimate-well, facts-bound}
use Rattle.calls.proofs.Answers.{after-solved}
use Rattle.comparison.specs.declared.Findings.{Findings}
use Rattle.calls.specs.declared.LimitFault.{LimitFault}
use Rattle.calls.specs.declared.LimitFault.TheVariants.{Facts}
use Rattle.solver.specs.Analysis.{summary}
use Rattle.solver.specs.Analysis as analysis
use Rattle.solver.specs.Ceiling.{under, answer_within, words_within, estimate_within, Outcome, refused, solved, outcome, outcome_of, SoundWithin, SolvedIn, BoundedAs, BoundedIn}
use Rattle.solver.proofs.Least.{words-whole}
use Rattle.solver.proofs.Sound.{sound}

-- ---- what `find_within` says

-- refused, or the leak and the facts, by a test
abbrev saying : List ℕ → (ρ n : ℕ) → Bool → Outcome
saying ws ρ n b = elim b [ true ↦ refused 23 n | false ↦ solved (leak (code ws) ρ (estimate (code ws) ρ)) (facts (estimate (code ws) ρ)) ]

module _ (ws : List ℕ) (ρ n : ℕ) (est work est' work' : List ℕ) (s : Findings) (d : SolvedIn ws ρ n est work est' work' s) where
  pub is-over : n < s.facts → BoundedIn ws ρ n est work est' work' (Err (Facts n))
  is-over h = record { estimates = d.estimates; works = d.works; says = (refl, d.over h) }

  pub is_within : s.facts ≤ n → BoundedIn ws ρ n est work est' work' (Ok s)
  is_within h =
      let k : s.facts ≡ facts (estimate (code ws) ρ) = d.within h in
      let t : ltb n (facts (estimate (code ws) ρ)) ≡ false = le-ltb n (facts (estimate (code ws) ρ)) (omega arith) in
      record {
        estimates = d.estimates;
        works = d.works;
        says = (h, k, d.leaks ∙ ap (leak (code ws) ρ) (words-whole (code ws) ρ n t));
      }

pub bounded-says : (ws : List ℕ) (ρ n : ℕ) (r : Result Findings LimitFault) → BoundedAs (code ws) ρ n r
    → outcome_of r ≡ saying ws ρ n (ltb n (facts (estimate (code ws) ρ)))
unfolding outcome_of
bounded-says ws ρ n (Ok s) h = ap₂ solved h.2 h.1 ∙ sym (ap (saying ws ρ n) (le-ltb n (facts (estimate (code ws) ρ)) (omega arith)))
bounded-says ws ρ n (Err e) h =
    ap (λ (f : LimitFault). outcome_of (Err f)) h.0 ∙ sym (ap (saying ws ρ n) (lt-ltb n (facts (estimate (code ws) ρ)) h.1))

-- ---- a call that passes its checks

module _ (ws : List ℕ) (ρ n : ℕ) (est work : List ℕ) where
  abbrev said : Answer
  said = answer ws ρ standing_bound (length est) (length work)

  module _ (e : said ≡ verdict (judge (code ws) ρ standing_bound (estimate (code ws) ρ))) where
    pub within-is : outcome (answer_within ws ρ n (length est) (length work))
        ≡ elim (ltb n (facts (estimate (code ws) ρ))) [ true ↦ refused 23 n | false ↦ solved (leak (code ws) ρ (estimate (code ws) ρ)) (facts (estimate (code ws) ρ)) ]
    unfolding answer_within under judge outcome
    within-is = ap (λ (a : Answer). outcome (under n a)) e ∙ go (ltb n (facts (estimate (code ws) ρ)))
      where
        v : Answer
        v = verdict (judge (code ws) ρ standing_bound (estimate (code ws) ρ))

        go : (b : Bool) → outcome (elim b [ true ↦ answers.refused 23 n | false ↦ v ])
            ≡ elim b [ true ↦ refused 23 n | false ↦ solved (leak (code ws) ρ (estimate (code ws) ρ)) (facts (estimate (code ws) ρ)) ]
        go true = refl
        go false = refl

    pub words_are : words_within (code ws) ρ n ++ drop (estimate_words (code ws)) est ≡ estimate_within ws ρ n est work
    unfolding estimate_within
    words_are = sym (ap left e)
      where
        left : Answer → List ℕ
        left (answers.refused k at) = est
        left (verdict v) = words_within (code ws) ρ n ++ drop (estimate_words (code ws)) est

  module _ (k at : ℕ) (e : said ≡ answers.refused k at) where
    pub refused-is : outcome (answer_within ws ρ n (length est) (length work)) ≡ refused k at
    unfolding answer_within under outcome
    refused-is = ap (λ (a : Answer). outcome (under n a)) e

    pub words-kept : est ≡ estimate_within ws ρ n est work
    unfolding estimate_within
    words-kept = sym (rw (e, estimate_within))

-- ---- demands 2 and 3

module _ (ws : List ℕ) (ρ n : ℕ) (est work us : List ℕ) where
  abbrev found : Answer
  found = verdict (judge (code ws) ρ standing_bound (estimate (code ws) ρ))

  pub sound-fine : answer ws ρ standing_bound (length est) (length work) ≡ found
      → us ≡ words_within (code ws) ρ n ++ drop (estimate_words (code ws)) est
      → (o : Outcome) → o ≡ saying ws ρ n (ltb n (facts (estimate (code ws) ρ))) → SoundWithin ws ρ us o
  unfolding SoundWithin Correct summary judge
  sound-fine e u o q = subst (SoundWithin ws ρ us) (sym q) (go (ltb n (facts (estimate (code ws) ρ))) refl)
    where
      go : (b : Bool) → ltb n (facts (estimate (code ws) ρ)) ≡ b → SoundWithin ws ρ us (saying ws ρ n b)
      go true t = tt
      go false t =
          let a : us ≡ estimate_after ws ρ standing_bound est work =
          u ∙ ap (λ (xs : List ℕ). xs ++ drop (estimate_words (code ws)) est) (words-whole (code ws) ρ n t)
          ∙ (after-solved ws ρ standing_bound est work (judge (code ws) ρ standing_bound (estimate (code ws) ρ)) e).0
          in (
            sound ws ρ est work us (analysis.solved (leak (code ws) ρ (estimate (code ws) ρ))) (ap summary (sym e)) a,
            (call-correct ws ρ standing_bound est work us found (sym e) a).2,
          )

  pub sound-refused : (k at : ℕ) (o : Outcome) → o ≡ refused k at → SoundWithin ws ρ us o
  unfolding SoundWithin
  sound-refused k at o q = subst (SoundWithin ws ρ us) (sym q) tt

-- ---- ceilings compared

-- a larger ceiling gives the same estimate
pub more_room : (ws : List ℕ) (ρ n m : ℕ) (est work : List ℕ) → facts (estimate (code ws) ρ) ≤ n → n ≤ m
    → estimate_within ws ρ n est work ≡ estimate_within ws ρ m est work
unfolding estimate_within
more_room ws ρ n m est work h i = go (answer ws ρ standing_bound (length est) (length work))
  where
    same : words_within (code ws) ρ n ≡ words_within (code ws) ρ m
    same =
        words-whole (code ws) ρ n (le-ltb n (facts (estimate (code ws) ρ)) h)
        ∙ sym (words-whole (code ws) ρ m (le-ltb m (facts (estimate (code ws) ρ)) (omega arith)))

    go : (a : Answer)
        → ◌≡◌ {A = List ℕ} (elim a [ answers.refused k at ↦ est | verdict v ↦ words_within (code ws) ρ n ++ drop (estimate_words (code ws)) est ])
        (elim a [ answers.refused k at ↦ est | verdict v ↦ words_within (code ws) ρ m ++ drop (estimate_words (code ws)) est ])
    go (answers.refused k at) = refl
    go (verdict v) = ap (λ (xs : List ℕ). xs ++ drop (estimate_words (code ws)) est) same

-- the figure of a table refuses nothing
pub never-over : (ws : List ℕ) → reading ws ≡ accepted → (ρ : ℕ) → ltb (most_facts (code ws)) (facts (estimate (code ws) ρ)) ≡ false
never-over ws r ρ =
    le-ltb (most_facts (code ws)) (facts (estimate (code ws) ρ))
    (facts-bound (code ws) (estimate (code ws) ρ) (estimate-well (code ws) (linked ws r) ρ))
