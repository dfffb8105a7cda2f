-- All clauses of a word and of all words, tried one after another: where nothing was added, every rule is obeyed.
use Prim.Native.Nat.{ℕ, ◌+◌, ◌*◌, ◌/◌, ◌%◌, ◌≤◌, ◌<◌}
use mathlib.Core.Path.{◌≡◌, refl, ◌∙◌}
use mathlib.Core.Bool.{Bool, true, false}
use mathlib.Core.List.{List}
use native.Mathlib.Decide.{dec_lt}
use native.Mathlib.Omega.{arith}
use lib.ListN.{length, get_or, set, length-set}
use lib.Seq.{get_or-set_same, get_or-set_other}
use Rattle.table.specs.Code.{code}
use Rattle.table.proofs.Blocks.{head-word}
use Rattle.calculus.specs.Constraint.{L}
use Rattle.calculus.specs.Elements.{plain}
use Rattle.calculus.specs.Rules.{Estimate}
use Rattle.calculus.specs.Layout.{sets, WellFormed}
use Rattle.calculus.specs.Estimate.{fire}
use Rattle.clauses.specs.Asks.{asks, under}
use Rattle.clauses.proofs.Few.{few-clauses}
use Rattle.rows.specs.declared.layout.Layout.{Layout}
use Rattle.queries.specs.Ready.{Ready}
use Rattle.queries.proofs.Given.{size_is, sized}
use Rattle.checker.specs.Words.{Accepted}
use Rattle.choices.specs.Choices.{choice_of, place_of, clause_of, target_of}
use Rattle.firing.specs.Fired.{Fired}
use Rattle.firing.specs.Step.{step_at}
use Rattle.firing.proofs.Steps.{step-well, step-inside, steps-rules}
use Rattle.fixpoint.specs.Grown.{Grown, Tried, Entered, Idle, Spent, AllSpent}
use Rattle.fixpoint.proofs.Grows.{few, fired, entry-obeyed}

-- all clauses of p have nothing to add where the first five have not
all-idle : (ws links : List ℕ) (p : ℕ) (est : List ℕ) → ((k : ℕ) → k < 5 → Idle ws links p k 0 est) → (k : ℕ) → Idle ws links p k 0 est
unfolding fire asks under
all-idle ws links p est t k = go (dec_lt k 5)
  where
    never-adds : (b : Bool) → elim b [ true ↦ est | false ↦ est ] ≡ est
    never-adds true = refl
    never-adds false = refl

    go : Dec (k < 5) → Idle ws links p k 0 est
    go (yes b) = t k b
    go (no b) = rw (few-clauses ws links (plain (code ws)) p k (omega arith)) (never-adds (sets (code ws) est (L p) 0))

-- the entry of the word i / 5 and its clause i % 5 have nothing to add
abbrev pub Quiet : (ws links : List ℕ) (ρ i : ℕ) → List ℕ → Type 0
Quiet ws links ρ i est = Entered ws ρ (i / 5) est × Idle ws links (i / 5) (i % 5) 0 est

module _ {ws links masks : List ℕ} {l : Layout} (y : Ready ws links masks l) where
  pub accepted-of : Accepted ws l
  accepted-of = record { readable = y.readable; laid = y.laid }

  pub some_word : 0 < l.size
  some_word = omega (arith, (head-word ws y.readable).inside, size_is y)

  pub few-of : {ρ : ℕ} {old new : List ℕ} {n : ℕ} → WellFormed (code ws) old → Grown (code ws) ρ old new n → n ≤ 2392064
  few-of w g = few (sized y w) w g

  -- a list of one choice, a clause of a word
  pub chosen : (p k w : ℕ) (out est : List ℕ) → 1 < length out → p < l.size → l.size ≤ 1024 → k < 5 → w ≡ choice_of k p 0
      → AllSpent ws links l.size (set (set out 0 1) 1 w) est → Idle ws links p k 0 est
  chosen p k w out est g h n m e x =
      let j : 1 < length (set out 0 1) = simp length-set (omega arith) in
      let i : get_or (set (set out 0 1) 1 w) 0 0 ≡ 1 = get_or-set_other (set out 0 1) 1 0 w 0 (λ z. omega arith) ∙ get_or-set_same out 0 1 0 (omega arith) in
      let y : Spent ws links l.size w est = rw (get_or-set_same (set out 0 1) 1 w 0 j) at (x 0 (omega arith)) in
      let a : place_of w ≡ p = omega arith in
      let b : clause_of w ≡ k = omega arith in
      let d : target_of w ≡ 0 = omega arith in
      rw (a, b, d) at (y (omega arith))

  pub stepped : (p k f : ℕ) → p < l.size → {old new : List ℕ} {n : ℕ} → Fired (code ws) (step_at ws links p k f) old new n → (ρ : ℕ)
      → Tried (code ws) ρ (Idle ws links p k f) old new n
  stepped p k f h g ρ = fired (step_at ws links p k f) (step-well y p h k f) (λ w. step-inside y p h k f w ρ) g

  -- where all words are quiet, every rule is obeyed
  pub quiet-obeyed : (ρ i : ℕ) {est : List ℕ} → WellFormed (code ws) est → 5 * l.size ≤ i → ((j : ℕ) → j < i → Quiet ws links ρ j est)
      → Estimate (code ws) ρ (sets (code ws) est)
  quiet-obeyed ρ i {est} w h t p g =
      let at : (q k : ℕ) → q < l.size → k < 5 → Entered ws ρ q est × Idle ws links q k 0 est =
      λ q k a b.
      let d : (5 * q + k) / 5 ≡ q = omega arith in
      let m : (5 * q + k) % 5 ≡ k = omega arith in
      rw (d, m) at (t (5 * q + k) (omega arith)) in
      let b : p < l.size = omega (arith, y.laid.size) in
      steps-rules y ρ w (λ q a. all-idle ws links q est (λ k x. (at q k a x).1)) p b (entry-obeyed accepted-of ρ p b w (at p 0 b (omega arith)).0)
