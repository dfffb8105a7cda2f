-- The laws of a step: the words stay well-formed and inside every estimate that obeys the rules; and where no step of a word adds anything, its rule is obeyed.
use Prim.Native.Nat.{ℕ, ◌<◌}
use mathlib.Core.Path.{◌≡◌}
use mathlib.Core.List.{List}
use native.Mathlib.Omega.{arith}
use lib.Dec.{T}
use Rattle.table.specs.Code.{Code, Node, Two, gap, block, leaf, one, two, bind, while, branch, update, code}
use Rattle.table.specs.Code.{apply, sequence, get, delete, assign, operation, send}
use Rattle.table.specs.Links.{linked}
use Rattle.calculus.specs.Constraint.{Sets, Obeys, L, given}
use Rattle.calculus.specs.Rules.{flow, entry, two_sender, sender, rule, Estimate}
use Rattle.calculus.specs.Layout.{sets, WellFormed, LiesIn}
use Rattle.calculus.specs.Estimate.{fire}
use Rattle.calculus.proofs.Firing.{Fits, fire-well, fire-inside, fire-obeys}
use Rattle.calculus.proofs.Senders.{sent_from, from-senders, estimate-sent}
use Rattle.calculus.specs.Elements.{plain}
use Rattle.clauses.specs.Asks.{asks}
use Rattle.clauses.specs.Clauses.{clause_at}
use Rattle.clauses.proofs.OfWord.{rule-clauses, clauses-rule, clauses-sent}
use Rattle.rows.specs.declared.layout.Layout.{Layout}
use Rattle.queries.specs.Ready.{Ready}
use Rattle.queries.proofs.Given.{linked-code}
use Rattle.firing.specs.Step.{step_at}
use Rattle.firing.proofs.Suited.{clause-suits}
use Rattle.firing.proofs.Fit.{clause-fits}

-- what a word asks of its receivers is asked where it is live
two-live : (c : Code) (e : Sets) (p b : ℕ) (u : Two) (a d : ℕ) → (T (e (L p) 0) → Obeys e (two_sender c b p u a d)) → Obeys e (two_sender c b p u a d)
unfolding two_sender
two-live c e p b apply a d k = tt
two-live c e p b sequence a d k = tt
two-live c e p b get a d k = tt
two-live c e p b delete a d k = tt
two-live c e p b assign a d k = tt
two-live c e p b (operation x) a d k = tt
two-live c e p b (send r) a d k = λ t. k t t

node-live : (c : Code) (e : Sets) (p b : ℕ) (n : Node) → (T (e (L p) 0) → Obeys e (sender c b p n)) → Obeys e (sender c b p n)
unfolding sender
node-live c e p b gap k = tt
node-live c e p b (block n s g) k = tt
node-live c e p b (leaf x) k = tt
node-live c e p b (one x a) k = tt
node-live c e p b (two u a d) k = two-live c e p b u a d k
node-live c e p b (bind a d) k = tt
node-live c e p b (while a d) k = tt
node-live c e p b (branch a d x) k = tt
node-live c e p b (update a d x) k = tt

sent-live : (c : Code) (e : Sets) (p : ℕ) → Obeys e (given (L p) 0 (sent_from c p)) → Obeys e (sent_from c p)
sent-live c e p o = λ b m. node-live c e p b (c.node p) (λ t. o t b m)

module _ {ws links masks : List ℕ} {l : Layout} (y : Ready ws links masks l) (p : ℕ) (h : p < l.size) where
  in_code : p < (code ws).size
  in_code = omega (arith, y.laid.size)

  module _ (k f : ℕ) where
    step_fits : Fits (code ws) (step_at ws links p k f)
    step_fits = clause-fits y (clause_at ws links (plain (code ws)) p k) (clause-suits y p h k) f

    -- the estimates obey it, whatever the opponent has
    step-asked : (ρ : ℕ) (e : Sets) → Estimate (code ws) ρ e → Obeys e (step_at ws links p k f)
    unfolding rule
    step-asked ρ e o =
        rw y.from
        (λ t. rule-clauses ws y.readable y.slice y.room e p in_code ((o p in_code).1 t)
        (estimate-sent (code ws) (linked-code y) e ρ o p in_code) t k f)

    module _ {est : List ℕ} (w : WellFormed (code ws) est) where
      pub step-well : WellFormed (code ws) (fire (code ws) (step_at ws links p k f) est)
      step-well = fire-well (code ws) (step_at ws links p k f) step_fits est w

      pub step-inside : (ρ : ℕ) (e : Sets) → Estimate (code ws) ρ e → LiesIn (code ws) est e → LiesIn (code ws) (fire (code ws) (step_at ws links p k f) est) e
      step-inside ρ e o i = fire-inside (code ws) e (step_at ws links p k f) step_fits (step-asked ρ e o) est w i

  -- where no step of a live word adds anything, its clauses are obeyed: its rule is, and what it asks of its receivers
  module _ {est : List ℕ} (w : WellFormed (code ws) est) (s : (k : ℕ) → fire (code ws) (step_at ws links p k 0) est ≡ est) (t : T (sets (code ws) est (L p) 0)) where
    obeyed : (k : ℕ) → Obeys (sets (code ws) est) (asks (code ws) (clause_at ws (linked ws y.slice) (plain (code ws)) p k) 0)
    obeyed k = rw y.from at (fire-obeys (code ws) (step_at ws links p k 0) (step_fits k 0) est w (s k) t)

    steps-rule : Obeys (sets (code ws) est) (flow (code ws) p ((code ws).node p))
    steps-rule = clauses-rule ws y.readable y.slice y.room (sets (code ws) est) p in_code obeyed

    steps-sent : Obeys (sets (code ws) est) (sent_from (code ws) p)
    steps-sent = clauses-sent ws y.readable y.slice y.room (sets (code ws) est) p in_code obeyed

-- where no step of any word adds anything, a word whose entry is obeyed obeys its rule
pub steps-rules : {ws links masks : List ℕ} {l : Layout} → Ready ws links masks l → (ρ : ℕ) {est : List ℕ} → WellFormed (code ws) est
    → ((p : ℕ) → p < l.size → (k : ℕ) → fire (code ws) (step_at ws links p k 0) est ≡ est) → (p : ℕ) → p < l.size
    → Obeys (sets (code ws) est) (entry (code ws) ρ p) → Obeys (sets (code ws) est) (rule (code ws) ρ p)
unfolding rule
steps-rules {ws} {l = l} y ρ {est} w s p h o =
    let inside : (q : ℕ) → q < (code ws).size → q < l.size = λ q g. omega (arith, y.laid.size) in (
      (o, from-senders (code ws) (linked-code y) (sets (code ws) est) (λ q g. sent-live (code ws) (sets (code ws) est) q (steps-sent y q (inside q g) w (s q (inside q g)))) p (in_code y p h)),
      steps-rule y p h w (s p h),
    )
