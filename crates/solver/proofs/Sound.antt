-- An analysis that says what the answer says, and leaves what the call leaves, is sound: demands 2 and 3.
use Prim.Native.Nat.{ℕ}
use mathlib.Core.Path.{◌≡◌, refl, sym, subst}
use mathlib.Core.List.{List}
use lib.ListN.{length}
use Rattle.calculus.specs.Answer.{Answer, verdict, standing_bound, answer, estimate_after}
use Rattle.calculus.specs.Answer as answers
use Rattle.calculus.specs.Correct.{Correct, Guaranteed}
use Rattle.calculus.proofs.Correct.{call-correct}
use Rattle.calculus.proofs.Covers.{answer-guaranteed}
use Rattle.solver.specs.Analysis.{Summary, summary, Sound}

of-answer : (ws : List ℕ) (ρ bound : ℕ) (us : List ℕ) (a : Answer) → Correct ws ρ bound us a → Guaranteed ws ρ a → Sound ws ρ us (summary a)
unfolding Correct Guaranteed Sound summary
of-answer ws ρ bound us (answers.refused number place) d g = tt
of-answer ws ρ bound us (verdict v) d g = (d.0, g)

pub sound : (ws : List ℕ) (ρ : ℕ) (est work us : List ℕ) (s : Summary) → s ≡ summary (answer ws ρ standing_bound (length est) (length work))
    → us ≡ estimate_after ws ρ standing_bound est work → Sound ws ρ us s
sound ws ρ est work us s e u =
    let a = answer ws ρ standing_bound (length est) (length work) in
    subst (Sound ws ρ us) (sym e)
    (of-answer ws ρ standing_bound us a (call-correct ws ρ standing_bound est work us a refl u)
    (answer-guaranteed ws ρ standing_bound (length est) (length work) a refl))
