-- What an analysis says of a system, over arrays for the most words of one; and what its leak means.
use Prim.Native.Nat.{ℕ, ◌≤◌}
use mathlib.Core.Path.{◌≡◌, refl, sym, ap, subst}
use mathlib.Core.List.{List}
use native.Mathlib.Omega.{arith}
use lib.ListN.{length, take}
use lib.Seq.{take_all}
use Rattle.table.specs.Code.{code}
use Rattle.table.proofs.Linked.{linked}
use Rattle.calculus.specs.Layout.{estimate_words}
use Rattle.calculus.specs.Estimate.{estimate}
use Rattle.calculus.specs.Answer.{Answer, refused, verdict, standing_bound, work_words, answer}
use Rattle.calculus.specs.Correct.{Least, Correct, Guaranteed}
use Rattle.calculus.proofs.Covers.{answer-judged, answer-guaranteed}
use Rattle.calculus.proofs.Correct.{answer-correct}
use Rattle.calculus.proofs.Least.{estimate-well}
use Rattle.verdict.proofs.Room.{estimate-room, work-room, answer-enough}
use Rattle.little_endian.specs.LittleEndian.{words_of}
use Rattle.class_report.specs.Stream.{System}
use Rattle.class_report.specs.Report.{outcome_of, answer_on, outcome}
use Rattle.class_report.specs.Steps.{Sound}

pub outcome-exact : (ws : List ℕ) (ρ est work : ℕ) → length ws ≤ 256 → est ≡ 5888 → work ≡ 1024
    → outcome_of (answer ws ρ standing_bound est work) ≡ outcome_of (answer_on ws ρ)
unfolding answer_on code
outcome-exact ws ρ est work h e w =
    ap outcome_of (answer-enough ws ρ standing_bound est work (omega (arith, estimate-room ws h)) (omega (arith, work-room ws h)))

-- ---- what a leak means

sound-answer : (s : System) (a : Answer) → a ≡ answer_on (words_of s.bytes) s.rho → Sound s (outcome_of a)
unfolding Sound outcome_of answer_on Correct Guaranteed
sound-answer s (refused n at) e = tt
sound-answer s (verdict v) e =
    let ws : List ℕ = words_of s.bytes in
    let c = code ws in
    let r = (answer-judged ws s.rho standing_bound (estimate_words c) (work_words (length ws)) v (sym e)).0 in
    let n : length (estimate c s.rho) ≡ estimate_words c = (estimate-well c (linked ws r) s.rho).long in
    let t : take (estimate_words c) (estimate c s.rho) ≡ estimate c s.rho = take_all (estimate_words c) (estimate c s.rho) (omega arith) in (
      subst (λ (us : List ℕ). Least c s.rho us v.leak) t
          (answer-correct ws s.rho standing_bound (estimate_words c) (work_words (length ws)) (estimate c s.rho) (verdict v) e (λ u q. t)).0,
      answer-guaranteed ws s.rho standing_bound (estimate_words c) (work_words (length ws)) (verdict v) e,
    )

pub outcome-sound : (s : System) → Sound s (outcome s)
unfolding outcome
outcome-sound s = sound-answer s (answer_on (words_of s.bytes) s.rho) refl
