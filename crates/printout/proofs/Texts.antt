-- The text of an answer and of an input, as the code writes it.
use Prim.Native.Nat.{ℕ, ◌≤◌}
use mathlib.Core.Path.{◌≡◌, refl, sym, ap, ◌∙◌, subst}
use mathlib.Core.Bool.{Bool, true, false}
use mathlib.Core.List.{List, [], ◌∷◌, ◌++◌}
use native.Mathlib.Omega.{arith}
use lib.Dec.{eqb}
use lib.ListN.{length, get_or, take, drop, length-append}
use lib.Seq.{take_at}
use borrow.Author.Tests.{ltb-false, eqb-false}
use Rattle.little_endian.specs.LittleEndian.{words_of}
use Rattle.table.specs.Words.{kind}
use Rattle.table.specs.Scan.{accepted, reading, first_of}
use Rattle.table.specs.Code.{code}
use Rattle.table.proofs.Linked.{linked}
use Rattle.table.proofs.Widths.{narrow-names}
use Rattle.calculus.specs.Layout.{estimate_words}
use Rattle.calculus.specs.Estimate.{estimate}
use Rattle.std.specs.Prelude.{Ok}
use Rattle.comparison.specs.declared.Verdict as comparisons
use Rattle.comparison.specs.declared.Verdict.TheVariants.{Within, Over}
use Rattle.comparison.specs.Values.{answer_of}
use Rattle.calculus.specs.Answer.{Verdict, Answer, refused, verdict, answer, estimate_after}
use Rattle.calculus.proofs.Firing.{whole_is}
use Rattle.calculus.proofs.Least.{estimate-well}
use Rattle.calculus.proofs.Covers.{answer-judged}
use Rattle.calls.proofs.Answers.{after-solved}
use Rattle.verdict.specs.Limits.{answer_under, estimate_under}
use Rattle.verdict.proofs.Limits.{under-verdict}
use Rattle.verdict.proofs.Room.{answer-exact}
use Rattle.report.specs.Lines.{verdict_line}
use Rattle.printout.specs.Program.{feeder_tests, handler_lines, first_line, answer_text, unless_wide, system_text, printed}
use Rattle.printout.specs.Answers.{HeldFor}

-- ---- the slice that a call leaves

pub held_after : (ws : List ℕ) (ρ bound : ℕ) (est work est' : List ℕ) → eqb (kind (get_or ws 0 0)) 5 ≡ false → (a : Answer) → a ≡ answer ws ρ bound (length est) (length work)
    → est' ≡ estimate_after ws ρ bound est work → HeldFor ws ρ est' a
held_after ws ρ bound est work est' n (refused number place) e u = tt
held_after ws ρ bound est work est' f (verdict v) e u =
    let r : reading ws ≡ accepted = (answer-judged ws ρ bound (length est) (length work) v (sym e)).0 in
    let n : length (estimate (code ws) ρ) ≡ estimate_words (code ws) = (estimate-well (code ws) (linked ws r) ρ).long in
    let rest : List ℕ = drop (estimate_words (code ws)) est in
    let s : est' ≡ estimate (code ws) ρ ++ rest = u ∙ sym (after-solved ws ρ bound est work v (sym e)).0 in
    record {
      readable = r;
      names = narrow-names (get_or ws 0 0) (eqb-false (kind (get_or ws 0 0)) 5 f);
      long = omega (arith, ap length s, length-append (estimate (code ws) ρ) rest);
      starts = ap (take (estimate_words (code ws))) s ∙ take_at (estimate (code ws) ρ) rest (estimate_words (code ws)) n;
    }

-- the same under the ceiling n
pub held_under : (ws : List ℕ) (ρ bound n : ℕ) (est work est' : List ℕ) → eqb (kind (get_or ws 0 0)) 5 ≡ false → (a : Answer) → a ≡ answer_under ws ρ bound n (length est) (length work)
    → est' ≡ estimate_under ws ρ bound n est work → HeldFor ws ρ est' a
held_under ws ρ bound n est work est' f (refused number place) e u = tt
held_under ws ρ bound n est work est' f (verdict v) e u =
    let q = under-verdict ws ρ bound n est work v est' e u in
    held_after ws ρ bound est work est' f (verdict v) q.0 q.1

-- ---- an answer's text

-- a verdict's: its line and then those of the handlers
verdict-text : (ws : List ℕ) (ρ : ℕ) (v : Verdict)
    → first_line (verdict v) ++ handler_lines (code ws) ρ (estimate (code ws) ρ) 0 (code ws).blocks ≡ answer_text ρ ws (verdict v)
unfolding first_line answer_text
verdict-text ws ρ v =
    ap (λ (l : List ℕ). verdict_line v ++ l)
    (sym (whole_is (estimate (code ws) ρ) (λ est. handler_lines (code ws) ρ est 0 (code ws).blocks)))

pub told-verdict : (ws : List ℕ) (ρ : ℕ) (a : Answer) (v : Verdict) → a ≡ verdict v
    → first_line a ++ handler_lines (code ws) ρ (estimate (code ws) ρ) 0 (code ws).blocks ≡ answer_text ρ ws a
told-verdict ws ρ a v e =
    subst (λ (b : Answer). first_line b ++ handler_lines (code ws) ρ (estimate (code ws) ρ) 0 (code ws).blocks ≡ answer_text ρ ws b) (sym e)
    (verdict-text ws ρ v)

-- ---- an input's text

pub system_exact : (ws : List ℕ) (ρ bound : ℕ) → length ws ≤ 256 → answer_text ρ ws (unless_wide ws (refused 1 0) (answer ws ρ bound 5888 1024)) ≡ system_text ρ bound ws
unfolding system_text
system_exact ws ρ bound h = ap (λ (a : Answer). answer_text ρ ws (unless_wide ws (refused 1 0) a)) (answer-exact ws ρ bound h)

module _ (input : List ℕ) where
  pub printed-system : first_of (feeder_tests (length input)) ≡ 0
      → system_text (get_or (words_of input) 0 0) (get_or (words_of input) 1 0) (drop 2 (words_of input)) ≡ printed input
  unfolding printed
  printed-system e = sym (rw (e, printed))

first-none : (a b d : Bool) → first_of ((a, 31) ∷ (b, 30) ∷ (d, 30) ∷ []) ≡ 0 → (a ≡ false) × (b ≡ false)
unfolding first_of
first-none true b d h = absurd (omega arith)
first-none false true d h = absurd (omega arith)
first-none false false d h = (refl, refl)

-- the bytes of an input that the feeder's tests pass
pub fed : (size : ℕ) → first_of (feeder_tests size) ≡ 0 → (size ≤ 1032) × (8 ≤ size)
unfolding feeder_tests
fed size h = let t = first-none _ _ _ h in (ltb-false 1032 size t.0, ltb-false size 8 t.1)

-- what is no refusal is a verdict
pub verdict_of : (v : comparisons.Verdict) → (u : Verdict) × (answer_of (Ok v) ≡ verdict u)
unfolding answer_of
verdict_of (Within r) = (_, refl)
verdict_of (Over r first) = (_, refl)
