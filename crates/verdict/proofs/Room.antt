-- Slices with room for a system give one answer, whatever their length: so do arrays with room for the largest system of the C interface.
use Prim.Native.Nat.{ℕ, zero, suc, ◌+◌, ◌*◌, ◌/◌, ◌^◌, ◌≤◌, min}
use mathlib.Core.Path.{◌≡◌, refl, sym, ap, ap₂, ◌∙◌}
use mathlib.Core.Bool.{Bool, true, false, not, ◌&&◌}
use mathlib.Core.List.{List, [], ◌∷◌}
use native.Mathlib.Nat.{mul-le-mul}
use native.Mathlib.Omega.{arith}
use lib.Dec.{eqb, leb, ltb}
use lib.ListN.{length, get_or}
use borrow.Author.Tests.{lt-ltb, le-ltb, ltb-true, ltb-false}
use Rattle.permset.specs.Sets.{width}
use Rattle.table.specs.Words.{names_of}
use Rattle.table.specs.Scan.{first_of, accepted, refused as unreadable, reading}
use Rattle.table.specs.Code.{Code, code}
use Rattle.table.proofs.Widths.{names-most}
use Rattle.calculus.specs.Layout.{row_words, estimate_words}
use Rattle.calculus.specs.Estimate.{whole, estimate}
use Rattle.calculus.specs.Answer.{Answer, refused, verdict, standing_bound, work_words, caller_tests, judge, analysis, answer}

capped-test : (x m n : ℕ) → n ≤ m → ltb (min x m) n ≡ ltb x n
capped-test x m n h = go (ltb x n) refl
  where
    go : (b : Bool) → ltb x n ≡ b → ltb (min x m) n ≡ b
    go true e = lt-ltb (min x m) n (omega (arith, ltb-true x n e))
    go false e = le-ltb (min x m) n (omega (arith, ltb-false x n e))

module _ (c : Code) (ρ bound est work most_est most_work : ℕ) (room_est : estimate_words c ≤ most_est) (room_work : work_words c.size ≤ most_work) where
  tests-capped : caller_tests c ρ bound (min est most_est) (min work most_work) ≡ caller_tests c ρ bound est work
  unfolding caller_tests
  tests-capped =
      ap₂ (λ (s t : Bool). (leb (2 ^ width) ρ, 20) ∷ (leb (2 ^ width) bound && not (eqb bound standing_bound), 20) ∷ (s, 21) ∷ (t, 22) ∷ [])
      (capped-test est most_est (estimate_words c) room_est)
      (capped-test work most_work (work_words c.size) room_work)

  analysis-capped : analysis c ρ bound (min est most_est) (min work most_work) ≡ analysis c ρ bound est work
  unfolding analysis
  analysis-capped =
      ap (λ (ts : List (Bool × ℕ)). elim (first_of ts) as (λ (n : ℕ). Answer) [
        | zero ↦ whole (estimate c ρ) (λ ws. verdict (judge c ρ bound ws))
        | suc n ↦ refused (suc n) 0
      ]) tests-capped

pub answer-capped : (ws : List ℕ) (ρ bound est work most_est most_work : ℕ) → estimate_words (code ws) ≤ most_est → work_words (code ws).size ≤ most_work
    → answer ws ρ bound (min est most_est) (min work most_work) ≡ answer ws ρ bound est work
unfolding answer
answer-capped ws ρ bound est work most_est most_work room_est room_work =
    ap (λ (a : Answer). elim (reading ws) as (λ o. Answer) [ accepted ↦ a | unreadable n at ↦ refused n at ])
    (analysis-capped (code ws) ρ bound est work most_est most_work room_est room_work)

-- one slice of the two
pub estimate-capped : (ws : List ℕ) (ρ bound est work most : ℕ) → estimate_words (code ws) ≤ most
    → answer ws ρ bound (min est most) work ≡ answer ws ρ bound est work
estimate-capped ws ρ bound est work most room =
    let same : min work (work + work_words (code ws).size) ≡ work = omega arith in
    rw same at (answer-capped ws ρ bound est work most (work + work_words (code ws).size) room (omega arith))

pub work-capped : (ws : List ℕ) (ρ bound est work most : ℕ) → work_words (code ws).size ≤ most
    → answer ws ρ bound est (min work most) ≡ answer ws ρ bound est work
work-capped ws ρ bound est work most room =
    let same : min est (est + estimate_words (code ws)) ≡ est = omega arith in
    rw same at (answer-capped ws ρ bound est work (est + estimate_words (code ws)) most (omega arith) room)

-- slices with room answer as slices that are just long enough
pub answer-enough : (ws : List ℕ) (ρ bound est work : ℕ) → estimate_words (code ws) ≤ est → work_words (length ws) ≤ work
    → answer ws ρ bound est work ≡ answer ws ρ bound (estimate_words (code ws)) (work_words (length ws))
unfolding code
answer-enough ws ρ bound est work room_est room_work =
    let e : min est (estimate_words (code ws)) ≡ estimate_words (code ws) = omega arith in
    let w : min work (work_words (length ws)) ≡ work_words (length ws) = omega arith in
    sym (answer-capped ws ρ bound est work (estimate_words (code ws)) (work_words (length ws)) (omega arith) (omega arith))
    ∙ ap₂ (answer ws ρ bound) e w

-- ---- the words that an estimate needs

-- of a table of at most m words, a set of which takes at most r words
estimate-most : (ws : List ℕ) (m r : ℕ) → length ws ≤ m → (32 + names_of (get_or ws 0 0) + length ws + 31) / 32 ≤ r → estimate_words (code ws) ≤ 2 * m * r + m
unfolding estimate_words row_words code
estimate-most ws m r h row =
    let twice : 2 * length ws ≤ 2 * m = omega arith in
    let all : 2 * length ws * ((32 + names_of (get_or ws 0 0) + length ws + 31) / 32) ≤ 2 * m * r = mul-le-mul twice row in
    omega arith

-- 256 words, the most that 1,024 bytes hold
pub estimate-room : (ws : List ℕ) → length ws ≤ 256 → estimate_words (code ws) ≤ 5888
estimate-room ws h = estimate-most ws 256 11 h (omega (arith, names-most (get_or ws 0 0)))

pub work-room : (ws : List ℕ) → length ws ≤ 256 → work_words (code ws).size ≤ 1024
unfolding code
work-room ws h = omega arith

-- arrays for 256 words
pub answer-exact : (ws : List ℕ) (ρ bound : ℕ) → length ws ≤ 256
    → answer ws ρ bound 5888 1024 ≡ answer ws ρ bound (estimate_words (code ws)) (work_words (length ws))
answer-exact ws ρ bound h = answer-enough ws ρ bound 5888 1024 (estimate-room ws h) (omega arith)

-- arrays for every table
pub answer-largest : (ws : List ℕ) (ρ bound : ℕ) → length ws ≤ 1024
    → answer ws ρ bound 72704 4096 ≡ answer ws ρ bound (estimate_words (code ws)) (work_words (length ws))
answer-largest ws ρ bound h =
    answer-enough ws ρ bound 72704 4096 (estimate-most ws 1024 35 h (omega (arith, names-most (get_or ws 0 0)))) (omega arith)
