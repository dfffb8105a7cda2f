-- Where the ceiling is left out, a system's text is that of document 01's program: no estimate of 1,024 words has so many facts.
use Prim.Native.Nat.{ℕ, suc, ◌+◌, ◌*◌, ◌≤◌}
use mathlib.Core.Path.{◌≡◌, refl, ap}
use mathlib.Core.List.{List}
use native.Mathlib.Nat.{mul-le-mul}
use native.Mathlib.Omega.{arith}
use borrow.Author.Tests.{le-ltb}
use lib.ListN.{length, get_or}
use Rattle.permset.specs.Sets.{width}
use Rattle.table.specs.Scan.{names_at}
use Rattle.table.specs.Code.{code}
use Rattle.table.proofs.Widths.{names-most}
use Rattle.table.proofs.Linked.{linked}
use Rattle.calculus.specs.Layout.{estimate_words}
use Rattle.calculus.specs.Estimate.{estimate, facts, most_facts}
use Rattle.calculus.specs.Answer.{Answer, Verdict, refused, verdict, judge, work_words, answer}
use Rattle.calculus.proofs.Covers.{answer-judged}
use Rattle.calculus.proofs.Least.{estimate-well, facts-bound}
use Rattle.solver.specs.Ceiling.{under}
use Rattle.printout.specs.Program.{answer_text, unless_wide, system_text}
use Rattle.leaks.specs.Leak.{system_leak, unlimited}

most-small : (ws : List ℕ) → length ws ≤ 1024 → most_facts (code ws) ≤ unlimited
unfolding most_facts code
most-small ws h =
    let each : 2 * (32 + names_at ws + length ws) + suc width ≤ 2265 = omega (arith, names-most (get_or ws 0 0)) in
    let all : length ws * (2 * (32 + names_at ws + length ws) + suc width) ≤ 1024 * 2265 = mul-le-mul h each in
    omega arith

module _ (ws : List ℕ) (ρ bound est work : ℕ) (h : length ws ≤ 1024) where
  -- no verdict is refused
  unlimited-same : under unlimited (answer ws ρ bound est work) ≡ answer ws ρ bound est work
  unfolding under judge
  unlimited-same = by (answer ws ρ bound est work) refl
    where
      by : (a : Answer) → answer ws ρ bound est work ≡ a → under unlimited a ≡ a
      by (refused k at) e = refl
      by (verdict v) e =
          let q = answer-judged ws ρ bound est work v e in
          let n : facts (estimate (code ws) ρ) ≡ v.facts = ap (λ (w : Verdict). w.facts) q.1 in
          let b = facts-bound (code ws) (estimate (code ws) ρ) (estimate-well (code ws) (linked ws q.0) ρ) in
          rw (under, le-ltb unlimited v.facts (omega (arith, n, b, most-small ws h)))

pub without-ceiling : (ρ bound : ℕ) (ws : List ℕ) → length ws ≤ 1024 → system_leak ρ bound unlimited ws ≡ system_text ρ bound ws
unfolding system_leak system_text
without-ceiling ρ bound ws h = ap (λ (a : Answer). answer_text ρ ws (unless_wide ws (refused 1 0) a)) (unlimited-same ws ρ bound (estimate_words (code ws)) (work_words (length ws)) h)
