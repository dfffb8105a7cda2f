use Prim.Native.Nat.{ℕ, ◌+◌, ◌-◌}
use mathlib.Core.Path.{◌≡◌, sym, ap, ◌∙◌}
use native.Mathlib.Omega.{arith}
use lib.ListN.{drop}
use Rattle.commands.specs.Meanings.{from_line}
use Rattle.commands.proofs.Meant.{from_next}
use Rattle.commands.proofs.lines.behind.Goals as goal

pub loop-init : goal.loop-init
loop-init c =
    let all : c.args.k - 0 ≡ c.args.k = omega arith in
    record { after = omega arith; inside = c.requires; rest = ap (λ (k : ℕ). from_line k (drop c.args.start c.args.text.now)) all }

pub loop-preserved : goal.loop-preserved
loop-preserved c =
    let l = c.loop in
    let text = c.args.text.now in
    let left = c.args.k - l.counter in
    let e = c.line_end-at.ensures in
    let less : c.args.k - (l.counter + 1) ≡ left - 1 = omega arith in
    record {
      after = omega (arith, e.0, l.invariant.after);
      inside = e.1;
      rest = ap (λ (k : ℕ). from_line k (drop c.line_end-at.result text)) less
          ∙ ap (λ (n : ℕ). from_line (left - 1) (drop n text)) e.0
          ∙ sym (from_next text l.at left (omega arith))
          ∙ l.invariant.rest;
    }

pub returns : goal.returns
unfolding from_line
returns c =
    let l = c.loop in
    let none : c.args.k - l.counter ≡ 0 = omega arith in
    record {
      rest = ap (λ (k : ℕ). from_line k (drop l.at c.args.text.now)) (sym none) ∙ l.invariant.rest;
      after = l.invariant.after;
      inside = l.invariant.inside;
    }
