use mathlib.Core.Path.{sym, ap, ◌∙◌}
use mathlib.Core.Bool.{false}
use mathlib.Core.List.{List}
use Prim.Native.Nat.{ℕ}
use native.Mathlib.Omega.{arith}
use Rattle.std.specs.Prelude.{Some}
use lib.ListN.{drop}
use Rattle.json_text.specs.Bytes.{starts}
use Rattle.json_text.specs.Values.{value, item}
use Rattle.manifest.specs.Members.{counted}
use Rattle.manifest.specs.Answer.{count_of}
use Rattle.manifest.proofs.Lists.{counted-cons, counted_none, counted-bad}
use Rattle.manifest.proofs.members.elements.Goals as goal

pub returns-in_err-sum-clause-counts : goal.returns-in_err-sum-clause-counts
returns-in_err-sum-clause-counts c =
    let a = c.args in
    ap count_of c.from_residual.ensures
    ∙ sym (c.loop-sum.invariant.0 ∙ counted-bad a.names a.hosts (item (value 14) false) (drop c.loop-sum.place a.text.now) _ (sym c.in_err-sum.ensures.counts))

pub returns-in_default-clause-counts : goal.returns-in_default-clause-counts
returns-in_default-clause-counts c =
    let a = c.args in
    sym
    (c.loop-sum.invariant.0
    ∙ ap (λ (l : List (List ℕ)). counted a.names a.hosts l (count_of (Some c.loop-sum.sum))) c.in_default.ensures
    ∙ counted-cons a.names a.hosts (drop c.loop-sum.place a.text.now) _ (count_of (Some c.loop-sum.sum)) ∙ counted_none a.names a.hosts _ ∙ sym c.in_ok-sum.ensures.counts)

pub loop-sum-preserved : goal.loop-sum-preserved
loop-sum-preserved c =
    let a = c.args in (
      c.loop-sum.invariant.0
          ∙ ap (λ (l : List (List ℕ)). counted a.names a.hosts l (count_of (Some c.loop-sum.sum))) c.in-Some.ensures.0
          ∙ counted-cons a.names a.hosts (drop c.loop-sum.place a.text.now) _ (count_of (Some c.loop-sum.sum))
          ∙ ap (counted a.names a.hosts (starts (item (value 14) false) (drop c.in-Some.next a.text.now))) (sym c.in_ok-sum.ensures.counts),
      omega (arith, c.loop-sum.invariant.1, c.in_ok-sum.ensures.few, c.in-Some.ensures.1),
    )
