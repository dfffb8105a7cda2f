-- `manifest::members::list` meets its contract.
-- Assumes nothing.
use mathlib.Core.Path.{sym, ap, ◌∙◌}
use mathlib.Core.Bool.{false}
use mathlib.Core.List.{List}
use Prim.Native.Nat.{ℕ}
use native.Mathlib.Omega.{arith}
use Rattle.std.specs.Prelude.{Option, Some}
use Rattle.json_text.specs.Values.{value, first, starts_from}
use Rattle.json_text.specs.Answers.{ended}
use Rattle.json_text.proofs.Choice.{is, is-not}
use Rattle.json_text.proofs.Places.{tail-drop}
use Rattle.manifest.specs.Members.{counted, listed}
use Rattle.manifest.specs.Answer.{count_of}
use Rattle.manifest.proofs.Lists.{counted_none, list-missing, no-array, array}
use Rattle.manifest.proofs.Tops.{starts_none, starts-at}
use Rattle.manifest.proofs.members.list.Goals as goal

pub returns-in_default : goal.returns-in_default
returns-in_default c =
    let a = c.args in
    record {
      counts = sym (ap (λ (x : Option ℕ). listed a.names a.hosts (ended a.text.now x) (count_of (Some a.tally))) c.in_default.is ∙ list-missing a.names a.hosts _);
      few = omega arith;
    }

pub returns-then-byte-ne91 : goal.returns-then-byte-ne91
returns-then-byte-ne91 c =
    let a = c.args in
    record {
      counts = sym (ap (λ (x : Option ℕ). listed a.names a.hosts (ended a.text.now x) (count_of (Some a.tally))) c.in-Some.is ∙ no-array a.names a.hosts _ _ (is-not c.byte.ensures c.if-byte-ne91.true));
      few = omega arith;
    }

pub returns-in_default-first : goal.returns-in_default-first
returns-in_default-first c =
    let a = c.args in record {
      counts = sym
          (ap (λ (x : Option ℕ). listed a.names a.hosts (ended a.text.now x) (count_of (Some a.tally))) c.in-Some.is
          ∙ array a.names a.hosts _ _ (is c.byte.ensures c.if-byte-ne91.false)
          ∙ ap (λ (l : List (List ℕ)). counted a.names a.hosts l (count_of (Some a.tally))) (ap (starts_from (value 14) false) (ap (first false) (tail-drop a.text.now c.in-Some.at) ∙ sym c.first.ensures) ∙ starts_none 14 false a.text.now _ c.in_default-first.is)
          ∙ counted_none a.names a.hosts _);
      few = omega arith;
    }

pub returns : goal.returns
returns c =
    let a = c.args in record {
      counts = sym
          (ap (λ (x : Option ℕ). listed a.names a.hosts (ended a.text.now x) (count_of (Some a.tally))) c.in-Some.is
          ∙ array a.names a.hosts _ _ (is c.byte.ensures c.if-byte-ne91.false)
          ∙ ap (λ (l : List (List ℕ)). counted a.names a.hosts l (count_of (Some a.tally))) (ap (starts_from (value 14) false) (ap (first false) (tail-drop a.text.now c.in-Some.at) ∙ sym c.first.ensures) ∙ starts-at 14 false a.text.now _ _ c.in-Some-first.is)
          ∙ sym c.elements.ensures.counts);
      few = c.elements.ensures.few;
    }
