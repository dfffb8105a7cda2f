use mathlib.Core.Path.{sym, ap, ◌∙◌}
use mathlib.Core.List.{[], ◌∷◌, ◌++◌}
use Prim.Native.Nat.{ℕ, ◌-◌, ◌/◌}
use native.Mathlib.Omega.{arith}
use Rattle.text.specs.Text.{numeral as Text·numeral}
use Rattle.text.proofs.Digits.{numeral-none, numeral-stop, numeral-more}
use Rattle.text.proofs.Writing.{wrote_nothing, wrote-byte, reworded, then}
use Rattle.text.proofs.+numeral.Goals as goal

pub returns-then-places-eq0 : goal.returns-then-places-eq0
returns-then-places-eq0 t c =
    let a = c.args in record {
      wrote = reworded
          (sym (ap (λ (p : ℕ). Text·numeral a.base a.optional p a.n) c.if-places-eq0.true ∙ numeral-none a.base a.optional a.n))
          (wrote_nothing _ _ (omega arith));
      upper_bound = omega arith;
    }

pub returns-then-left_out : goal.returns-then-left_out
returns-then-left_out t c =
    let a = c.args in record {
      wrote = reworded
          (sym (numeral-stop a.base a.optional a.places a.n (sym c.left_out.ensures ∙ c.if-left_out.true)))
          (wrote_nothing _ _ (omega arith));
      upper_bound = omega arith;
    }

pub returns : goal.returns
returns t c =
    let a = c.args in record {
      wrote = reworded
          (ap (λ (g : ℕ). Text·numeral a.base a.optional (a.places - 1) (a.n / a.base) ++ g ∷ []) c.glyph.ensures
          ∙ sym (numeral-more a.base a.optional a.places a.n (omega arith) (sym c.left_out.ensures ∙ c.if-left_out.false)))
          (then c.numeral-next.ensures.wrote (wrote-byte c.numeral-next.new.out c.numeral-next.result c.glyph.result (omega arith)));
      upper_bound = omega arith;
    }
