-- `listing::depth::push_left` meets its contract. Assumes nothing.
use Prim.Native.Nat.{ℕ, suc, ◌+◌}
use mathlib.Core.Path.{refl, sym, ap, ap₂, ◌∙◌}
use mathlib.Core.List.{List, ◌∷◌}
use native.Mathlib.Nat.{add-zero}
use native.Mathlib.Numerals.{add-one}
use native.Mathlib.Omega.{arith}
use lib.ListN.{length, replicate, length-replicate}
use Rattle.table.specs.Words.{argument, arity}
use Rattle.listing.proofs.Depths.{leaves-system, leaves-handler, leaves_none, leaves-parts}
use Rattle.listing.proofs.Pushed.{as-left}
use borrow.Author.Rules.{rules}
use Rattle.listing.proofs.depth.push_left.Goals as goal

pub push-requires : goal.push-requires
push-requires c =
    let e = leaves-system c.args.w c.args.d (sym c.kind_of.ensures ∙ c.in-1.is) in
    let size = ap length e in
    (omega (arith, size, length-replicate {A = ℕ} (argument c.args.w) 0, c.argument_of.ensures, c.requires.0), omega (arith, c.requires.1))

pub returns-in-1 : goal.returns-in-1
returns-in-1 c =
    let k = sym c.kind_of.ensures ∙ c.in-1.is in
    let e = ap (λ (n : ℕ). replicate n 0) c.argument_of.ensures ∙ leaves-system c.args.w c.args.d k in
    let all = as-left _ _ e (ap (λ (n : ℕ). c.push.result + n) (length-replicate _ 0) ∙ c.push.ensures.count_value) c.push.ensures.stack_after in record {
      d_value = all.0;
      stack_after = all.1;
    }

pub push-body-requires : goal.push-body-requires
push-body-requires c =
    let size = ap length (leaves-handler c.args.w c.args.d (sym c.kind_of.ensures ∙ c.in-2.is)) in
    (omega (arith, size, c.requires.0), omega (arith, c.requires.1))

pub push-requires-in-2 : goal.push-requires-in-2
push-requires-in-2 c =
    let size = ap length (leaves-handler c.args.w c.args.d (sym c.kind_of.ensures ∙ c.in-2.is)) in
    (omega (arith, size, c.requires.0, c.push-body.ensures.count_value), search rules)

pub returns-in-2 : goal.returns-in-2
returns-in-2 c =
    let e = leaves-handler c.args.w c.args.d (sym c.kind_of.ensures ∙ c.in-2.is) in
    let one = c.push-body.ensures in
    let two = c.push-in-2.ensures in
    let all = as-left _ _ e (omega (arith, one.count_value, two.count_value)) (two.stack_after ∙ ap (λ (l : List ℕ). 0 ∷ 0 ∷ l) one.stack_after) in record {
      d_value = all.0;
      stack_after = all.1;
    }

pub returns-in_default : goal.returns-in_default
returns-in_default c =
    let k = c.kind_of.ensures in
    let e = leaves_none c.args.w c.args.d (λ q. omega arith) (λ q. omega arith) (omega (arith, k)) in
    let all = as-left _ _ e (add-zero _) refl in record {
      d_value = all.0;
      stack_after = all.1;
    }

pub push-requires-in_default-2 : goal.push-requires-in_default-2
push-requires-in_default-2 c =
    let k = c.kind_of.ensures in
    let size = ap length (leaves-parts c.args.w c.args.d (omega (arith, k))) in
    (omega (arith, size, length-replicate {A = ℕ} (arity c.args.w) (suc c.args.d), c.arity_of.ensures, c.requires.0), omega (arith, c.requires.1))

pub returns-in_default-2 : goal.returns-in_default-2
returns-in_default-2 c =
    let k = c.kind_of.ensures in
    let e = leaves-parts c.args.w c.args.d (omega (arith, k)) in
    let same = ap₂ (λ (n d : ℕ). replicate n d) c.arity_of.ensures (add-one c.args.d) in
    let p = c.push-in_default-2 in
    let all = as-left _ _ (same ∙ e) (ap (λ (n : ℕ). p.result + n) (length-replicate _ _) ∙ p.ensures.count_value) p.ensures.stack_after in record {
      d_value = all.0;
      stack_after = all.1;
    }
