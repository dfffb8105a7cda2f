-- `overlay::join::join` meets its contract.
-- Assumes nothing.
use mathlib.Core.Path.{◌≡◌, sym, ap, ap₂, ◌∙◌}
use mathlib.Core.List.{List, ◌++◌, map}
use mathlib.Core.Bool.{true, false}
use Prim.Native.Nat.{ℕ, ◌+◌}
use native.Mathlib.Nat.{zero-add}
use native.Mathlib.Omega.{arith}
use lib.ListN.{length, take, drop, set, replicate, length-set, length-replicate}
use lib.Seq.{take-length, length-take-le}
use borrow.Author.Rules.{rules}
use Rattle.blocks.specs.Blocks.{blocks}
use Rattle.table.specs.Scan.{accepted}
use Rattle.std.specs.Prelude.{Err}
use Rattle.overlay.specs.declared.join.Put.{Put}
use Rattle.overlay.specs.Parts.{given, PutTo}
use Rattle.overlay.specs.Lookup.{tables_read}
use Rattle.overlay.specs.Join.{joined}
use Rattle.overlay.specs.Answers.{fault_number, fault_place, joined_as, checked_as}
use Rattle.overlay.proofs.Refusals.{tables-accepted, checked-accepted}
use Rattle.overlay.proofs.Appended.{appended-as}
use Rattle.overlay.proofs.Joins.{join-refused, out-refused, Ready, ready, too-many-handlers, too-many-words, short-output, all-written}
use Rattle.overlay.proofs.join.join.Goals as goal

zeros : length (replicate {A = ℕ} 1024 0) ≡ 1024
zeros = length-replicate {A = ℕ} 1024 0

-- what was written to the buffer
written : (base overlay : List ℕ) {first second : Put} {z z' : List ℕ} → tables_read base overlay ≡ accepted
    → length z ≡ length (replicate {A = ℕ} 1024 0) → PutTo 1 (map (given false (blocks overlay)) (blocks base)) (replicate 1024 0) z first
    → PutTo first.end (map (given true (blocks base)) (blocks overlay)) z z' second
    → Ready base overlay (replicate 1024 0) z' (first.count + second.count) second.end
written base overlay e kept one two = let t = tables-accepted base overlay e in ready base overlay t.0 t.1 (omega (arith, zeros)) kept one two

pub returns-in_err-check : goal.returns-in_err-check
unfolding joined_as checked_as
returns-in_err-check c =
    let e = sym c.check.ensures ∙ ap checked_as c.in_err-check.was in
    let passed : c.from_residual.result ≡ Err c.in_err-check.field-0.0 = search rules in
    let out = c.args.out.now in
    record {
      answer = ap joined_as passed ∙ sym (join-refused _ _ out _ _ e);
      out = sym (out-refused _ _ out _ _ e);
    }

pub put_blocks-first-requires : goal.put_blocks-first-requires
put_blocks-first-requires c = let t = tables-accepted _ _ (checked-accepted _ _ c.check.ensures c.in_ok-check.was) in (omega arith, t.0, t.1)

pub put_blocks-second-requires : goal.put_blocks-second-requires
put_blocks-second-requires c =
    let t = tables-accepted _ _ (checked-accepted _ _ c.check.ensures c.in_ok-check.was) in
    let n = c.put_blocks-first.ensures.near in
    let b = t.0 in
    let o = t.1 in
    (omega arith, cc, cc)

pub overflow_add-count : goal.overflow_add-count
overflow_add-count c =
    let m = c.put_blocks-first.ensures.few in
    let n = c.put_blocks-second.ensures.few in
    omega arith

pub returns-then-count-gt32 : goal.returns-then-count-gt32
unfolding joined_as fault_number fault_place
returns-then-count-gt32 c =
    let a = c.args in
    let t = checked-accepted _ _ c.check.ensures c.in_ok-check.was in
    let r = written a.base.now a.overlay.now t c.put_blocks-first.auto.out c.put_blocks-first.ensures c.put_blocks-second.ensures in
    let q = too-many-handlers _ _ r a.out.now t (search rules) in
    record {
      answer = q.0;
      out = q.1;
    }

pub returns-then-end-gt1024 : goal.returns-then-end-gt1024
unfolding joined_as fault_number fault_place
returns-then-end-gt1024 c =
    let a = c.args in
    let t = checked-accepted _ _ c.check.ensures c.in_ok-check.was in
    let r = written a.base.now a.overlay.now t c.put_blocks-first.auto.out c.put_blocks-first.ensures c.put_blocks-second.ensures in
    let q = too-many-words _ _ r a.out.now t (search rules) (search rules) in
    record {
      answer = q.0;
      out = q.1;
    }

pub returns-then-out-end : goal.returns-then-out-end
unfolding joined_as fault_number fault_place
returns-then-out-end c =
    let a = c.args in
    let t = checked-accepted _ _ c.check.ensures c.in_ok-check.was in
    let r = written a.base.now a.overlay.now t c.put_blocks-first.auto.out c.put_blocks-first.ensures c.put_blocks-second.ensures in
    let q = short-output _ _ r a.out.now t (search rules) (search rules) (search rules) in
    record {
      answer = q.0;
      out = q.1;
    }

pub slice_bounds-append-end : goal.slice_bounds-append-end
slice_bounds-append-end c =
    let l : length c.put_blocks-second.new.out ≡ 1024 = c.put_blocks-second.auto.out ∙ c.put_blocks-first.auto.out ∙ zeros in
    let s = set c.put_blocks-second.new.out 0 (16777216 + (c.put_blocks-first.result.count + c.put_blocks-second.result.count)) in
    let m : length s ≡ 1024 = length-set _ _ _ ∙ l in
    sym (length-take-le c.put_blocks-second.result.end s (omega arith))

pub returns : goal.returns
unfolding joined_as
returns c =
    let a = c.args in
    let out = a.out.now in
    let ws = joined a.base.now a.overlay.now in
    let t = checked-accepted _ _ c.check.ensures c.in_ok-check.was in
    let r = written a.base.now a.overlay.now t c.put_blocks-first.auto.out c.put_blocks-first.ensures c.put_blocks-second.ensures in
    let q = all-written a.base.now a.overlay.now r out t (search rules) (search rules) (search rules) in
    let count = c.put_blocks-first.result.count + c.put_blocks-second.result.count in
    let end = c.put_blocks-second.result.end in
    let buffer = set c.put_blocks-second.new.out 0 (16777216 + count) in
    let same : ws ≡ take end buffer = sym (r.listed (omega (arith, zeros))) in
    let done = appended-as same c.append.ensures in
    record {
      answer = q.0;
      out = done.written (let k = done.ends in let e = r.ended in omega arith)
          ∙ ap₂ (λ (x : List ℕ) (i : ℕ). x ++ drop i out) (take-length ws) (zero-add (length ws))
          ∙ q.1;
    }
