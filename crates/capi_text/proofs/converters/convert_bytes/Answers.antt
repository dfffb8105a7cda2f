-- `capi_text::converters::convert_bytes` meets its contract. Assumes nothing.
use mathlib.Core.Path.{sym, ap, ap₂, ◌∙◌}
use mathlib.Core.List.{List}
use Prim.Native.Nat.{ℕ, ◌+◌, ◌*◌, ◌^◌}
use native.Mathlib.Omega.{arith}
use lib.ListN.{length, take, replicate}
use Rattle.little_endian.specs.LittleEndian.{bytes_of, words_of}
use Rattle.listing.specs.Listing.{Answered, left}
use Rattle.widths.specs.Converters.{converted}
use Rattle.widths.specs.Answers.{converted_as}
use Rattle.widths.proofs.Theorems.{converted-written, written-few}
use Rattle.capi_text.specs.Interface.{answer_number}
use Rattle.capi_text.proofs.Converted.{odd-bytes, whole_words_lem, room-done, room-not, converted-small}
use Rattle.capi_text.proofs.converters.convert_bytes.Goals as goal

pub returns-then-system-ne0 : goal.returns-then-system-ne0
unfolding answer_number left
returns-then-system-ne0 c =
    let out = c.args.out.now in
    let e = odd-bytes c.args.wide c.args.system.now (length out) c.if-system-ne0.true in
    record {
      answer = c.refusal.ensures ∙ sym (ap answer_number e);
      out = sym (ap (λ (a : Answered). left a (bytes_of (converted c.args.wide (words_of c.args.system.now))) out) e);
    }

pub put_words-requires : goal.put_words-requires
unfolding converted_as
put_words-requires c =
    let j = c.convert_in in
    let e = sym j.ensures.answer ∙ ap converted_as c.in-Ok.is in
    let few = written-few c.args.wide (words_of c.args.system.now) (replicate 1024 0) _ e in
    (omega (arith, j.auto.out), few)

pub refusal-requires-in-Err : goal.refusal-requires-in-Err
unfolding converted_as
refusal-requires-in-Err c =
    let j = c.convert_in in
    let e = sym j.ensures.answer ∙ ap converted_as c.in-Err.is in
    omega (arith, c.fault_place.ensures, (converted-small c.args.wide (words_of c.args.system.now) (replicate 1024 0) _ _ e).1)

pub returns-in-Ok : goal.returns-in-Ok
unfolding converted_as
returns-in-Ok c =
    let ws = words_of c.args.system.now in
    let out = c.args.out.now in
    let j = c.convert_in in
    let e = sym j.ensures.answer ∙ ap converted_as c.in-Ok.is in
    let p = c.put_words.ensures in
    let a = room-done c.args.wide ws (length out) _ e ∙ sym (whole_words_lem c.args.wide c.args.system.now (length out) c.if-system-ne0.false) in
    let w = ap (take c.in-Ok.count) j.ensures.out ∙ converted-written c.args.wide ws (replicate 1024 0) _ e in record {
      answer = p.answer ∙ ap answer_number a;
      out = p.bytes ∙ ap₂ (λ (q : Answered) (l : List ℕ). left q (bytes_of l) out) a w;
    }

pub returns-in-Err : goal.returns-in-Err
unfolding converted_as answer_number left
returns-in-Err c =
    let ws = words_of c.args.system.now in
    let out = c.args.out.now in
    let j = c.convert_in in
    let e = sym j.ensures.answer ∙ ap converted_as c.in-Err.is in
    let a = room-not c.args.wide ws (length out) _ _ e ∙ sym (whole_words_lem c.args.wide c.args.system.now (length out) c.if-system-ne0.false) in
    record {
      answer = c.refusal-in-Err.ensures ∙ ap₂ (λ (n p : ℕ). 2 ^ 32 + n * 65536 + p) c.fault_number.ensures c.fault_place.ensures ∙ ap answer_number a;
      out = ap (λ (q : Answered). left q (bytes_of (converted c.args.wide ws)) out) a;
    }
