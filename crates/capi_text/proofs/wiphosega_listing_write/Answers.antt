-- `capi_text::wiphosega_listing_write` meets its contract. Assumes nothing.
use Prim.Native.Nat.{ℕ, ◌+◌, ◌*◌, ◌^◌}
use mathlib.Core.Path.{refl, sym, ap, ap₂, ◌∙◌}
use native.Mathlib.Omega.{arith}
use lib.ListN.{length, take}
use lib.ListN.{replicate}
use Rattle.little_endian.specs.LittleEndian.{words_of}
use Rattle.little_endian.proofs.First.{words_size, words-few}
use Rattle.listing.specs.Listing.{Answered, left, listing}
use Rattle.listing.specs.Answer.{answered}
use Rattle.listing.proofs.Places.{write-within}
use Rattle.capi_text.specs.Interface.{answer_number}
use Rattle.capi_text.proofs.Bytes.{refused-within, write-odd, write-answer, write-left}
use Rattle.capi_text.proofs.wiphosega_listing_write.Goals as goal

pub returns-then-system-ne0 : goal.returns-then-system-ne0
unfolding answer_number left
returns-then-system-ne0 c =
    let e = write-odd c.args.system.now (length c.args.text.now) c.if-system-ne0.true in
    record {
      answer = c.refusal.ensures ∙ sym (ap answer_number e);
      text = sym (ap (λ (a : Answered). left a (listing (words_of c.args.system.now)) c.args.text.now) e);
    }

pub slice_bounds-write-end : goal.slice_bounds-write-end
slice_bounds-write-end c =
    let o = c.words_of-n in
    sym (words_size 1025 c.args.system.now (replicate 1025 0) o.new.words o.result refl o.ensures.count o.ensures.content)

pub refusal-requires-in-Err : goal.refusal-requires-in-Err
refusal-requires-in-Err c =
    let system = c.args.system.now in
    let o = c.words_of-n in
    let w = c.write.ensures in
    let vs = o.new.words in
    let few = words-few 1025 system (replicate 1025 0) vs o.result refl o.ensures.count o.ensures.content in
    let size = words_size 1025 system (replicate 1025 0) vs o.result refl o.ensures.count o.ensures.content in
    let h = refused-within _ _ _ (length (take o.result vs)) c.in-Err.is w.answer (write-within (take o.result vs) (length c.args.text.now)) in
    omega (arith, c.refusal_place.ensures, h, few, size)

pub returns-in-Ok : goal.returns-in-Ok
unfolding answered answer_number
returns-in-Ok c =
    let system = c.args.system.now in
    let o = c.words_of-n in
    let w = c.write.ensures in
    let vs = o.new.words in
    let a = sym (ap answered c.in-Ok.is) ∙ w.answer ∙ write-answer system (replicate 1025 0) vs o.result refl o.ensures.count o.ensures.content (length c.args.text.now) c.args.text.now c.if-system-ne0.false in
    record {
      answer = ap answer_number a;
      text = w.text ∙ write-left system (replicate 1025 0) vs o.result refl o.ensures.count o.ensures.content (length c.args.text.now) c.args.text.now c.if-system-ne0.false;
    }

pub returns-in-Err : goal.returns-in-Err
unfolding answered answer_number
returns-in-Err c =
    let system = c.args.system.now in
    let o = c.words_of-n in
    let w = c.write.ensures in
    let vs = o.new.words in
    let a = sym (ap answered c.in-Err.is) ∙ w.answer ∙ write-answer system (replicate 1025 0) vs o.result refl o.ensures.count o.ensures.content (length c.args.text.now) c.args.text.now c.if-system-ne0.false in
    record {
      answer = c.refusal-in-Err.ensures ∙ ap₂ (λ (n p : ℕ). 2 ^ 32 + n * 65536 + p) c.refusal_number.ensures c.refusal_place.ensures ∙ ap answer_number a;
      text = w.text ∙ write-left system (replicate 1025 0) vs o.result refl o.ensures.count o.ensures.content (length c.args.text.now) c.args.text.now c.if-system-ne0.false;
    }
