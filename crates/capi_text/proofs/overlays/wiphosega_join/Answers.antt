-- `capi_text::overlays::wiphosega_join` meets its contract. Assumes nothing.
use mathlib.Core.Path.{sym, ap, ap₂, subst, ◌∙◌}
use mathlib.Core.List.{List}
use Prim.Native.Nat.{ℕ, ◌+◌, ◌*◌, ◌^◌}
use native.Mathlib.Omega.{arith}
use lib.ListN.{length, replicate}
use Rattle.little_endian.specs.LittleEndian.{bytes_of, words_of}
use Rattle.listing.specs.Listing.{Answered, left}
use Rattle.overlay.specs.Join.{joined}
use Rattle.overlay.proofs.Theorems.{joined-few, joined_words}
use Rattle.overlay.specs.Answers.{joined_as}
use Rattle.capi_text.specs.Interface.{answer_number}
use Rattle.capi_text.specs.Overlay.{OddAs}
use Rattle.capi_text.proofs.TwoTables.{join-odd, join-odd-number, join-even, join-done, join-not, join-refused-small}
use Rattle.capi_text.proofs.overlays.wiphosega_join.Goals as goal

pub returns-in-Some : goal.returns-in-Some
unfolding left
returns-in-Some c =
    let base = c.args.base.now in
    let overlay = c.args.overlay.now in
    let out = c.args.out.now in
    let o = subst (OddAs base overlay) c.in-Some.is c.odd_number.ensures in record {
      answer = c.refusal.ensures ∙ join-odd-number base overlay _ o.0 o.1 (length out);
      out = sym (ap (λ (a : Answered). left a (bytes_of (joined (words_of base) (words_of overlay))) out) (join-odd base overlay (λ z. o.1 (o.0 ∙ z)) (length out)));
    }

pub put_words-requires : goal.put_words-requires
unfolding joined_as
put_words-requires c =
    let j = c.join_in in
    let e = sym j.ensures.answer ∙ ap joined_as c.in-Ok.is in
    let few = joined-few (words_of c.args.base.now) (words_of c.args.overlay.now) (replicate 1024 0) _ e in
    (omega (arith, j.auto.out), few)

pub refusal-requires-in-Err : goal.refusal-requires-in-Err
unfolding joined_as
refusal-requires-in-Err c =
    let j = c.join_in in
    let e = sym j.ensures.answer ∙ ap joined_as c.in-Err.is in
    let q = join-refused-small (words_of c.args.base.now) (words_of c.args.overlay.now) (replicate 1024 0) _ _ e in
    omega (arith, q.1, c.fault_place.ensures)

pub returns-in-Ok : goal.returns-in-Ok
unfolding joined_as
returns-in-Ok c =
    let out = c.args.out.now in
    let j = c.join_in in
    let e = sym j.ensures.answer ∙ ap joined_as c.in-Ok.is in
    let p = c.put_words.ensures in
    let a = join-done (words_of c.args.base.now) (words_of c.args.overlay.now) (length out) _ e ∙ sym (join-even c.args.base.now c.args.overlay.now (subst (OddAs c.args.base.now c.args.overlay.now) c.in_default.is c.odd_number.ensures) (length out)) in
    let ws = joined_words (words_of c.args.base.now) (words_of c.args.overlay.now) (replicate 1024 0) _ e j.new.out j.ensures.out in record {
      answer = p.answer ∙ ap answer_number a;
      out = p.bytes ∙ ap₂ (λ (q : Answered) (l : List ℕ). left q (bytes_of l) out) a ws;
    }

pub returns-in-Err : goal.returns-in-Err
unfolding joined_as answer_number left
returns-in-Err c =
    let out = c.args.out.now in
    let j = c.join_in in
    let e = sym j.ensures.answer ∙ ap joined_as c.in-Err.is in
    let a = join-not (words_of c.args.base.now) (words_of c.args.overlay.now) (length out) _ _ e ∙ sym (join-even c.args.base.now c.args.overlay.now (subst (OddAs c.args.base.now c.args.overlay.now) c.in_default.is c.odd_number.ensures) (length out)) in record {
      answer = c.refusal-in-Err.ensures ∙ ap₂ (λ (n p : ℕ). 2 ^ 32 + n * 65536 + p) c.fault_number.ensures c.fault_place.ensures ∙ ap answer_number a;
      out = ap (λ (q : Answered). left q (bytes_of (joined (words_of c.args.base.now) (words_of c.args.overlay.now))) out) a;
    }
