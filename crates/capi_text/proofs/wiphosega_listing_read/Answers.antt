-- `capi_text::wiphosega_listing_read` meets its contract. Assumes nothing.
use Prim.Native.Nat.{ℕ, ◌+◌, ◌*◌, ◌^◌}
use mathlib.Core.Path.{sym, ap, ◌∙◌}
use mathlib.Core.List.{List}
use native.Mathlib.Omega.{arith}
use lib.ListN.{length}
use mathlib.Core.Path.{ap₂}
use Rattle.little_endian.specs.LittleEndian.{bytes_of}
use Rattle.listing.specs.Listing.{Answered, left}
use Rattle.listing.specs.Listing.{words_of as Listing·words_of}
use Rattle.listing.specs.Answer.{answered}
use Rattle.listing.proofs.Places.{read-within, read-few, read-words}
use Rattle.capi_text.specs.Interface.{answer_number}
use Rattle.capi_text.proofs.Bytes.{refused-within, read_done, read-refused}
use Rattle.capi_text.proofs.wiphosega_listing_read.Goals as goal

pub put_words-requires : goal.put_words-requires
unfolding answered
put_words-requires c =
    let r = c.read in
    let e = sym r.ensures.answer ∙ ap answered c.in-Ok.is in
    (omega (arith, read-few c.args.text.now _ e, r.auto.out), read-few c.args.text.now _ e)

pub refusal-requires : goal.refusal-requires
refusal-requires c =
    let r = c.read in
    omega (arith, c.refusal_place.ensures, refused-within _ _ _ 65536 c.in-Err.is r.ensures.answer (read-within c.args.text.now 1024))

pub returns-in-Ok : goal.returns-in-Ok
unfolding answered
returns-in-Ok c =
    let text = c.args.text.now in
    let r = c.read in
    let e = sym r.ensures.answer ∙ ap answered c.in-Ok.is in
    let p = c.put_words.ensures in
    let a = read_done text _ (length c.args.system.now) e in
    let ws = read-words text r.new.out _ _ e r.ensures.words in record {
      answer = p.answer ∙ ap answer_number a;
      system = p.bytes ∙ ap₂ (λ (q : Answered) (l : List ℕ). left q (bytes_of l) c.args.system.now) a ws;
    }

pub returns-in-Err : goal.returns-in-Err
unfolding answered answer_number left
returns-in-Err c =
    let text = c.args.text.now in
    let r = c.read in
    let e = sym r.ensures.answer ∙ ap answered c.in-Err.is in
    let a = read-refused text _ _ (length c.args.system.now) e in
    record {
      answer = c.refusal.ensures ∙ ap₂ (λ (n p : ℕ). 2 ^ 32 + n * 65536 + p) c.refusal_number.ensures c.refusal_place.ensures ∙ ap answer_number a;
      system = ap (λ (q : Answered). left q (bytes_of (Listing·words_of text)) c.args.system.now) a;
    }
