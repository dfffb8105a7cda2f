-- `listing::read::read` meets its contract. Assumes nothing.
use mathlib.Core.Path.{refl, sym, ap, ◌∙◌}
use native.Mathlib.Omega.{arith}
use lib.ListN.{length}
use Rattle.std.specs.Prelude.{Err}
use Rattle.std.proofs.lemmas.Result.{err_from_is_err_and}
use Rattle.listing.specs.Keywords.{style_letter, entries, packed, packed_all, letters}
use Rattle.listing.specs.Listing.{Answered, left, words_of, indents}
use Rattle.listing.specs.Answer.{number, place, answered}
use Rattle.listing.proofs.Answers.{read-long, read-spelt, spelt-line}
use Rattle.listing.proofs.read.read.Goals as goal

pub returns-then-text-gt65536 : goal.returns-then-text-gt65536
unfolding answered left number place
returns-then-text-gt65536 c =
    let e = read-long c.args.text.now (length c.args.out.now) c.if-text-gt65536.true in
    record {
      answer = sym e;
      words = sym (ap (λ (a : Answered). left a (words_of c.args.text.now) c.args.out.now) e);
    }

pub decode-requires : goal.decode-requires
unfolding letters entries packed_all packed style_letter
decode-requires c =
    (refl, omega arith, omega arith)

pub returns-in_err-lines : goal.returns-in_err-lines
unfolding answered left number place
returns-in_err-lines c =
    let text = c.args.text.now in
    let p = err_from_is_err_and c.from_residual.result c.from_residual.ensures.1 in
    let known = c.in_err-lines.ensures in
    let e = read-spelt text (length c.args.out.now) c.if-text-gt65536.false ∙ spelt-line (words_of text) (indents text) _ _ known.2 (λ z. omega (arith, known.3)) in
    record {
      answer = ap answered (p.1 ∙ ap Err (p.2 ∙ known.1)) ∙ sym e;
      words = sym (ap (λ (a : Answered). left a (words_of text) c.args.out.now) e);
    }

pub finish-requires : goal.finish-requires
unfolding letters entries packed_all packed style_letter
finish-requires c =
    let d = c.decode in
    record {
      letters_value = (refl, omega (arith, d.auto.words), omega (arith, d.auto.spaces));
      taken = c.in_ok-lines.ensures;
    }

pub returns : goal.returns
returns c =
    let text = c.args.text.now in
    let e = read-spelt text (length c.args.out.now) c.if-text-gt65536.false in
    let f = c.finish.ensures in
    let a = f.result_value ∙ sym e in
    record {
      answer = a;
      words = f.out_after ∙ ap (λ (q : Answered). left q (words_of text) c.args.out.now) a;
    }
