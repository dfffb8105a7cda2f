-- `listing::read::finish` meets its contract. Assumes nothing.
use Prim.Native.Nat.{ℕ}
use mathlib.Core.Path.{◌≡◌, refl, sym, ap, ap₂, ◌∙◌}
use mathlib.Core.Logic.{⊎_elim}
use mathlib.Core.List.{List}
use native.Mathlib.Omega.{arith}
use lib.ListN.{length}
use Rattle.listing.specs.Listing.{left, words_of, indents, tabled}
use Rattle.listing.specs.Answer.{number, place, answered}
use Rattle.listing.proofs.Cutting.{left-bad, all-fine, all_words, all-spaces, more-words, first_word}
use Rattle.listing.proofs.Answers.{spelt-line, spelt-table, table-refused}
use Rattle.listing.proofs.read.finish.Goals as goal

pub returns-in-Some : goal.returns-in-Some
unfolding answered left number place
returns-in-Some c =
    let a = c.args in
    let text = a.text.now in
    let m = c.in-Some.ensures in
    let e = left-bad text a.lines.count a.lines.end a.words.now a.spaces.now c.requires.taken.0 c.in-Some.wrong m.0 in
    record {
      result_value = sym (spelt-line (words_of text) (indents text) _ c.in-Some.wrong e m.1);
      out_after = refl;
    }

pub returns-then-lines-text : goal.returns-then-lines-text
unfolding answered left number place
returns-then-lines-text c =
    let a = c.args in
    let text = a.text.now in
    let t = c.requires.taken.0 in
    let more = c.if-lines-text.true in
    let many : a.lines.count ≡ 1024 = ⊎_elim (λ h. absurd (let o : ⊥ = omega arith in o)) (λ e. e) c.requires.taken.2 in
    let e = left-bad text a.lines.count a.lines.end a.words.now a.spaces.now t 0 (sym c.in_default.ensures) in
    let r = c.too_many.ensures (words_of text) (omega (arith, more-words text a.lines.count a.lines.end a.words.now a.spaces.now t more))
    (first_word text a.lines.count a.lines.end a.words.now a.spaces.now t more (omega arith)) in
    record {
      result_value = sym (spelt-table (words_of text) (indents text) _ e ∙ table-refused (words_of text) (indents text) _ _ _ r);
      out_after = refl;
    }

pub returns : goal.returns
returns c =
    let a = c.args in
    let text = a.text.now in
    let t = c.requires.taken.0 in
    let done = c.if-lines-text.false in
    let p = c.place in
    let ws = all_words text a.lines.count a.lines.end a.words.now a.spaces.now t done in
    let is = all-spaces text a.lines.count a.lines.end a.words.now a.spaces.now t done in
    let e = all-fine text a.lines.count a.lines.end a.words.now a.spaces.now t done in record {
      result_value = p.ensures.result_value ∙ ap₂ (λ (v i : List ℕ). tabled v i (length a.out.now)) ws is ∙ sym (spelt-table (words_of text) (indents text) _ e);
      out_after = p.ensures.out_after ∙ ap (λ (v : List ℕ). left (answered p.result) v a.out.now) ws;
    }
