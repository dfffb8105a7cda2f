use Prim.Native.Nat.{ℕ}
use mathlib.Core.Path.{◌≡◌, refl, sym, ap, ◌∙◌, subst}
use mathlib.Core.List.{List}
use Rattle.std.proofs.lemmas.List.{set-get_or}
use Rattle.text.specs.Writing.{Wrote}
use native.Mathlib.Omega.{arith}
use lib.ListN.{length, take}
use lib.Seq.{take_all}
use Rattle.text.proofs.Writing.{reworded, wrote_nothing}
use Rattle.listing.specs.Listing.{words_of}
use Rattle.listing.proofs.Zeros.{or_zero}
use Rattle.lines.proofs.Laws.{words-behind, word-written, words-end}
use Rattle.lines.proofs.line_words.Goals as goal

pub loop-n-init : goal.loop-n-init
loop-n-init c = record { inside = omega arith; left_over = refl; written = wrote_nothing _ 0 (omega arith) }

pub returns-then-text-at : goal.returns-then-text-at
returns-then-text-at c =
    let l = c.loop-n in
    let few = words-end c.args.text.now l.n l.at c.if-text-at.true l.invariant.left_over in
    reworded (take_all l.n (words_of c.args.text.now) few ∙ sym (take_all (length c.args.words.now) (words_of c.args.text.now) (omega (arith, few, l.invariant.written.fits))))
    (subst (λ (ws : List ℕ). Wrote c.args.words.now 0 (take l.n (words_of c.args.text.now)) ws l.n) (sym (set-get_or l.words l.n 0)) l.invariant.written)

pub loop-n-preserved : goal.loop-n-preserved
loop-n-preserved c =
    let l = c.loop-n in
    let e = c.line_end-end in
    let w = c.unwrap_or in
    let is = w.ensures ∙ or_zero _ c.word_of_line.result c.word_of_line.ensures in
    record {
      inside = e.ensures.1;
      left_over = words-behind c.args.text.now l.n l.at e.result (omega arith) e.ensures.0 l.invariant.left_over;
      written = word-written c.args.text.now l.n l.at e.result (omega arith) e.ensures.0 l.invariant.left_over w.result is (omega arith) l.invariant.written;
    }

pub returns : goal.returns
returns c =
    let l = c.loop-n in
    let words = c.args.words.now in
    let all : l.n ≡ length words = omega (arith, l.invariant.written.fits) in
    let end : l.n ≡ length l.words = omega (arith, l.invariant.written.fits) in
    reworded (ap (λ (k : ℕ). take k (words_of c.args.text.now)) all)
    (subst (λ (k : ℕ). Wrote words 0 (take l.n (words_of c.args.text.now)) l.words k) end l.invariant.written)
