-- `class_report::judge::judge` meets its contract. Assumes nothing.
use Rattle.little_endian.proofs.First.{words_size, words-few}
use Prim.Native.Nat.{ℕ}
use mathlib.Core.Path.{refl, sym, ap, ◌∙◌}
use mathlib.Core.List.{List}
use native.Mathlib.Omega.{arith}
use lib.ListN.{replicate}
use Rattle.little_endian.proofs.Laws.{words-read}
use Rattle.class_report.specs.Report.{outcome_of, answer_on, outcome}
use Rattle.class_report.proofs.judge.judge.Goals as goal

pub slice_bounds-judge_words-end : goal.slice_bounds-judge_words-end
slice_bounds-judge_words-end c =
    let w = c.words_of-n in
    sym (words_size 256 c.args.bytes.now (replicate 256 0) w.new.words w.result refl w.ensures.count w.ensures.content)

pub judge_words-requires : goal.judge_words-requires
judge_words-requires c =
    let w = c.words_of-n in
    omega (
      arith,
      words_size 256 c.args.bytes.now (replicate 256 0) w.new.words w.result refl w.ensures.count w.ensures.content,
      words-few 256 c.args.bytes.now (replicate 256 0) w.new.words w.result refl w.ensures.count w.ensures.content,
    )

pub returns : goal.returns
unfolding outcome
returns c =
    let w = c.words_of-n in
    c.judge_words.ensures
    ∙ ap (λ (ws : List ℕ). outcome_of (answer_on ws c.args.rho))
    (words-read c.args.bytes.now (replicate 256 0) w.new.words w.result w.ensures.count w.ensures.content (omega (arith, c.requires)))
