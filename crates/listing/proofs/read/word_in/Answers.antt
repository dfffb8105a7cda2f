-- `listing::read::word_in` meets its contract. Assumes nothing.
use Rattle.listing.proofs.Cutting.{behind}
use Prim.Native.Nat.{ℕ}
use mathlib.Core.Path.{ap, ◌∙◌, subst}
use lib.ListN.{drop}
use Rattle.listing.specs.Spelling.{line_word}
use Rattle.listing.specs.Listing.{word_in, NoneAtZero}
use Rattle.listing.proofs.read.word_in.Goals as goal

pub returns : goal.returns
unfolding word_in
returns c =
    subst (λ (w : ℕ). NoneAtZero w c.line_word.result)
    (ap line_word (behind c.args.l.now c.args.spaces) ∙ ap (λ (n : ℕ). line_word (drop n c.args.l.now)) c.requires.1) c.line_word.ensures
