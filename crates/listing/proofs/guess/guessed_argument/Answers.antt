-- `listing::guess::guessed_argument` meets its contract. Assumes nothing.
use mathlib.Core.Path.{sym, ap, ◌∙◌}
use lib.ListN.{drop}
use Rattle.listing.specs.declared.keywords.Style.{Style}
use Rattle.listing.specs.Spelling.{guessed_argument}
use Rattle.listing.proofs.Guessing.{argument-hex, argument-whole}
use Rattle.listing.proofs.guess.guessed_argument.Goals as goal

pub returns-in-Omitted-clause-value : goal.returns-in-Omitted-clause-value
unfolding guessed_argument
returns-in-Omitted-clause-value c =
    ap (λ (t : Style). guessed_argument t (drop c.args.at c.args.l.now)) (sym c.in-Omitted.is)

pub returns-in-Hex-clause-value : goal.returns-in-Hex-clause-value
returns-in-Hex-clause-value c =
    c.folded.ensures.0 ∙ argument-hex c.args.l.now c.args.at ∙ ap (λ (t : Style). guessed_argument t (drop c.args.at c.args.l.now)) (sym c.in-Hex.is)

pub returns-in-Whole-clause-value : goal.returns-in-Whole-clause-value
returns-in-Whole-clause-value c =
    c.folded-in-Whole.ensures.0 ∙ argument-whole c.args.l.now c.args.at ∙ ap (λ (t : Style). guessed_argument t (drop c.args.at c.args.l.now)) (sym c.in-Whole.is)

pub returns-in-Signed-clause-value : goal.returns-in-Signed-clause-value
returns-in-Signed-clause-value c =
    c.signed_argument.ensures.0 ∙ ap (λ (t : Style). guessed_argument t (drop c.args.at c.args.l.now)) (sym c.in-Signed.is)
