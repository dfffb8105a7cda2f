-- `printout::handlers::handler_at` meets its contract. Assumes nothing.
use mathlib.Core.Path.{sym, ap, ◌∙◌}
use native.Mathlib.Omega.{arith}
use lib.ListN.{length}
use Rattle.printout.proofs.HandlerLaws.{here-gap, here-term, here-handler, stepped-none, stepped-block}
use Rattle.printout.proofs.handlers.handler_at.Goals as goal

pub block_line-at-requires : goal.block_line-at-requires
block_line-at-requires c =
    let i = sym c.item_at.ensures ∙ c.in-Block.is in
    let one = here-handler c.args.words.now c.requires.printable.0.readable c.args.p c.requires.printable.1 _ i in
    (c.requires.printable.0, c.requires.printable.1, omega (arith, c.requires.p_in_bounds, ap length one))

pub returns-in-Gap : goal.returns-in-Gap
returns-in-Gap c =
    let i = sym c.item_at.ensures ∙ c.in-Gap.is in
    stepped-none c.args.words.now c.requires.printable.0.readable c.args.p c.requires.printable.1 c.args.rho c.args.est.now c.args.out.now c.args.c.at c.args.c.position c.requires.p_in_bounds
    (here-gap c.args.words.now c.requires.printable.0.readable c.args.p c.requires.printable.1 i)

pub returns-in-Block : goal.returns-in-Block
returns-in-Block c =
    let i = sym c.item_at.ensures ∙ c.in-Block.is in
    let b = c.block_line-at.ensures in
    stepped-block c.args.words.now c.requires.printable.0.readable c.args.p c.requires.printable.1 _ i c.args.rho c.args.est.now c.args.out.now c.args.c.at c.args.c.position _ _ b.wrote b.upper_bound

pub returns-in-Term : goal.returns-in-Term
returns-in-Term c =
    let i = sym c.item_at.ensures ∙ c.in-Term.is in
    stepped-none c.args.words.now c.requires.printable.0.readable c.args.p c.requires.printable.1 c.args.rho c.args.est.now c.args.out.now c.args.c.at c.args.c.position c.requires.p_in_bounds
    (here-term c.args.words.now c.requires.printable.0.readable c.args.p c.requires.printable.1 _ i)
