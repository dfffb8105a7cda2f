-- `printout::handlers::block_line` meets its contract: the word at the flags' place has the permissions and the flag. Assumes nothing.
use mathlib.Core.Path.{sym, ◌∙◌}
use native.Mathlib.Omega.{arith}
use Rattle.table.specs.Code.{code}
use Rattle.calls.proofs.Bounds.{size_small, row_small, flags-base}
use Rattle.text.proofs.Writing.{reworded}
use Rattle.printout.proofs.HandlerLaws.{line-is, small, est-short, word-inside, permissions-read, flag-read}
use Rattle.printout.proofs.handlers.block_line.Goals as goal

pub flags-at-requires : goal.flags-at-requires
flags-at-requires c =
    let r = c.requires.0.readable in
    let n = small c.args.words.now c.args.est.now c.requires.0 in (
      size_small c.args.words.now r c.of.result c.of.ensures,
      row_small c.args.words.now r c.of.result c.of.ensures,
      omega (arith, c.requires.1),
    )

pub offset_bounds-est-at : goal.offset_bounds-est-at
offset_bounds-est-at c =
    let e = flags-base (code c.args.words.now) c.of.result c.of.ensures c.args.p ∙ sym c.flags-at.ensures in
    omega (arith, word-inside c.args.words.now c.args.est.now c.requires.0 c.args.p _ c.requires.1 e, est-short c.args.words.now c.args.est.now c.requires.0)

pub bounds-est-at : goal.bounds-est-at
bounds-est-at c =
    let e = flags-base (code c.args.words.now) c.of.result c.of.ensures c.args.p ∙ sym c.flags-at.ensures in
    word-inside c.args.words.now c.args.est.now c.requires.0 c.args.p _ c.requires.1 e

pub returns : goal.returns
returns c =
    let e = flags-base (code c.args.words.now) c.of.result c.of.ensures c.args.p ∙ sym c.flags-at.ensures in
    let live = flag-read c.args.words.now c.args.est.now c.requires.0 c.args.p _ c.requires.1 e in
    let held = permissions-read c.args.words.now c.args.est.now c.requires.0 c.args.p _ c.requires.1 e c.args.rho in
    let entry = c.within-entry.ensures in
    record {
      wrote = reworded (line-is c.args.c.position c.args.h.name entry (sym live) (sym held)) c.handler_line.ensures.wrote;
      upper_bound = c.handler_line.ensures.upper_bound;
    }
