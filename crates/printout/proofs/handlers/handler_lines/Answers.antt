use native.Mathlib.Omega.{arith}
use Rattle.printout.proofs.HandlerLaws.{listed_start, listed-few, listed-room, listed-step, listed-length, listed-end}
use Rattle.printout.proofs.handlers.handler_lines.Goals as goal

pub loop-p-init : goal.loop-p-init
loop-p-init c =
    listed_start c.args.words.now c.requires.0.readable c.args.rho c.args.est.now c.args.out.now c.args.start c.requires.0.names (omega (arith, c.requires.1))

pub handler_at-c-requires : goal.handler_at-c-requires
handler_at-c-requires c =
    let l = c.loop-p in
    let i = l.invariant in
    let w = c.args.words.now in record {
      printable = (c.requires.0, c.loop-p-test.true, listed-few w c.requires.0.readable c.args.rho c.args.est.now c.args.out.now c.args.start l.p l.out l.c.at l.c.position i c.loop-p-test.true);
      p_in_bounds = listed-room w c.requires.0.readable c.args.rho c.args.est.now c.args.out.now c.args.start l.p l.out l.c.at l.c.position i c.loop-p-test.true c.requires.1;
    }

pub loop-p-preserved : goal.loop-p-preserved
loop-p-preserved c =
    let l = c.loop-p in
    let t = c.loop-p-test.true in
    listed-step c.args.words.now c.requires.0.readable c.args.rho c.args.est.now c.args.out.now c.args.start l.p l.out l.c.at l.c.position l.invariant t _ _ _ c.handler_at-c.ensures

pub shape_of-out : goal.shape_of-out
shape_of-out c =
    let l = c.loop-p in
    listed-length c.args.words.now c.requires.0.readable c.args.rho c.args.est.now c.args.out.now c.args.start l.p l.out l.c.at l.c.position l.invariant

pub returns : goal.returns
returns c =
    let l = c.loop-p in
    listed-end c.args.words.now c.requires.0.readable c.args.rho c.args.est.now c.args.out.now c.args.start l.p l.out l.c.at l.c.position l.invariant (omega (arith, c.loop-p-test.false)) (omega arith)
