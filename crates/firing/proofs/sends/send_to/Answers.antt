-- `firing::sends::send_to` meets its contract. Assumes nothing.
use mathlib.Core.Path.{sym, ◌∙◌}
use native.Mathlib.Omega.{arith}
use Rattle.table.specs.Code.{code}
use Rattle.queries.proofs.Given.{sized}
use Rattle.firing.proofs.Deliver.{home-inside, block_inside, name-small, block-started, block-absent}
use Rattle.firing.proofs.sends.send_to.Goals as goal

pub starts-requires : goal.starts-requires
unfolding code
starts-requires c =
    let t = c.requires.0 in let y = t.ready in
    (block_inside t c.args.b c.requires.2, sized y c.requires.1, t.sending.word, omega (arith, name-small t c.args.b c.requires.2, y.laid.lead))

pub returns-then-not-starts : goal.returns-then-not-starts
returns-then-not-starts c =
    let t = c.requires.0 in
    record { words = sym (block-absent t c.args.b c.requires.2 c.args.est.now (sym (c.starts.ensures (code c.args.words.now) t.ready.laid) ∙ c.if-not-starts.true)); count = omega arith }

pub deliver-requires : goal.deliver-requires
deliver-requires c =
    let t = c.requires.0 in let y = t.ready in
    (sized y c.requires.1, omega (arith, t.sending.word), t.sending.message, omega (arith, block_inside t c.args.b c.requires.2, y.laid.size), y.masked.long, home-inside t)

pub returns : goal.returns
returns c =
    let d = c.deliver.ensures in let t = c.requires.0 in let y = t.ready in let k = code c.args.words.now in
    record {
      words = d.words k y.laid (c.requires.1, y.masked) ∙ block-started t c.args.b c.requires.2 c.args.est.now (sym (c.starts.ensures k y.laid) ∙ c.if-not-starts.false);
      count = d.count;
    }
