-- `audit::judge::swept` meets its contract. Without a stray bit the words are those of an estimate. Assumes nothing.
use mathlib.Core.Path.{◌∙◌}
use native.Mathlib.Omega.{arith}
use Rattle.table.specs.Code.{code}
use Rattle.stray.proofs.Clean.{stray-most}
use Rattle.audit.specs.Audited.{said}
use Rattle.audit.proofs.Exact.{well-formed}
use Rattle.audit.proofs.Steps.{bit-stray, none-stray}
use Rattle.audit.proofs.judge.swept.Goals as goal

pub returns-then-k-est : goal.returns-then-k-est
unfolding said
returns-then-k-est c =
    bit-stray (code c.args.words.now) c.args.rho.bits c.args.est.now _ c.first_stray-k.ensures c.if-k-est.true

pub with_links-requires : goal.with_links-requires
with_links-requires c =
    let a = c.args in (
      c.requires,
      well-formed (code a.words.now) a.est.now (λ k. omega (arith, c.type_inv.est k)) c.requires.long
          (omega (arith, c.first_stray-k.ensures, c.if-k-est.false, stray-most (code a.words.now) a.est.now)),
    )

pub returns : goal.returns
returns c =
    c.with_links.ensures ∙ none-stray (code c.args.words.now) c.args.rho.bits c.args.est.now _ c.first_stray-k.ensures c.if-k-est.false
