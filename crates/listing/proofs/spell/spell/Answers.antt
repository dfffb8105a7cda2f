-- `listing::spell::spell` meets its contract. Assumes nothing.
use Prim.Native.Nat.{ℕ}
use mathlib.Core.Path.{ap, ap₂}
use Rattle.listing.specs.declared.keywords.Style.{Style}
use native.Mathlib.Omega.{arith}
use Rattle.text.proofs.Writing.{then, line, reworded}
use Rattle.listing.specs.Keywords.{entry_of}
use Rattle.listing.specs.Spelling.{spelled, spelled_argument, line_of}
use Rattle.listing.proofs.spell.spell.Goals as goal

pub returns : goal.returns
unfolding spelled line_of
returns c =
    let argument = reworded (ap (λ (s : Style). spelled_argument s c.argument_of.result) c.style_at.ensures) c.argument_field-b.ensures.wrote in
    let all = then (then c.keyword_field-a.ensures.wrote argument) c.put.ensures in
    record {
      line = line (reworded (ap₂ (λ (n a : ℕ). line_of (entry_of n) a) c.kind_of-k.ensures c.argument_of.ensures) all);
      upper_bound = omega (arith, c.put.ensures.ends);
    }
