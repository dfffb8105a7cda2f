-- `commands::manifests::accepted_line` meets its contract. Assumes nothing.
use native.Mathlib.Omega.{arith}
use Rattle.text.proofs.Writing.{then, wrote-length}
use Rattle.commands.specs.Printed.{outcome_text}
use Rattle.commands.proofs.manifests.accepted_line.Goals as goal

pub set_field-b-requires : goal.set_field-b-requires
set_field-b-requires c = let w = c.number_field-a.ensures in omega (arith, w.upper_bound, wrote-length w.wrote)

pub number_field-c-requires : goal.number_field-c-requires
number_field-c-requires c =
    let v = c.number_field-a.ensures in
    let w = c.set_field-b.ensures in
    omega (arith, v.upper_bound, w.upper_bound, wrote-length v.wrote, wrote-length w.wrote)

pub put-requires : goal.put-requires
put-requires c =
    let u = c.number_field-a.ensures in
    let v = c.set_field-b.ensures in
    let w = c.number_field-c.ensures in
    omega (arith, u.upper_bound, v.upper_bound, w.upper_bound, wrote-length u.wrote, wrote-length v.wrote, wrote-length w.wrote)

pub returns : goal.returns
unfolding outcome_text
returns c = then (then (then c.number_field-a.ensures.wrote c.set_field-b.ensures.wrote) c.number_field-c.ensures.wrote) c.put.ensures
