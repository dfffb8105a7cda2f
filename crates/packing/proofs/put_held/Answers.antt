-- `packing::put_held` meets its contract. Assumes nothing.
use mathlib.Core.Path.{◌≡◌, sym, ap, ◌∙◌, subst}
use mathlib.Core.Bool.{false}
use native.Mathlib.Omega.{arith}
use lib.Seq.{length-take-le}
use Rattle.text.proofs.Writing.{reworded}
use Rattle.packing.specs.Held.{Held}
use Rattle.packing.specs.Packing.{holds, packed}
use Rattle.packing.proofs.Laws.{too_long, too_many, held, kept-none, kept-all, few-held}
use Rattle.packing.proofs.put_held.Goals as goal
use Rattle.packing.proofs.put_held.Goals.{in_default-via-in-Some+else-bytes-le-MOST, in_default-via-in_default}

pub slice_bounds-put_packed-end : goal.slice_bounds-put_packed-end
slice_bounds-put_packed-end c =
    sym (length-take-le c.in-Some.n c.args.words.now (omega (arith, c.requires.0, c.requires.2 c.in-Some.n c.in-Some.is)))

pub returns-in-Some : goal.returns-in-Some
returns-in-Some c = λ all h.
    let a = c.args in
    let here = subst (Held all a.words.now) c.in-Some.is h in
    let yes = held a.bytes all c.if-bytes-le-MOST.true (few-held all a.words.now c.in-Some.n c.requires.0 here) in
    (reworded (ap (packed a.rho) (here.1 ∙ sym (kept-all a.bytes all yes))) c.put_packed.ensures, sym yes)

pub returns-in_default : goal.returns-in_default
returns-in_default c = λ all h.
    let a = c.args in
    let no : holds a.bytes all ≡ false =
    elim c.in_default.branch [
      | in_default-via-in-Some+else-bytes-le-MOST w ↦ too_long a.bytes all w.if-bytes-le-MOST.false
      | in_default-via-in_default w ↦ too_many a.bytes all (subst (Held all a.words.now) w.in_default.is h)
    ] in
    (reworded (ap (packed a.rho) (sym (kept-none a.bytes all no))) c.put_packed-in_default.ensures, sym no)
