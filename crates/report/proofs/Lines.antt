-- Document 01's example lines, computed from the definitions.
use mathlib.Core.Bool.{true, false}
use mathlib.Core.Path.{◌≡◌, refl}
use mathlib.Core.List.{List, [], ◌∷◌}
use Prim.Native.Nat.{ℕ}
use Rattle.text.specs.Text.{bytes, decimal, set}
use Rattle.report.specs.Lines.{refusal_line, verdict_line, handler_line}

abbrev lines : List (List ℕ)
lines =
    verdict_line (record { leak = 2; bound = 0; over = true; first = 1; facts = 205 })
    ∷ verdict_line (record { leak = 0x80000a; bound = 0xffffff; over = false; first = 32; facts = 0 })
    ∷ handler_line 1 1 false true 2
    ∷ refusal_line 10 4
    ∷ []

pub lines-as-printed :
    lines
    ≡ bytes "leak 000002 bound 000000 verdict over first 1 facts 205\n"
    ∷ bytes "leak 80000a bound ffffff verdict within first - facts 0\n"
    ∷ bytes "handler 1 name 1 entry no live yes set 000002\n"
    ∷ bytes "refused 10 at 4\n"
    ∷ []
unfolding refusal_line verdict_line handler_line decimal set
lines-as-printed = refl
