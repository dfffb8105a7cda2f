-- The lines that the program prints (document 01, "Parts and program"). Each ends in one line feed.
use Rattle.std.specs.Prelude.{ℕ, Bool, true, false, List, ◌++◌}
use Rattle.calculus.specs.Answer.{Verdict}
use Rattle.text.specs.Text.{bytes, decimal, set, choice}

unfoldable pub refusal_line : (number place : ℕ) → List ℕ
refusal_line number place = (bytes "refused " ++ decimal number) ++ (bytes " at " ++ decimal place) ++ bytes "\n"

-- the lowest permission outside the bound, where there is one
unfoldable pub first_outside : Bool → ℕ → List ℕ
first_outside true first = decimal first
first_outside false first = bytes "-"

-- leak, bound used, over or within, lowest permission outside, facts
unfoldable pub verdict_line : Verdict → List ℕ
unfolding first_outside
verdict_line v =
    (bytes "leak " ++ set v.leak)
    ++ (bytes " bound " ++ set v.bound)
    ++ (bytes " verdict " ++ choice v.over (bytes "over") (bytes "within"))
    ++ (bytes " first " ++ first_outside v.over v.first)
    ++ (bytes " facts " ++ decimal v.facts)
    ++ bytes "\n"

-- position, name, whether the guard is within ρ, the live flag, P(b)
unfoldable pub handler_line : (position name : ℕ) (entry live : Bool) (permissions : ℕ) → List ℕ
handler_line position name entry live permissions =
    (bytes "handler " ++ decimal position)
    ++ (bytes " name " ++ decimal name)
    ++ (bytes " entry " ++ choice entry (bytes "yes") (bytes "no"))
    ++ (bytes " live " ++ choice live (bytes "yes") (bytes "no"))
    ++ (bytes " set " ++ set permissions)
    ++ bytes "\n"
