-- The units of strings, compared.
use Rattle.std.specs.Prelude.{ℕ, ◌+◌, ◌*◌, ◌%◌, ◌^◌, Bool, true, false, ◌&&◌, ◌||◌, List, [], ◌∷◌, eqb, drop, Option, None, Some}
use Rattle.json_text.specs.Strings.{units}
use Rattle.json_text.specs.declared.units.Next.{Next}
use Rattle.json_text.specs.declared.units.Cursor.{Cursor}

-- a word at the start of some units; as the whole of them, or with others behind it
unfoldable pub matches : (whole : Bool) → List ℕ → List ℕ → Bool
matches whole [] [] = true
matches true [] (u ∷ us) = false
matches false [] (u ∷ us) = true
matches whole (a ∷ word) [] = false
matches whole (a ∷ word) (u ∷ us) = eqb u a && matches whole word us

-- a word anywhere among some units
unfoldable pub contains : List ℕ → List ℕ → Bool
unfolding matches
contains word [] = matches false word []
contains word (u ∷ us) = matches false word (u ∷ us) || contains word us

-- a number below 2^18 for some units: the same for the same ones
unfoldable pub spread : ℕ → List ℕ → ℕ
spread n [] = n
spread n (u ∷ us) = spread ((n * 31337 + u % 2 ^ 16) % 2 ^ 18) us

-- the units from a place on, behind the second unit of a pair that is held back
abbrev pub held : Option ℕ → List ℕ → List ℕ
held None bs = units bs
held (Some low) bs = low ∷ units bs

abbrev pub left : List ℕ → Cursor → List ℕ
left text c = held c.held (drop c.at text)

abbrev pub uncons : List ℕ → Option Next → List ℕ
uncons text None = []
uncons text (Some n) = n.unit ∷ left text n.behind
