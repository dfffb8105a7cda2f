-- What the answers of the reader say of a text: a place stands for the bytes from there on.
use Rattle.std.specs.Prelude.{ℕ, List, [], ◌∷◌, drop, Option, None, Some}
use Rattle.json_text.specs.Bytes.{Rest, nothing, rest, Step, fails, goes, ends}
use Rattle.json_text.specs.Strings.{Point, bad, point}
use Rattle.json_text.specs.Values.{Start, plain, opens}
use Rattle.json_text.specs.declared.Character.{Character}
use Rattle.json_text.specs.declared.Character.TheVariants as character
use Rattle.json_text.specs.declared.strings.Scalar.{Scalar}
use Rattle.json_text.specs.declared.values.Begun.{Begun}
use Rattle.json_text.specs.declared.values.Begun.TheVariants as begun
use Rattle.json_text.specs.declared.Item.{Item}
use Rattle.json_text.specs.declared.Item.TheVariants as item

-- where a production ends, if one starts
abbrev pub ended : List ℕ → Option ℕ → Rest
ended text None = nothing
ended text (Some p) = rest (drop p text)

abbrev pub placed : List ℕ → Option Scalar → Point
placed text None = bad
placed text (Some s) = point s.code (drop s.at text)

abbrev pub code_of : Option Scalar → ℕ
code_of None = 0
code_of (Some s) = s.code

abbrev pub read : List ℕ → Option Character → Step
read text None = fails
read text (Some (character.One u p)) = goes (u ∷ []) (drop p text)
read text (Some (character.Two u v p)) = goes (u ∷ v ∷ []) (drop p text)
read text (Some (character.Ends p)) = ends (drop p text)

abbrev pub started : List ℕ → Begun → Start
started text (begun.Plain e) = plain (ended text e)
started text (begun.Opens k p) = opens k (drop p text)

abbrev pub stepped : List ℕ → Option Item → Step
stepped text None = fails
stepped text (Some (item.Goes p)) = goes [] (drop p text)
stepped text (Some (item.Ends p)) = ends (drop p text)
