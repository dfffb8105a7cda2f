-- Masks: rows whose digits are the elements with a property.
use Rattle.std.specs.Prelude.{ℕ, ◌<◌, ◌≡◌, Bool, ◌&&◌, List, leb, length}
use Rattle.table.specs.Code.{Code}
use Rattle.calculus.specs.Elements.{plain, elements, Making, making}
use Rattle.calculus.specs.Layout.{bit, row_words, Words}

-- m is a row whose digits are the elements with the property q
pub record Mask (c : Code) (q : ℕ → Bool) (m : List ℕ) : Type 0 where
  pub long : length m ≡ row_words c
  pub words : Words m
  pub digits : (v : ℕ) → v < elements c → bit m v ≡ q v

-- the made elements of a sort
abbrev pub made_as : Code → (Making → Bool) → ℕ → Bool
made_as c q v = leb (plain c) v && q (making c v)
