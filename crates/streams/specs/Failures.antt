-- What an input has lost when reading it ends with an error.
use Rattle.std.specs.Prelude.{ℕ, ◌≤◌, List, length, take}
use Rattle.std.specs.Io.KnownBytes.{Consumes}
use Rattle.std.specs.declared.option.Option.{Option}

-- the known bytes lost some first ones
pub record Loses (before after : Option (List ℕ)) : Type 0 where
  pub bytes : List ℕ
  pub lost : Consumes before after bytes

-- the known bytes lost some first ones, and these stand at the front of the buffer
pub record LosesTo (before after : Option (List ℕ)) (buffer : List ℕ) : Type 0 where
  pub count : ℕ
  pub within : count ≤ length buffer
  pub lost : Consumes before after (take count buffer)
