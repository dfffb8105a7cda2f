-- The text of each command that stands after the others.
use mathlib.Core.Path.{◌≡◌}
use mathlib.Core.Bool.{true, false}
use mathlib.Core.List.{List}
use Prim.Native.Nat.{ℕ}
use Rattle.text.specs.Text.{bytes}
use Rattle.commands.specs.Arguments.{value_of}
use Rattle.commands.specs.Meanings.{help}
use Rattle.commands.specs.Printed.{packed_for, convert_text, other_text, same}

module _ (command first input : List ℕ) where
  pub other-pack : same command (bytes "pack") ≡ true → packed_for (value_of 16 first) input ≡ other_text command first input
  unfolding other_text
  other-pack e = rw (other_text, e)

  module _ (p : same command (bytes "pack") ≡ false) where
    pub other-widen : same command (bytes "widen") ≡ true → convert_text true input ≡ other_text command first input
    unfolding other_text
    other-widen e = rw (other_text, p, e)

    module _ (w : same command (bytes "widen") ≡ false) where
      pub other-narrow : same command (bytes "narrow") ≡ true → convert_text false input ≡ other_text command first input
      unfolding other_text
      other-narrow e = rw (other_text, p, w, e)

      pub other_none : same command (bytes "narrow") ≡ false → help ≡ other_text command first input
      unfolding other_text
      other_none e = rw (other_text, p, w, e)
