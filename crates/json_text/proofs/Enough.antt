-- The number of bytes bounds every repetition of the grammar: more steps change nothing.
-- Assumes nothing.
use Prim.Native.Nat.{ℕ, ◌<◌}
use mathlib.Core.Path.{◌≡◌}
use mathlib.Core.Bool.{Bool}
use mathlib.Core.List.{List}
use lib.ListN.{length}
use Rattle.json_text.specs.Bytes.{after_by, starts_by, units_by, after, starts}
use Rattle.json_text.specs.Strings.{character, string, units}
use Rattle.json_text.specs.Values.{item, value}
use Rattle.json_text.proofs.Repetition.{after-enough, starts-enough, units-enough}
use Rattle.json_text.proofs.Shorter.{character-narrow, item-narrow, value_in}

module _ (n : ℕ) (bs : List ℕ) (more : length bs < n) where
  pub string-enough : after_by character n bs ≡ string bs
  string-enough = after-enough character character-narrow n bs more

  pub string-units-enough : units_by character n bs ≡ units bs
  string-units-enough = units-enough character character-narrow n bs more

  module _ (nest : ℕ) (keyed : Bool) where
    pub items-enough : after_by (item (value nest) keyed) n bs ≡ after (item (value nest) keyed) bs
    items-enough = after-enough (item (value nest) keyed) (item-narrow (value nest) (value_in nest) keyed) n bs more

    pub item-starts-enough : starts_by (item (value nest) keyed) n bs ≡ starts (item (value nest) keyed) bs
    item-starts-enough = starts-enough (item (value nest) keyed) (item-narrow (value nest) (value_in nest) keyed) n bs more
