-- The table of sign results that an operation reads: that of sums, or that of less.
use Rattle.std.specs.Prelude.{ℕ, Bool, true, false, List}
use Rattle.calculus.specs.ResultWords.{sum_masks, less_masks}

unfoldable pub sign_table : Bool → List ℕ
sign_table true = sum_masks
sign_table false = less_masks
