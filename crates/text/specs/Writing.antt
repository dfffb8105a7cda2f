-- What it means that a text was written into a slice of bytes.
use Rattle.std.specs.Prelude.{ℕ, ◌+◌, ◌≤◌, ◌≡◌, List, ◌++◌, length, take, drop}

-- the text stands from the place `at` on, `next` is the place after it, and every other byte is as it was
pub record Wrote (before : List ℕ) (at : ℕ) (text after : List ℕ) (next : ℕ) : Type 0 where
  pub bytes : after ≡ take at before ++ text ++ drop next before
  pub ends : next ≡ at + length text
  pub fits : next ≤ length before

-- a line stands at the start, `size` is its length, and every other byte is as it was
pub record Line (before text after : List ℕ) (size : ℕ) : Type 0 where
  pub bytes : after ≡ text ++ drop size before
  pub ends : size ≡ length text
  pub fits : size ≤ length after
  pub counts : size ≡ length (take size after)
