-- A choice as a word, and its parts.
use Rattle.std.specs.Prelude.{ℕ, ◌+◌, ◌*◌, ◌/◌, ◌%◌}

-- clause k of the word p, for the target f or (0) for all
abbrev pub choice_of : (k p f : ℕ) → ℕ
choice_of k p f = (k % 4096 * 1024 + p % 1024) * 1024 + f % 1024

abbrev pub clause_of : ℕ → ℕ
clause_of w = w / 1048576

abbrev pub place_of : ℕ → ℕ
place_of w = w / 1024 % 1024

abbrev pub target_of : ℕ → ℕ
target_of w = w % 1024
