-- The memory of the schedule and its list of choices, for a table of n words, at most 1,024: how long they are, how they are divided, and all that is
-- promised of them. What their words say is never trusted: a mistake there costs time and nothing else.
use Rattle.std.specs.Prelude.{ℕ, ◌+◌, ◌*◌, ◌/◌, ◌≡◌, List, length}

-- a set in k words, with a summary of s words before them: a bit for each of the k that has a bit
unfoldable pub set_words : (s k : ℕ) → ℕ
set_words s k = s + k

-- ---- the parts of a memory, in their order

-- a bit for each turn whose row waits; two rows for each word
unfoldable pub rows_wait : ℕ
rows_wait = set_words 2 64

-- a bit for each word that waits with the words that are live with it
unfoldable pub live_wait : ℕ
live_wait = set_words 1 32

-- a bit for each word whose permissions wait
unfoldable pub permissions_wait : ℕ
permissions_wait = set_words 1 32

-- for each word six: the turn of the row C(p), the row of a turn, the word that it is a part of, the turn of the row B(p), the row of a turn, and of a
-- binder its last use, of a use the one before it, 0 where there is none; of a send the only block of the names that it sends to. A row that has had its
-- turn has 2,048 added to it.
unfoldable pub plan : ℕ → ℕ
plan n = 6 * n

-- for each word f a set: a bit for each word that acts on the thing f, or sends to the block f
unfoldable pub followers : ℕ → ℕ
followers n = n * set_words 1 (n / 32 + 1)

unfoldable pub memory_words : ℕ → ℕ
memory_words n = rows_wait + live_wait + permissions_wait + plan n + followers n

-- ---- a list of choices: their number, and as many as an event calls for

unfoldable pub choice_words : ℕ → ℕ
choice_words n = 3 * n + 8

-- ---- what is promised of either where it is lent: it is as long as before

abbrev pub Kept : (before after : List ℕ) → Type 0
Kept before after = length after ≡ length before
