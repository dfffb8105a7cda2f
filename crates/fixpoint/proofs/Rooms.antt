-- The words of a memory and of a list of choices for 64, 256, 512 and 1,024 words of a table, computed: the lengths that src/room.rt writes as numbers.
use mathlib.Core.Path.{◌≡◌, refl}
use mathlib.Core.List.{[], ◌∷◌}
use Rattle.worklist.specs.Memory.{set_words, rows_wait, live_wait, permissions_wait, plan, followers, memory_words, choice_words}

pub memories : (memory_words 64 ∷ memory_words 256 ∷ memory_words 512 ∷ memory_words 1024 ∷ []) ≡ 772 ∷ 4228 ∷ 12420 ∷ 41092 ∷ []
unfolding memory_words rows_wait live_wait permissions_wait plan followers set_words
memories = refl

pub lists : (choice_words 64 ∷ choice_words 256 ∷ choice_words 512 ∷ choice_words 1024 ∷ []) ≡ 200 ∷ 776 ∷ 1544 ∷ 3080 ∷ []
unfolding choice_words
lists = refl
