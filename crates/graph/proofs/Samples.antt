-- Some relations, computed.
use Prim.Native.Nat.{ℕ}
use mathlib.Core.Path.{◌≡◌, refl}
use mathlib.Core.List.{List, [], ◌∷◌}
use Rattle.std.specs.Prelude.{Some, None}
use Rattle.graph.specs.declared.Arrangement.{Arrangement}
use Rattle.graph.specs.declared.Arrangement.TheVariants.{Ordered, Looped}
use Rattle.graph.specs.Answer.{answer, written}

abbrev Found : List ℕ → ℕ → Arrangement → List ℕ → Type 0
Found rows live a xs = (answer rows live 64 ≡ Some a) × (written rows live (Some a) ≡ xs)

-- nothing at all; and three positions of which none may send
nothing : Found [] 7 (Ordered 0) []
unfolding answer written
nothing = (refl, refl)

apart : Found (0 ∷ 0 ∷ 0 ∷ []) 7 (Ordered 3) (0 ∷ 1 ∷ 2 ∷ [])
unfolding answer written
apart = (refl, refl)

-- 0 sends to 2, 2 to 1
chain : Found (0 ∷ 4 ∷ 1 ∷ []) 7 (Ordered 3) (0 ∷ 2 ∷ 1 ∷ [])
unfolding answer written
chain = (refl, refl)

-- the same where 2 is not live
not_live : Found (0 ∷ 4 ∷ 1 ∷ []) 3 (Ordered 2) (0 ∷ 1 ∷ [])
unfolding answer written
not_live = (refl, refl)

-- 1 sends to itself, and 0 and 2 to each other
itself : Found (4 ∷ 2 ∷ 1 ∷ []) 7 (Looped 1) (1 ∷ [])
unfolding answer written
itself = (refl, refl)

-- 1 to 0 to 2 to 1
ring : Found (2 ∷ 4 ∷ 1 ∷ []) 7 (Looped 3) (0 ∷ 2 ∷ 1 ∷ [])
unfolding answer written
ring = (refl, refl)

-- 0 to 3 to 0 and 1 to 2 to 1: two loops of one length
two : Found (8 ∷ 4 ∷ 2 ∷ 1 ∷ []) 15 (Looped 2) (0 ∷ 3 ∷ [])
unfolding answer written
two = (refl, refl)

-- 0 to 2 and 3, both to 1, 1 to 0: the lower one is next
lower : Found (2 ∷ 12 ∷ 1 ∷ 1 ∷ []) 15 (Looped 3) (0 ∷ 2 ∷ 1 ∷ [])
unfolding answer written
lower = (refl, refl)

-- no room
short : answer (0 ∷ 0 ∷ 0 ∷ []) 7 2 ≡ None
unfolding answer
short = refl
