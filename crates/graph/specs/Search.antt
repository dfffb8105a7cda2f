-- How the order and the shortest loop are found. The positions are those below n, and `alive` has those of them that are live.
use Rattle.std.specs.Prelude.{ℕ, zero, suc, ◌/◌, ◌^◌, ◌≤◌, ◌<◌, ◌≡◌, Bool, true, false, ◌&&◌, Option, MatchOption, List, [], ◌∷◌, eqb, ltb, get_or}
use Rattle.std.specs.Int.Bits.{bit_and}
use Rattle.permset.specs.Sets.{member, union, difference}

-- the first of the `count` numbers from i on that passes; i + count where none does
unfoldable pub lowest_from : (count i : ℕ) → (ℕ → Bool) → ℕ
lowest_from zero i passes = i
lowest_from (suc count) i passes = elim (passes i) [ true ↦ i | false ↦ lowest_from count (suc i) passes ]

-- the number k, if it is below n, and none otherwise
abbrev pub IsBelow : (n k : ℕ) → Option ℕ → Type 0
IsBelow n k r = MatchOption r (n ≤ k) (λ i. (i < n) × (i ≡ k))

-- ---- the order

-- a position of the set to which none of the set may send
unfoldable pub is_free : List ℕ → ℕ → ℕ → Bool
unfolding member
is_free rows left p = member left p && eqb (bit_and (get_or rows p 0) left) 0

-- the lowest of them; n where there is none
unfoldable pub lowest_free : List ℕ → ℕ → ℕ → ℕ
unfolding lowest_from is_free
lowest_free rows n left = lowest_from n 0 (is_free rows left)

-- p, and what is then done with p
abbrev placed : ℕ → (ℕ → List ℕ) → List ℕ
placed p rest = p ∷ rest p

-- at most `count` positions of those that are left, the lowest free one each time, until none is free
unfoldable pub order_from : List ℕ → (n count left : ℕ) → List ℕ
unfolding lowest_free difference
order_from rows n zero left = []
order_from rows n (suc count) left =
    elim (ltb (lowest_free rows n left) n) [
      | true ↦ placed (lowest_free rows n left) (λ p. order_from rows n count (difference left (2 ^ p)))
      | false ↦ []
    ]

-- ---- loops

-- who may send to a member of the set
unfoldable pub senders : List ℕ → ℕ → ℕ
unfolding member union
senders [] set = 0
senders (row ∷ rows) set = elim (member set 0) [ true ↦ union row (senders rows (set / 2)) | false ↦ senders rows (set / 2) ]

-- from where t is reached in exactly m messages
unfoldable pub reaching : List ℕ → (alive t m : ℕ) → ℕ
unfolding senders
reaching rows alive t zero = bit_and (2 ^ t) alive
reaching rows alive t (suc m) = bit_and (senders rows (reaching rows alive t m)) alive

-- t reaches itself in m messages
unfoldable pub closes : List ℕ → (alive m t : ℕ) → Bool
unfolding reaching member
closes rows alive m t = member (reaching rows alive t m) t

-- the lowest position that reaches itself in m messages; n where none does
unfoldable pub loop_start : List ℕ → (alive n m : ℕ) → ℕ
unfolding lowest_from closes
loop_start rows alive n m = lowest_from n 0 (closes rows alive m)

-- some position does
unfoldable pub some_closes : List ℕ → (alive n m : ℕ) → Bool
unfolding loop_start
some_closes rows alive n m = ltb (loop_start rows alive n m) n

-- the fewest messages in which one does; n + 1 where none does in n or fewer
unfoldable pub loop_length : List ℕ → (alive n : ℕ) → ℕ
unfolding lowest_from some_closes
loop_length rows alive n = lowest_from n 1 (some_closes rows alive n)

-- a member of the set that x may send to
unfoldable pub is_next : List ℕ → (set x z : ℕ) → Bool
unfolding member
is_next rows set x z = member set z && member (get_or rows z 0) x

-- the lowest of them; n where there is none
unfoldable pub lowest_next : List ℕ → (n set x : ℕ) → ℕ
unfolding lowest_from is_next
lowest_next rows n set x = lowest_from n 0 (is_next rows set x)

-- m messages from x to t, to the lowest next position each time
unfoldable pub follow : List ℕ → (alive n t m x : ℕ) → List ℕ
unfolding reaching lowest_next
follow rows alive n t zero x = []
follow rows alive n t (suc m) x = x ∷ follow rows alive n t m (lowest_next rows n (reaching rows alive t m) x)

-- the first loop of m messages
unfoldable pub loop_of : List ℕ → (alive n m : ℕ) → List ℕ
unfolding loop_start follow
loop_of rows alive n m = follow rows alive n (loop_start rows alive n m) m (loop_start rows alive n m)
