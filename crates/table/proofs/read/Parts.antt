-- The scan of a term's parts, one after the other: what is left of the table once the word of a term and its first i parts are read.
-- Assumes nothing.
use mathlib.Core.Path.{◌≡◌, sym, ap, ap₂, ◌∙◌}
use mathlib.Core.Bool.{Bool, true, false}
use mathlib.Core.List.{List, ◌∷◌, ◌++◌, map}
use Prim.Native.Nat.{ℕ, suc, ◌+◌, ◌<◌, ◌≤◌}
use native.Mathlib.Nat.{add-zero}
use native.Mathlib.Numerals.{add-one}
use lib.ListN.{length, get_or, drop, drop_of_length-le}
use lib.Seq.{drop-cons}
use mir.Val.{bool_byte}
use Rattle.table.specs.Words.{parts, arity}
use Rattle.table.specs.Scan.{Task, term, Outcome, under, fault, keep, next, scan}
use Rattle.table.proofs.read.Steps.{goes_on}

-- the tasks of some parts of the term at a place
abbrev pub part_tasks : ℕ → ℕ → ℕ → List ℕ → List Bool → List Task
part_tasks at d h s bs = map (λ b. term (suc d) h (under b at s)) bs

-- with the word of the term at `at` and its first i parts read, up to the place p, what is left gives the outcome of the whole
abbrev pub Left : ℕ → List ℕ → ℕ → ℕ → ℕ → ℕ → ℕ → ℕ → Type 0
Left names ws at d n w p i =
    (keys : List ℕ) (h : ℕ) (s : List ℕ) (ts : List Task) → length s ≡ n
    → scan names (drop at ws) keys at (term d h s ∷ ts) ≡ scan names (drop p ws) keys p (part_tasks at d h s (drop i (parts w)) ++ ts)

-- the binders of a part
pub under-length : (b : Bool) (at : ℕ) (s : List ℕ) → length (under b at s) ≡ length s + bool_byte b
unfolding under
under-length true at s = sym (add-one (length s))
under-length false at s = sym (add-zero (length s))

module _ (names : ℕ) (ws : List ℕ) (at d n : ℕ) where
  pub left-none : at < length ws → ((keys : List ℕ) (h : ℕ) (s : List ℕ) → length s ≡ n → fault names keys (get_or ws at 0) (term d h s) ≡ 0)
      → Left names ws at d n (get_or ws at 0) (at + 1) 0
  unfolding next keep
  left-none inside ok keys h s ts e = goes_on names ws keys at (term d h s) ts inside (ok keys h s e)

  module _ (w p i : ℕ) (left : Left names ws at d n w p i) where
    -- the next part is read under m binders, and `after` says what is left then
    pub left-part : i < arity w → (m : ℕ) → m ≡ bool_byte (get_or (parts w) i false) → (after : List ℕ → List Task → Outcome)
        → ((keys : List ℕ) (h : ℕ) (s : List ℕ) (ts : List Task) → length s ≡ n + m
        → scan names (drop p ws) keys p (term (d + 1) h s ∷ ts) ≡ after keys ts)
        → (keys : List ℕ) (h : ℕ) (s : List ℕ) (ts : List Task) → length s ≡ n
        → scan names (drop at ws) keys at (term d h s ∷ ts) ≡ after keys (part_tasks at d h s (drop (i + 1) (parts w)) ++ ts)
    unfolding arity
    left-part l m em after post keys h s ts e =
        let b = get_or (parts w) i false in
        let rest = part_tasks at d h s (drop (i + 1) (parts w)) ++ ts in
        left keys h s ts e
        ∙ ap (λ (bs : List Bool). scan names (drop p ws) keys p (part_tasks at d h s bs ++ ts)) (drop-cons (parts w) i false l)
        ∙ ap₂
        (λ (j k : ℕ). scan names (drop p ws) keys p (term j h (under b at s) ∷ part_tasks at d h s (drop k (parts w)) ++ ts))
        (sym (add-one d))
        (sym (add-one i))
        ∙ post keys h (under b at s) rest (under-length b at s ∙ ap₂ ◌+◌ e (sym em))

    -- none is left
    pub left-all : arity w ≤ i → (keys : List ℕ) (h : ℕ) (s : List ℕ) (ts : List Task) → length s ≡ n
        → scan names (drop at ws) keys at (term d h s ∷ ts) ≡ scan names (drop p ws) keys p ts
    unfolding arity
    left-all l keys h s ts e =
        left keys h s ts e
        ∙ ap (λ (bs : List Bool). scan names (drop p ws) keys p (part_tasks at d h s bs ++ ts)) (drop_of_length-le (parts w) l)
