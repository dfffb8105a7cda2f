-- The words with word 0 of a kind: their length, word 0 and the others.
use mathlib.Core.Path.{◌≡◌, refl}
use mathlib.Core.List.{List, [], ◌∷◌, ◌++◌}
use Prim.Native.Nat.{ℕ, zero, suc, ◌<◌}
use native.Mathlib.Omega.{arith}
use lib.ListN.{length, get_or, set}
use Rattle.table.specs.Words.{kind, argument, word_of}
use Rattle.table.proofs.TermWords.{argument-lt, argument-word_of, kind-word_of}
use Rattle.widths.specs.Converters.{rekinded}

module _ (k : ℕ) where
  pub length-kept : (ws : List ℕ) → length (rekinded k ws) ≡ length ws
  unfolding rekinded
  length-kept [] = refl
  length-kept (w ∷ ws) = refl

  pub first_word : (ws : List ℕ) (p : ℕ) → p < length ws → p ≡ 0 → get_or (rekinded k ws) p 0 ≡ word_of k (argument (get_or ws p 0))
  unfolding rekinded
  first_word [] p h e = let n : ⊥ = omega arith in absurd n
  first_word (w ∷ ws) zero h e = refl
  first_word (w ∷ ws) (suc p) h e = let n : ⊥ = omega arith in absurd n

  -- copied, and then word 0 given its kind
  pub rekinded-copied : (ws rest : List ℕ) → 0 < length ws → set (ws ++ rest) 0 (word_of k (argument (get_or ws 0 0))) ≡ rekinded k ws ++ rest
  unfolding rekinded
  rekinded-copied [] rest h = let n : ⊥ = omega arith in absurd n
  rekinded-copied (w ∷ ws) rest h = refl

  pub kind-given : (w : ℕ) → kind (word_of k (argument w)) ≡ k
  kind-given w = kind-word_of k (argument w) (argument-lt w)

  pub argument-kept : (w : ℕ) → argument (word_of k (argument w)) ≡ argument w
  argument-kept w = argument-word_of k (argument w) (argument-lt w)
