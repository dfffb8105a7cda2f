-- The code of the words with word 0 of another kind: the same in everything but its names.
use mathlib.Core.Path.{◌≡◌, refl, ap}
use mathlib.Core.List.{List, [], ◌∷◌, ◌++◌}
use Prim.Native.Nat.{ℕ, zero, suc, ◌<◌}
use native.Mathlib.Omega.{arith}
use native.Mathlib.Numerals.{unary_clauses}
use lib.ListN.{length, get_or, replicate}
use Rattle.table.specs.Words.{argument, word_of, wide, narrow}
use Rattle.table.specs.Scan.{Task, head, name, perms, guard, term, next, accepted, reading, names_at}
use Rattle.table.specs.Code.{part, trace, tasks, task_at, node_for, code}
use Rattle.table.proofs.Widths.{wide-names, narrow-names}
use Rattle.table.proofs.Blocks.{head-word}
use Rattle.widths.specs.Converters.{rekinded, widened, narrowed, with_names}
use Rattle.widths.proofs.Words.{length-kept, kind-given, argument-kept}

module _ (k : ℕ) where
  -- each word meets the same task
  tasks-kept : (ws : List ℕ) → tasks (rekinded k ws) ≡ tasks ws
  unfolding tasks trace next rekinded
  tasks-kept [] = refl
  tasks-kept (w ∷ ws) =
      ap (λ (n : ℕ). head (suc (length ws)) ∷ trace ws 1 (replicate n name ++ [])) (argument-kept k w)

  task-kept : (ws : List ℕ) (p : ℕ) → task_at (rekinded k ws) p ≡ task_at ws p
  unfolding task_at
  task-kept ws p = ap (λ (ts : List Task). get_or ts p (head 0)) (tasks-kept ws)

  -- and the words but the first are the same
  node-later : (w : ℕ) (ws : List ℕ) (p : ℕ) (t : Task) → node_for (rekinded k (w ∷ ws)) (suc p) t ≡ node_for (w ∷ ws) (suc p) t
  unfolding node_for part rekinded
  node-later w ws p (head n) = refl
  node-later w ws p name = simp unary_clauses
  node-later w ws p (perms n) = refl
  node-later w ws p guard = refl
  node-later w ws p (term d h s) = refl

  node_kept : (ws : List ℕ) (p : ℕ) → node_for (rekinded k ws) p (task_at ws p) ≡ node_for ws p (task_at ws p)
  unfolding rekinded task_at tasks trace node_for
  node_kept [] p = refl
  node_kept (w ∷ ws) zero = refl
  node_kept (w ∷ ws) (suc p) = node-later w ws p (task_at (w ∷ ws) (suc p))

  pub code-rekinded : (ws : List ℕ) → code (rekinded k ws) ≡ with_names (names_at (rekinded k ws)) (code ws)
  unfolding code
  code-rekinded ws = simp (length-kept k, tasks-kept, task-kept, node_kept)

-- ---- how many names the converted words have

pub names-widened : (ws : List ℕ) → 0 < length ws → names_at (widened ws) ≡ wide
unfolding rekinded
names-widened [] h = let n : ⊥ = omega arith in absurd n
names-widened (w ∷ ws) h = wide-names (word_of 5 (argument w)) (kind-given 5 w)

pub names-narrowed : (ws : List ℕ) → 0 < length ws → names_at (narrowed ws) ≡ narrow
unfolding rekinded
names-narrowed [] h = let n : ⊥ = omega arith in absurd n
names-narrowed (w ∷ ws) h = narrow-names (word_of 1 (argument w)) (λ e. let k = kind-given 1 w in omega arith)

module _ (ws : List ℕ) (e : reading ws ≡ accepted) where
  pub some_words : 0 < length ws
  some_words = (head-word ws e).inside

  pub code-widened : code (widened ws) ≡ with_names wide (code ws)
  code-widened = rw (code-rekinded, names-widened ws some_words)
