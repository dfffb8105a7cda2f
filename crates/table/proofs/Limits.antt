-- The sizes that acceptance implies: words, blocks and depth.
use mathlib.Core.Path.{◌≡◌, refl, sym, ap, ◌∙◌}
use mathlib.Core.List.{List, [], ◌∷◌, ◌++◌}
use Prim.Native.Nat.{ℕ, zero, suc, ◌≤◌}
use native.Mathlib.Nat.{le_of_eq, le_trans}
use lib.ListN.{length, get_or, drop, replicate}
use Rattle.table.specs.Words.{argument, size}
use Rattle.table.specs.Scan.{Task, head, name, perms, guard, term, accepted, keep, next, scan, names_at, reading}
use Rattle.table.specs.Code.{trace, blocks_from, code}
use Rattle.table.proofs.Stack.{Terms, none, also, terms-next, at-start, at-step, scan_step, scan-missing, scan-more}
use Rattle.table.proofs.Stack.{refused-not-accepted}
use Rattle.table.proofs.Blocks.{head-word, blocks-first}

-- ---- as many blocks as word 0 says

-- the names that wait, where no head does
abbrev waiting : List Task → ℕ
waiting [] = 0
waiting (head n ∷ ts) = waiting ts
waiting (name ∷ ts) = suc (waiting ts)
waiting (perms n ∷ ts) = waiting ts
waiting (guard ∷ ts) = waiting ts
waiting (term d h s ∷ ts) = waiting ts

abbrev pub Headless : List Task → Type 0
Headless [] = Unit {0}
Headless (head n ∷ ts) = ⊥
Headless (name ∷ ts) = Headless ts
Headless (perms n ∷ ts) = Headless ts
Headless (guard ∷ ts) = Headless ts
Headless (term d h s ∷ ts) = Headless ts

waiting-terms : (ts us : List Task) → Terms ts → waiting (ts ++ us) ≡ waiting us
waiting-terms ts us none = refl
waiting-terms ts us (also {ts = ts'} r) = waiting-terms ts' us r

pub headless-terms : (ts us : List Task) → Terms ts → Headless us → Headless (ts ++ us)
headless-terms ts us none h = h
headless-terms ts us (also {ts = ts'} r) h = headless-terms ts' us r h

waiting-names : (n : ℕ) → waiting (replicate n name ++ []) ≡ n
waiting-names zero = refl
waiting-names (suc n) = ap suc (waiting-names n)

pub headless-names : (n : ℕ) (ts : List Task) → Headless ts → Headless (replicate n name ++ ts)
headless-names zero ts h = h
headless-names (suc n) ts h = headless-names n ts h

trace-count : (names : ℕ) (ws keys : List ℕ) (at : ℕ) (ts : List Task) → scan names ws keys at ts ≡ accepted → Headless ts
    → length (blocks_from (trace ws at ts) at) ≡ waiting ts
unfolding trace blocks_from next
trace-count names [] keys at [] e h = refl
trace-count names [] keys at (t ∷ ts) e h = absurd (refused-not-accepted (sym (scan-missing names keys at t ts) ∙ e))
trace-count names (w ∷ ws) keys at [] e h = absurd (refused-not-accepted (sym (scan-more names w ws keys at) ∙ e))
trace-count names (w ∷ ws) keys at (head n ∷ ts) e h = absurd h
trace-count names (w ∷ ws) keys at (name ∷ ts) e h =
    ap suc (trace-count names ws (keep keys w name) (suc at) (next at w name ++ ts) (scan_step names ws keys w at name ts e).1 h)
trace-count names (w ∷ ws) keys at (perms n ∷ ts) e h =
    trace-count names ws (keep keys w (perms n)) (suc at) ts (scan_step names ws keys w at (perms n) ts e).1 h
trace-count names (w ∷ ws) keys at (guard ∷ ts) e h =
    trace-count names ws (keep keys w guard) (suc at) ts (scan_step names ws keys w at guard ts e).1 h
trace-count names (w ∷ ws) keys at (term d k s ∷ ts) e h =
    let t = term d k s in
    trace-count names ws (keep keys w t) (suc at) (next at w t ++ ts) (scan_step names ws keys w at t ts e).1
    (headless-terms (next at w t) ts (terms-next at w d k s) h)
    ∙ waiting-terms (next at w t) ts (terms-next at w d k s)

module _ (ws : List ℕ) (e : reading ws ≡ accepted) where
  pub blocks-count : length (code ws).blocks ≡ argument (get_or ws 0 0)
  unfolding code next
  blocks-count =
      let n = argument (get_or ws 0 0) in
      let r = (at-step ws 0 [] (head (length ws)) [] (at-start ws e)).rest in
      ap length (blocks-first ws e ∙ ap (λ (ts : List Task). blocks_from ts 1) r.traced)
      ∙ trace-count (names_at ws) (drop 1 ws) _ 1 (replicate n name ++ []) r.scanned (headless-names n [] tt)
      ∙ waiting-names n

  pub size-le : length ws ≤ size
  size-le = (head-word ws e).sized

  pub blocks-le : length (code ws).blocks ≤ names_at ws
  blocks-le = le_trans (le_of_eq blocks-count) (head-word ws e).handled
