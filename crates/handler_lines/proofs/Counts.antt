-- How many blocks an accepted table has among its words.
use Prim.Native.Nat.{ℕ, zero, suc, ◌≤◌}
use mathlib.Core.Path.{◌≡◌, refl, sym, ap, ◌∙◌}
use mathlib.Core.Bool.{true, false}
use mathlib.Core.List.{List, [], ◌∷◌, ◌++◌}
use mathlib.Core.Logic.{⊎_elim}
use native.Mathlib.Omega.{arith}
use borrow.Author.Tests.{eq-eqb, ne_eqb}
use lib.Dec.{eqb}
use lib.ListN.{length, replicate}
use Rattle.table.specs.Words.{kind, argument}
use Rattle.table.specs.Scan.{Task, head, name, perms, guard, term, accepted, keep, next, scan, names_at, reading}
use Rattle.table.proofs.Faults.{stands}
use Rattle.table.proofs.Limits.{Headless, headless-terms, headless-names}
use Rattle.table.proofs.Stack.{Terms, none, also, terms-next, scan_step, scan-missing, scan-more, refused-not-accepted}
use Rattle.table.proofs.Widths.{names-most}

-- the words of kind 2
unfoldable pub blocks_in : List ℕ → ℕ
blocks_in [] = 0
blocks_in (w ∷ ws) = elim (eqb (kind w) 2) [ true ↦ suc (blocks_in ws) | false ↦ blocks_in ws ]

pub block-counts : (w : ℕ) (ws : List ℕ) → kind w ≡ 2 → blocks_in (w ∷ ws) ≡ suc (blocks_in ws)
unfolding blocks_in
block-counts w ws k = rw (eq-eqb (kind w) 2 k, blocks_in)

pub other-counts : (w : ℕ) (ws : List ℕ) → (kind w ≡ 2 → ⊥) → blocks_in (w ∷ ws) ≡ blocks_in ws
unfolding blocks_in
other-counts w ws k = rw (ne_eqb (kind w) 2 k, blocks_in)

-- the names that wait
abbrev waiting : List Task → ℕ
waiting [] = 0
waiting (head n ∷ ts) = waiting ts
waiting (name ∷ ts) = suc (waiting ts)
waiting (perms n ∷ ts) = waiting ts
waiting (guard ∷ ts) = waiting ts
waiting (term d h s ∷ ts) = waiting ts

waiting-terms : (ts us : List Task) → Terms ts → waiting (ts ++ us) ≡ waiting us
waiting-terms ts us none = refl
waiting-terms ts us (also {ts = ts'} r) = waiting-terms ts' us r

waiting-names : (n : ℕ) → waiting (replicate n name ++ []) ≡ n
waiting-names zero = refl
waiting-names (suc n) = ap suc (waiting-names n)

scan-blocks : (names : ℕ) (ws keys : List ℕ) (at : ℕ) (ts : List Task) → scan names ws keys at ts ≡ accepted → Headless ts → blocks_in ws ≡ waiting ts
unfolding blocks_in next
scan-blocks names [] keys at [] e h = refl
scan-blocks names [] keys at (t ∷ ts) e h = absurd (refused-not-accepted (sym (scan-missing names keys at t ts) ∙ e))
scan-blocks names (w ∷ ws) keys at [] e h = absurd (refused-not-accepted (sym (scan-more names w ws keys at) ∙ e))
scan-blocks names (w ∷ ws) keys at (head n ∷ ts) e h = absurd h
scan-blocks names (w ∷ ws) keys at (name ∷ ts) e h =
    let s = scan_step names ws keys w at name ts e in
    block-counts w ws (stands names keys w name s.0).0 ∙ ap suc (scan-blocks names ws (keep keys w name) (suc at) (next at w name ++ ts) s.1 h)
scan-blocks names (w ∷ ws) keys at (perms n ∷ ts) e h =
    let s = scan_step names ws keys w at (perms n) ts e in
    let k : kind w ≡ 3 = (stands names keys w (perms n) s.0).0 in
    other-counts w ws (λ z. omega arith) ∙ scan-blocks names ws (keep keys w (perms n)) (suc at) ts s.1 h
scan-blocks names (w ∷ ws) keys at (guard ∷ ts) e h =
    let s = scan_step names ws keys w at guard ts e in
    let k : kind w ≡ 4 = stands names keys w guard s.0 in
    other-counts w ws (λ z. omega arith) ∙ scan-blocks names ws (keep keys w guard) (suc at) ts s.1 h
scan-blocks names (w ∷ ws) keys at (term d k s ∷ ts) e h =
    let t = term d k s in
    let r = scan_step names ws keys w at t ts e in
    let l : 16 ≤ kind w = (stands names keys w t r.0).0 in
    other-counts w ws (λ z. omega arith)
    ∙ scan-blocks names ws (keep keys w t) (suc at) (next at w t ++ ts) r.1 (headless-terms (next at w t) ts (terms-next at w d k s) h)
    ∙ waiting-terms (next at w t) ts (terms-next at w d k s)

-- at most 64
pub blocks-few : (ws : List ℕ) → reading ws ≡ accepted → blocks_in ws ≤ 64
unfolding reading next
blocks-few [] e = absurd (refused-not-accepted (sym (scan-missing (names_at []) [] 0 (head 0) []) ∙ e))
blocks-few (w ∷ ws) e =
    let m = names_at (w ∷ ws) in
    let s = scan_step m ws [] w 0 (head (length (w ∷ ws))) [] e in
    let f = stands m [] w (head (length (w ∷ ws))) s.0 in
    let n = argument w in
    let other : blocks_in (w ∷ ws) ≡ blocks_in ws = other-counts w ws (λ z. ⊎_elim (λ a. omega arith) (λ a. omega arith) f.0) in
    let all : blocks_in ws ≡ n = scan-blocks m ws _ 1 (replicate n name ++ []) s.1 (headless-names n [] tt) ∙ waiting-names n in
    let most : n ≤ m = f.2 in
    let wide : m ≤ 64 = names-most w in
    omega arith
