-- The tasks that the words of a good block meet, and where the parts of its terms stand, depend on its words and its place alone.
use mathlib.Core.Path.{◌≡◌, refl, sym, ap, ap₂, ◌∙◌, subst}
use mathlib.Core.List.{List, [], ◌∷◌, ◌++◌, flatten, append_assoc, append-nil}
use Prim.Native.Nat.{ℕ, zero, suc, ◌+◌, ◌≤◌, ◌<◌, ◌^◌}
use native.Mathlib.Nat.{add-zero}
use native.Mathlib.Omega.{arith}
use lib.ListN.{length, get_or, drop, replicate}
use lib.Seq.{drop-append-le, drop-append-add}
use Rattle.table.specs.Words.{argument, word_of, arity}
use Rattle.table.specs.Scan.{Task, head, name, perms, guard, term, accepted, keep, next, scan}
use Rattle.table.specs.Code.{skip, part, trace, tasks}
use Rattle.table.proofs.Parts.{skip-zero}
use Rattle.table.proofs.TermWords.{argument-word_of}
use Rattle.table.proofs.Stack.{scan_step, scan-missing, scan-more, refused-not-accepted, length-term-next}
use Rattle.blocks.specs.Blocks.{table_of, Good, All}
use Rattle.blocks.proofs.Terms.{Alike, none, also, alike_next}
use Rattle.blocks.proofs.Block.{front, body-task, bodies}

-- ---- tasks

-- words that are read to their end as terms meet the same tasks before other words and other tasks
terms-tasks : (names : ℕ) (b ws keys : List ℕ) (at to : ℕ) (ts ts' us : List Task) → Alike ts ts' → scan names b keys at ts ≡ accepted
    → trace (b ++ ws) to (ts' ++ us) ≡ trace b to ts' ++ trace ws (to + length b) us
unfolding keep trace
terms-tasks names [] ws keys at to ts ts' us none e = ap (λ (n : ℕ). trace ws n us) (sym (add-zero to))
terms-tasks names [] ws keys at to ts ts' us (also {d} {h} {s} {ts = t} l r) e =
    absurd (refused-not-accepted (sym (scan-missing names keys at (term d h s) t) ∙ e))
terms-tasks names (w ∷ b) ws keys at to ts ts' us none e = absurd (refused-not-accepted (sym (scan-more names w b keys at) ∙ e))
terms-tasks names (w ∷ b) ws keys at to ts ts' us (also {d} {h} {h'} {s} {s'} {ts = t} {ts' = t'} l r) e =
    let first = scan_step names b keys w at (term d h s) t e in
    let u = term d h' s' in
    ap (λ (l : List Task). u ∷ l)
    (ap (trace (b ++ ws) (suc to)) (sym (append_assoc (next to w u) t' us))
    ∙ terms-tasks names b ws keys (suc at) (suc to) _ _ us (alike_next at to h h' s s' l w d t t' r) first.1
    ∙ ap (λ (n : ℕ). trace b (suc to) (next to w u ++ t') ++ trace ws n us) (let k : suc to + length b ≡ to + suc (length b) = omega arith in k))

module _ (names : ℕ) (b : List ℕ) (good : Good names b) where
  pub good-tasks : (ws : List ℕ) (at : ℕ) (ts : List Task)
      → trace (b ++ ws) at (name ∷ ts) ≡ trace b at (name ∷ []) ++ trace ws (at + length b) ts
  unfolding Good trace next
  good-tasks ws at ts =
      let f = front names b [] 0 [] good in
      let body = terms-tasks names f.rest ws _ 3 (suc (suc (suc at))) _ _ ts (bodies 0 at) f.after in
      let n = perms (argument f.first) in
      let size : suc (suc (suc at)) + length f.rest ≡ at + length b = let l = ap length f.whole in omega arith in
      ap (λ (v : List ℕ). trace (v ++ ws) at (name ∷ ts)) f.whole
      ∙ ap (λ (l : List Task). name ∷ n ∷ guard ∷ l) body
      ∙ ap₂ (λ (l : List Task) (i : ℕ). l ++ trace ws i ts) (sym (ap (λ (v : List ℕ). trace v at (name ∷ [])) f.whole)) size

-- the tasks of blocks, the first of them at a place
abbrev pub tasks_of : ℕ → List (List ℕ) → List Task
tasks_of at [] = []
tasks_of at (b ∷ bs) = trace b at (name ∷ []) ++ tasks_of (at + length b) bs

blocks-tasks : (names : ℕ) (bs : List (List ℕ)) (at : ℕ) → All (Good names) bs → trace (flatten bs) at (replicate (length bs) name) ≡ tasks_of at bs
unfolding flatten trace
blocks-tasks names [] at g = refl
blocks-tasks names (b ∷ bs) at g =
    good-tasks names b g.0 (flatten bs) at (replicate (length bs) name)
    ∙ ap (λ (l : List Task). trace b at (name ∷ []) ++ l) (blocks-tasks names bs (at + length b) g.1)

pub table-tasks : (names k : ℕ) (bs : List (List ℕ)) → All (Good names) bs → length bs < 2 ^ 24
    → tasks (table_of k bs) ≡ head (length (table_of k bs)) ∷ tasks_of 1 bs
unfolding tasks table_of trace next
table-tasks names k bs g h =
    ap (λ (l : List Task). head (length (table_of k bs)) ∷ l)
    (ap (trace (flatten bs) 1)
    (append-nil (replicate (argument (word_of k (length bs))) name) ∙ ap (λ (n : ℕ). replicate n name) (argument-word_of k (length bs) h))
    ∙ blocks-tasks names bs 1 g)

-- ---- parts

-- terms that are there are counted alike before other words
skip-before : (names : ℕ) (b ws keys : List ℕ) (at k : ℕ) (ts ts' : List Task) → Alike ts ts' → scan names b keys at ts ≡ accepted → k ≤ length ts
    → skip (b ++ ws) k ≡ skip b k
unfolding keep skip
skip-before names [] ws keys at zero ts ts' a e h = skip-zero ws
skip-before names [] ws keys at (suc k) ts ts' none e h = let n : ⊥ = omega arith in absurd n
skip-before names [] ws keys at (suc k) ts ts' (also {d} {h = i} {s} {ts = t} l r) e h =
    absurd (refused-not-accepted (sym (scan-missing names keys at (term d i s) t) ∙ e))
skip-before names (w ∷ b) ws keys at zero ts ts' a e h = refl
skip-before names (w ∷ b) ws keys at (suc k) ts ts' none e h = let n : ⊥ = omega arith in absurd n
skip-before names (w ∷ b) ws keys at (suc k) ts ts' (also {d} {h = i} {h' = i'} {s} {s'} {ts = t} {ts' = t'} l r) e h =
    let first = scan_step names b keys w at (term d i s) t e in
    let n = length-term-next at w d i s t in
    ap suc (skip-before names b ws keys (suc at) (arity w + k) _ _ (alike_next at at i i' s s' l w d t t' r) first.1 (omega arith))

-- of any term among them the parts are there
terms-parts : (names : ℕ) (b ws keys : List ℕ) (at : ℕ) (ts ts' : List Task) → Alike ts ts' → scan names b keys at ts ≡ accepted
    → (j k : ℕ) → j < length b → k ≤ arity (get_or b j 0) → skip (drop (suc j) b ++ ws) k ≡ skip (drop (suc j) b) k
unfolding keep
terms-parts names [] ws keys at ts ts' a e j k h m = let n : ⊥ = omega arith in absurd n
terms-parts names (w ∷ b) ws keys at ts ts' none e j k h m = absurd (refused-not-accepted (sym (scan-more names w b keys at) ∙ e))
terms-parts names (w ∷ b) ws keys at ts ts' (also {d} {h = i} {h' = i'} {s} {s'} {ts = t} {ts' = t'} l r) e zero k h m =
    let first = scan_step names b keys w at (term d i s) t e in
    let n = length-term-next at w d i s t in
    skip-before names b ws keys (suc at) k _ _ (alike_next at at i i' s s' l w d t t' r) first.1 (omega arith)
terms-parts names (w ∷ b) ws keys at ts ts' (also {d} {h = i} {h' = i'} {s} {s'} {ts = t} {ts' = t'} l r) e (suc j) k h m =
    let first = scan_step names b keys w at (term d i s) t e in
    terms-parts names b ws keys (suc at) _ _ (alike_next at at i i' s s' l w d t t' r) first.1 j k (omega arith) m

-- the parts of a term of a list of words are counted alike before other words
abbrev PartsThere : List ℕ → List ℕ → Type 0
PartsThere post v =
    (j k : ℕ) → 3 ≤ j → j < length v → k ≤ arity (get_or v j 0) → skip (drop (suc j) v ++ post) k ≡ skip (drop (suc j) v) k

body-parts : (names n p g : ℕ) (rest post keys : List ℕ) → scan names rest keys 3 (body-task 0 []) ≡ accepted → PartsThere post (n ∷ p ∷ g ∷ rest)
body-parts names n p g rest post keys e zero k low high m = let f : ⊥ = omega arith in absurd f
body-parts names n p g rest post keys e (suc zero) k low high m = let f : ⊥ = omega arith in absurd f
body-parts names n p g rest post keys e (suc (suc zero)) k low high m = let f : ⊥ = omega arith in absurd f
body-parts names n p g rest post keys e (suc (suc (suc j))) k low high m =
    terms-parts names rest post keys 3 (body-task 0 []) (body-task 0 []) (bodies 0 0) e j k (omega arith) m

-- a part of a term of a good block stands names as far from the block's start wherever the block stands
pub good-part : (names : ℕ) (b : List ℕ) → Good names b → (pre post : List ℕ) (j k : ℕ) → 3 ≤ j → j < length b → k ≤ arity (get_or b j 0)
    → part (pre ++ (b ++ post)) (length pre + j) k ≡ length pre + part b j k
unfolding part Good
good-part names b good pre post j k low high m =
    let f = front names b [] 0 [] good in
    let there = subst (PartsThere post) (sym f.whole) (body-parts names _ _ _ f.rest post _ f.after) j k low high m in
    let cut : drop (suc (length pre + j)) (pre ++ (b ++ post)) ≡ drop (suc j) b ++ post =
    ap (λ (i : ℕ). drop i (pre ++ (b ++ post))) (let i : suc (length pre + j) ≡ length pre + suc j = omega arith in i)
    ∙ drop-append-add pre (b ++ post) (suc j)
    ∙ drop-append-le (suc j) b post high in
    let same : skip (drop (suc (length pre + j)) (pre ++ (b ++ post))) k ≡ skip (drop (suc j) b) k = ap (λ (l : List ℕ). skip l k) cut ∙ there in
    omega arith
