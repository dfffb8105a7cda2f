-- An accepted table is its word 0 and good blocks with distinct keys, and every such table is accepted.
use mathlib.Core.Path.{◌≡◌, refl, sym, ap, ◌∙◌, subst}
use mathlib.Core.Logic.{◌⊎◌, ⊎_elim}
use mathlib.Core.List.{List, [], ◌∷◌, ◌++◌, map, flatten, append-nil}
use Prim.Native.Nat.{ℕ, zero, suc, ◌+◌, ◌≤◌, ◌<◌, ◌^◌}
use native.Mathlib.Omega.{arith}
use lib.ListN.{length, get_or, take, drop, replicate, take-append-drop}
use lib.Seq.{drop-cons, take-append_seam, drop-append_seam}
use Rattle.table.specs.Words.{kind, argument, word_of, names_of, size}
use Rattle.table.specs.Scan.{Task, head, name, accepted, keep, next, scan, names_at, reading}
use Rattle.table.proofs.Faults.{stands, faultless}
use Rattle.table.proofs.Stack.{scan-go, scan_step, scan-missing, scan-more, refused-not-accepted}
use Rattle.table.proofs.Widths.{names-most}
use Rattle.table.proofs.TermWords.{kind-word_of, argument-word_of, word_of-parts}
use Rattle.blocks.specs.Blocks.{block_length, cut, blocks, table_of, key_of, Good, All, Distinct}
use Rattle.blocks.proofs.Block.{block-cut, good-anywhere, good_length}
use Rattle.blocks.proofs.Keys.{Unused, unused-distinct, distinct-unused, apart_none}

-- ---- words that are n good blocks and nothing else

abbrev pub Cuts : (names : ℕ) → ℕ → List ℕ → Type 0
Cuts names zero ws = ws ≡ []
Cuts names (suc n) ws = (block_length ws ≤ length ws) × Good names (take (block_length ws) ws) × Cuts names n (drop (block_length ws) ws)

pub cut-length : (n : ℕ) (ws : List ℕ) → length (cut n ws) ≡ n
unfolding cut
cut-length zero ws = refl
cut-length (suc n) ws = ap suc (cut-length n (drop (block_length ws) ws))

pub cuts-flat : (names n : ℕ) (ws : List ℕ) → Cuts names n ws → flatten (cut n ws) ≡ ws
unfolding cut flatten
cuts-flat names zero ws c = sym c
cuts-flat names (suc n) ws c =
    ap (λ (v : List ℕ). take (block_length ws) ws ++ v) (cuts-flat names n (drop (block_length ws) ws) c.2)
    ∙ take-append-drop (block_length ws) ws

pub cuts-good : (names n : ℕ) (ws : List ℕ) → Cuts names n ws → All (Good names) (cut n ws)
unfolding cut
cuts-good names zero ws c = tt
cuts-good names (suc n) ws c = (c.1, cuts-good names n (drop (block_length ws) ws) c.2)

-- where n blocks wait and the words are accepted
nothing_left : (names : ℕ) (ws keys : List ℕ) (at : ℕ) → scan names ws keys at [] ≡ accepted → ws ≡ []
nothing_left names [] keys at e = refl
nothing_left names (w ∷ ws) keys at e = absurd (refused-not-accepted (sym (scan-more names w ws keys at) ∙ e))

accepted-cuts : (names n : ℕ) (ws keys : List ℕ) (at : ℕ) → scan names ws keys at (replicate n name) ≡ accepted
    → Cuts names n ws × Unused keys (map key_of (cut n ws))
unfolding cut
accepted-cuts names zero ws keys at e = (nothing_left names ws keys at e, tt)
accepted-cuts names (suc n) ws keys at e =
    let c = block-cut names ws keys at (replicate n name) e in
    let r = accepted-cuts names n (drop (block_length ws) ws) _ _ c.after in
    ((c.inside, c.good, r.0), (c.unused, r.1))

-- ---- an accepted table

pub record Table (ws : List ℕ) : Type 0 where
  pub inside : 0 < length ws
  pub headed : (kind (get_or ws 0 0) ≡ 1) ⊎ (kind (get_or ws 0 0) ≡ 5)
  pub few : argument (get_or ws 0 0) ≤ names_at ws
  pub short : length ws ≤ size
  pub cuts : Cuts (names_at ws) (argument (get_or ws 0 0)) (drop 1 ws)
  pub distinct : Distinct (map key_of (blocks ws))

pub table : (ws : List ℕ) → reading ws ≡ accepted → Table ws
unfolding reading keep next blocks
table [] e = absurd (refused-not-accepted (sym (scan-missing (names_at []) [] 0 (head 0) []) ∙ e))
table (w ∷ ws) e =
    let s = scan_step (names_of w) ws [] w 0 (head (suc (length ws))) [] e in
    let f = stands (names_of w) [] w (head (suc (length ws))) s.0 in
    let c = accepted-cuts (names_of w) (argument w) ws [] 1 (sym (ap (scan (names_of w) ws [] 1) (append-nil (replicate (argument w) name))) ∙ s.1) in
    record {
      inside = omega arith;
      headed = f.0;
      few = f.2;
      short = f.1;
      cuts = c.0;
      distinct = unused-distinct [] (map key_of (cut (argument w) ws)) c.1;
    }

module _ (ws : List ℕ) (e : reading ws ≡ accepted) where
  pub blocks-count : length (blocks ws) ≡ argument (get_or ws 0 0)
  unfolding blocks
  blocks-count = cut-length (argument (get_or ws 0 0)) (drop 1 ws)

  pub blocks-good : All (Good (names_at ws)) (blocks ws)
  unfolding blocks
  blocks-good = cuts-good (names_at ws) (argument (get_or ws 0 0)) (drop 1 ws) (table ws e).cuts

  pub blocks-distinct : Distinct (map key_of (blocks ws))
  blocks-distinct = (table ws e).distinct

  pub blocks-few : length (blocks ws) ≤ names_at ws
  blocks-few = subst (λ (n : ℕ). n ≤ names_at ws) (sym blocks-count) (table ws e).few

  -- it is the table of its blocks
  pub blocks-whole : table_of (kind (get_or ws 0 0)) (blocks ws) ≡ ws
  unfolding table_of blocks
  blocks-whole =
      let t = table ws e in
      let w = get_or ws 0 0 in
      ap (λ (v : ℕ). v ∷ flatten (blocks ws)) (ap (word_of (kind w)) blocks-count ∙ word_of-parts w)
      ∙ ap (λ (v : List ℕ). w ∷ v) (cuts-flat (names_at ws) (argument w) (drop 1 ws) t.cuts)
      ∙ sym (drop-cons ws 0 0 t.inside)

-- ---- a table of good blocks

good-scan : (names : ℕ) (bs : List (List ℕ)) (keys : List ℕ) (at : ℕ) → All (Good names) bs → Unused keys (map key_of bs)
    → scan names (flatten bs) keys at (replicate (length bs) name) ≡ accepted
unfolding flatten scan
good-scan names [] keys at g u = refl
good-scan names (b ∷ bs) keys at g u =
    good-anywhere names b g.0 (flatten bs) keys at (replicate (length bs) name) u.0
    ∙ good-scan names bs (key_of b ∷ keys) (at + length b) g.1 u.1

-- good blocks with distinct keys, few enough and short enough, make an accepted table of the kind k
module _ (k : ℕ) (either : (k ≡ 1) ⊎ (k ≡ 5)) where
  kind-small : k < 256
  kind-small = ⊎_elim (λ e. omega arith) (λ e. omega arith) either

  -- its names are those of its kind
  pub names-for : (n : ℕ) → n < 2 ^ 24 → names_of (word_of k n) ≡ names_of (word_of k 0)
  unfolding names_of
  names-for n h = rw (kind-word_of k n h, kind-word_of k 0 (omega arith), names_of)

  pub table-accepted : (names : ℕ) → names ≡ names_of (word_of k 0) → (bs : List (List ℕ)) → All (Good names) bs → Distinct (map key_of bs)
      → length bs ≤ names → length (table_of k bs) ≤ size → reading (table_of k bs) ≡ accepted
  unfolding table_of reading keep next
  table-accepted names q bs g d few short =
      let n = length bs in
      let small : n < 2 ^ 24 = omega (arith, names-most (word_of k 0)) in
      let a : argument (word_of k n) ≡ n = argument-word_of k n small in
      let same : names_of (word_of k n) ≡ names = names-for n small ∙ sym q in
      ap (λ (m : ℕ). scan m (table_of k bs) [] 0 (head (length (table_of k bs)) ∷ [])) same
      ∙ scan-go names (flatten bs) [] (word_of k n) 0 (head (length (table_of k bs))) []
      (faultless names [] (word_of k n) (head (length (table_of k bs)))
      (subst (λ (m : ℕ). (m ≡ 1) ⊎ (m ≡ 5)) (sym (kind-word_of k n small)) either, short, subst (λ (m : ℕ). m ≤ names) (sym a) few))
      ∙ ap (λ (ts : List Task). scan names (flatten bs) [] 1 ts) (append-nil (replicate (argument (word_of k n)) name) ∙ ap (λ (m : ℕ). replicate m name) a)
      ∙ good-scan names bs [] 1 g (distinct-unused [] (map key_of bs) d (apart_none (map key_of bs)))

-- and these are its blocks
cut-flat : (names : ℕ) (bs : List (List ℕ)) → All (Good names) bs → cut (length bs) (flatten bs) ≡ bs
unfolding cut flatten
cut-flat names [] g = refl
cut-flat names (b ∷ bs) g =
    let n = good_length names b g.0 (flatten bs) in
    rw (n, take-append_seam b (flatten bs), drop-append_seam b (flatten bs), cut-flat names bs g.1)

pub blocks-table_of : (names k : ℕ) (bs : List (List ℕ)) → All (Good names) bs → length bs < 2 ^ 24 → blocks (table_of k bs) ≡ bs
unfolding blocks table_of
blocks-table_of names k bs g h = ap (λ (n : ℕ). cut n (flatten bs)) (argument-word_of k (length bs) h) ∙ cut-flat names bs g
