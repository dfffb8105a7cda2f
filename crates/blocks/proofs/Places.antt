-- The blocks of a table from a place on.
use mathlib.Core.Path.{◌≡◌, refl, sym, ap, ap₂, ◌∙◌, subst}
use mathlib.Core.Logic.{inl, inr}
use mathlib.Core.List.{List, ◌∷◌}
use Prim.Native.Nat.{ℕ, zero, suc, ◌+◌, ◌-◌, ◌≤◌, ◌<◌}
use native.Mathlib.Nat.{not-suc-le-zero, add-zero}
use native.Mathlib.Numerals.{sub-one}
use native.Mathlib.Omega.{arith}
use lib.ListN.{length, get_or, take, drop, length-drop}
use lib.Seq.{drop-cons, drop-drop, length-take-le}
use Rattle.table.specs.Words.{argument, arity}
use Rattle.table.specs.Scan.{accepted, names_at, reading}
use Rattle.table.specs.Code.{skip, part, end_of, code}
use Rattle.table.proofs.Blocks.{Follows, block, head-word, blocks_at, blocks-first, blocks_end, blocks-next}
use Rattle.blocks.specs.Blocks.{block_length, cut, blocks, places, Good}
use Rattle.blocks.proofs.Tables.{Cuts, table}

-- the block at a place where m blocks are left, and those behind it
pub record Here (names : ℕ) (ws : List ℕ) (m at : ℕ) : Type 0 where
  pub size : ℕ
  pub sized : size ≡ block_length (drop at ws)
  pub long : 3 ≤ size
  pub inside : at + size ≤ length ws
  pub whole : length (take size (drop at ws)) ≡ size
  pub good : Good names (take size (drop at ws))
  pub split : cut m (drop at ws) ≡ take size (drop at ws) ∷ cut (m - 1) (drop (at + size) ws)
  pub rest : Cuts names (m - 1) (drop (at + size) ws)

block-long : (v : List ℕ) → 3 ≤ block_length v
unfolding block_length
block-long v = omega arith

pub here : (names : ℕ) (ws : List ℕ) (m at : ℕ) → 0 < m → at ≤ length ws → Cuts names m (drop at ws) → Here names ws m at
unfolding cut
here names ws zero at p h c = absurd (not-suc-le-zero p)
here names ws (suc m) at p h c =
    let v = drop at ws in
    let k = block_length v in
    let one : suc m - 1 ≡ m = sub-one (suc m) in
    let on : drop k v ≡ drop (at + k) ws = drop-drop k at ws in
    record {
      size = k;
      sized = refl;
      long = block-long v;
      inside = omega (arith, c.0, length-drop at ws);
      whole = length-take-le k v c.0;
      good = c.1;
      split = ap₂ (λ (i : ℕ) (l : List ℕ). take k v ∷ cut i l) (sym one) on;
      rest = subst (λ (i : ℕ). Cuts names i (drop (at + k) ws)) (sym one) (subst (Cuts names m) on c.2);
    }

-- ---- these are the blocks of the code

-- the word after a term, counted in two ways
end-of : (ws : List ℕ) (p : ℕ) → p < length ws → end_of ws p ≡ p + skip (drop p ws) 1
unfolding end_of part skip
end-of ws p h =
    let w = get_or ws p 0 in
    let v = drop (suc p) ws in
    let one : skip (drop p ws) 1 ≡ suc (skip v (arity w + 0)) = ap (λ (l : List ℕ). skip l 1) (drop-cons ws p 0 h) in
    let two : skip v (arity w + 0) ≡ skip v (arity w) = ap (skip v) (add-zero (arity w)) in
    omega arith

block-end : (ws : List ℕ) (at : ℕ) → at + 3 < length ws → end_of ws (at + 3) ≡ at + block_length (drop at ws)
unfolding block_length
block-end ws at h =
    let e = end-of ws (at + 3) h in
    let f = ap (λ (l : List ℕ). skip l 1) (drop-drop 3 at ws) in
    omega arith

module _ (ws : List ℕ) (e : reading ws ≡ accepted) where
  placed : (m at : ℕ) → at ≤ length ws → Cuts (names_at ws) m (drop at ws) → Follows ws at → blocks_at ws e at ≡ places at (cut m (drop at ws))
  unfolding cut places
  placed zero at h c f =
      let l : at ≡ length ws = omega (arith, length-drop at ws, ap length c) in
      ap (blocks_at ws e) l ∙ blocks_end ws e
  placed (suc m) at h c f = go (here (names_at ws) ws (suc m) at (omega arith) h c) f (placed m)
    where
      go : Here (names_at ws) ws (suc m) at → Follows ws at
          → ((q : ℕ) → q ≤ length ws → Cuts (names_at ws) m (drop q ws) → Follows ws q → blocks_at ws e q ≡ places q (cut m (drop q ws)))
          → blocks_at ws e at ≡ places at (cut (suc m) (drop at ws))
      go r (inl l) later = let i = r.inside in let g = r.long in let n : ⊥ = omega arith in absurd n
      go r (inr t) later =
          let b = block ws e at t.0 t.1 in
          let one : suc m - 1 ≡ m = sub-one (suc m) in
          let end : end_of ws (at + 3) ≡ at + r.size = block-end ws at b.inside ∙ ap (λ (k : ℕ). at + k) (sym r.sized) in
          blocks-next ws e at t.0 t.1
          ∙ ap (λ (q : ℕ). at ∷ blocks_at ws e q) end
          ∙ ap (λ (l : List ℕ). at ∷ l)
          (later (at + r.size) r.inside (subst (λ (i : ℕ). Cuts (names_at ws) i (drop (at + r.size) ws)) one r.rest) (subst (Follows ws) end b.follows))
          ∙ ap₂ (λ (k i : ℕ). at ∷ places (at + k) (cut i (drop (at + r.size) ws))) (sym r.whole) (sym one)
          ∙ sym (ap (places at) r.split)

  pub blocks-places : (code ws).blocks ≡ places 1 (blocks ws)
  unfolding code blocks
  blocks-places =
      let t = table ws e in
      blocks-first ws e ∙ placed (argument (get_or ws 0 0)) 1 t.inside t.cuts (head-word ws e).follows
