-- The search for a block, and what it finds.
use mathlib.Core.Path.{◌≡◌, refl, sym, ap, ap₂, ◌∙◌, subst}
use mathlib.Core.List.{List, [], ◌∷◌}
use mathlib.Core.Bool.{Bool, true, false, ◌&&◌}
use Prim.Native.Nat.{ℕ, zero, suc, ◌+◌, ◌-◌, ◌≤◌}
use native.Mathlib.Nat.{add-zero}
use native.Mathlib.Numerals.{sub-one}
use native.Mathlib.Omega.{arith}
use lib.Dec.{eqb}
use lib.ListN.{length, get_or, take, drop}
use lib.Seq.{get_or-drop, get_or-take}
use Rattle.table.specs.Words.{narrow, argument}
use Rattle.table.specs.Scan.{accepted, narrow_reading}
use Rattle.blocks.specs.Blocks.{cut, blocks, All}
use Rattle.blocks.proofs.Tables.{Cuts}
use Rattle.blocks.proofs.Narrow.{table}
use Rattle.blocks.proofs.Places.{Here, here}
use Rattle.overlay.specs.Lookup.{keyed, nothing, found, seek, sought}
use Rattle.overlay.specs.Parts.{part}

-- a block's key, from the words at its place
pub keyed-at : (ws : List ℕ) (at n s : ℕ)
    → keyed n s (drop at ws) ≡ (eqb (argument (get_or ws at 0)) n && eqb (argument (get_or ws (at + 1) 0)) s)
keyed-at ws at n s =
    ap₂ (λ (x y : ℕ). eqb (argument x) n && eqb (argument y) s)
    (get_or-drop at ws 0 0 ∙ ap (λ (i : ℕ). get_or ws i 0) (add-zero at)) (get_or-drop at ws 1 0)

pub nothing-not-found : {a : ℕ} {b : List ℕ} → nothing ≡ found a b → ⊥
nothing-not-found e = let z : ◌≡◌ {A = ℕ} 0 1 = cc in omega arith

module _ (n s : ℕ) where
  pub keyed-take : (k : ℕ) (v : List ℕ) → 3 ≤ k → keyed n s (take k v) ≡ keyed n s v
  keyed-take k v h =
      ap₂ (λ (x y : ℕ). eqb (argument x) n && eqb (argument y) s) (get_or-take k v 0 0 (omega arith)) (get_or-take k v 1 0 (omega arith))

  pub seek-none : (at : ℕ) → seek n s at [] ≡ nothing
  unfolding seek
  seek-none at = refl

  pub seek-yes : (at : ℕ) (b : List ℕ) (bs : List (List ℕ)) → keyed n s b ≡ true → seek n s at (b ∷ bs) ≡ found at b
  unfolding seek
  seek-yes at b bs e = rw (seek, e)

  pub seek-no : (at : ℕ) (b : List ℕ) (bs : List (List ℕ)) → keyed n s b ≡ false → seek n s at (b ∷ bs) ≡ seek n s (at + length b) bs
  unfolding seek
  seek-no at b bs e = rw (seek, e)

  -- what is found is one of the blocks
  pub seek-good : (P : List ℕ → Type 0) (at : ℕ) (bs : List (List ℕ)) → All P bs → (a : ℕ) (b : List ℕ) → seek n s at bs ≡ found a b → P b
  seek-good P at [] g a b e = absurd (nothing-not-found (sym (seek-none at) ∙ e))
  seek-good P at (c ∷ bs) g a b e = go (keyed n s c) refl (seek-good P (at + length c) bs g.1 a b)
    where
      go : (x : Bool) → keyed n s c ≡ x → (seek n s (at + length c) bs ≡ found a b → P b) → P b
      go true k later = let y : c ≡ b = cc (seek-yes at c bs k) in subst P y g.0
      go false k later = later (sym (seek-no at c bs k) ∙ e)

  -- from a place of the table
  module _ (ws : List ℕ) (m at : ℕ) (r : Here narrow ws m at) where
    pub seek-here : keyed n s (drop at ws) ≡ true → seek n s at (cut m (drop at ws)) ≡ found at (take r.size (drop at ws))
    seek-here e =
        ap (seek n s at) r.split ∙ seek-yes at _ _ (keyed-take r.size (drop at ws) r.long ∙ e)

    pub seek-on : keyed n s (drop at ws) ≡ false → seek n s at (cut m (drop at ws)) ≡ seek n s (at + r.size) (cut (m - 1) (drop (at + r.size) ws))
    seek-on e =
        ap (seek n s at) r.split
        ∙ seek-no at _ _ (keyed-take r.size (drop at ws) r.long ∙ e)
        ∙ ap (λ (k : ℕ). seek n s (at + k) (cut (m - 1) (drop (at + r.size) ws))) r.whole

  -- what is found is a part of the table
  abbrev Part : List ℕ → ℕ → List ℕ → Type 0
  Part ws a b = (a + length b ≤ length ws) × (take (length b) (drop a ws) ≡ b)

  seek-part : (ws : List ℕ) (m at a : ℕ) (b : List ℕ) → at ≤ length ws → Cuts narrow m (drop at ws)
      → seek n s at (cut m (drop at ws)) ≡ found a b → Part ws a b
  unfolding cut
  seek-part ws zero at a b h c e = absurd (nothing-not-found (sym (seek-none at) ∙ e))
  seek-part ws (suc m) at a b h c e = go (here narrow ws (suc m) at (omega arith) h c) (keyed n s (drop at ws)) refl (λ q. seek-part ws m q a b)
    where
      go : Here narrow ws (suc m) at → (x : Bool) → keyed n s (drop at ws) ≡ x
          → ((q : ℕ) → q ≤ length ws → Cuts narrow m (drop q ws) → seek n s q (cut m (drop q ws)) ≡ found a b → Part ws a b) → Part ws a b
      go r true k later =
          let f = sym e ∙ seek-here ws (suc m) at r k in
          let x : a ≡ at = cc in
          let y : b ≡ take r.size (drop at ws) = cc in
          let l : length b ≡ r.size = ap length y ∙ r.whole in
          (omega arith, ap₂ (λ (i j : ℕ). take i (drop j ws)) l x ∙ sym y)
      go r false k later =
          let one : suc m - 1 ≡ m = sub-one (suc m) in
          later (at + r.size) r.inside (subst (λ (i : ℕ). Cuts narrow i (drop (at + r.size) ws)) one r.rest)
          (sym (seek-on ws (suc m) at r k ∙ ap (λ (i : ℕ). seek n s (at + r.size) (cut i (drop (at + r.size) ws))) one) ∙ e)

  pub sought-part : (ws : List ℕ) → narrow_reading ws ≡ accepted → (a : ℕ) (b : List ℕ) → sought ws n s ≡ found a b
      → (a + length b ≤ length ws) × (part a (a + length b) ws ≡ b)
  unfolding blocks
  sought-part ws r a b e =
      let t = table ws r in
      let f = seek-part ws (argument (get_or ws 0 0)) 1 a b t.inside t.cuts e in
      (f.0, ap (λ (k : ℕ). take k (drop a ws)) (let k : a + length b - a ≡ length b = omega arith in k) ∙ f.1)
