-- The block with a key, wherever it stands: looking it up in the joined blocks is looking it up in those of the overlay, then of the base.
use mathlib.Core.Path.{◌≡◌, refl, sym, ap, ap₂, subst, ◌∙◌}
use mathlib.Core.List.{List, [], ◌∷◌, ◌++◌, map}
use mathlib.Core.Bool.{Bool, true, false, ◌&&◌, false≢true}
use Prim.Native.Nat.{ℕ, ◌+◌}
use borrow.Author.Tests.{eqb-true}
use lib.Dec.{eqb}
use lib.ListN.{length}
use Rattle.blocks.specs.Blocks.{name_of, perms_of}
use Rattle.overlay.specs.Lookup.{keyed, Sought, nothing, found, seek, words_in}
use Rattle.overlay.specs.Join.{replaced, fresh, joined_blocks}
use Rattle.overlay.proofs.Seek.{nothing-not-found, seek-none, seek-yes, seek-no}
use Rattle.overlay.proofs.Joins.{replaced-own, replaced-other, fresh-new, fresh-old}

-- a block with a key has that name and that permission set
pub keyed-is : (n s : ℕ) (b : List ℕ) → keyed n s b ≡ true → (name_of b ≡ n) × (perms_of b ≡ s)
keyed-is n s b e = go (eqb (name_of b) n) (eqb (perms_of b) s) refl refl e
  where
    go : (x y : Bool) → eqb (name_of b) n ≡ x → eqb (perms_of b) s ≡ y → (x && y) ≡ true → (name_of b ≡ n) × (perms_of b ≡ s)
    go true true p q h = (eqb-true (name_of b) n p, eqb-true (perms_of b) s q)
    go true false p q h = absurd (false≢true h)
    go false y p q h = absurd (false≢true h)

-- what is found has the key
pub seek-keyed : (n s at : ℕ) (bs : List (List ℕ)) (a : ℕ) (b : List ℕ) → seek n s at bs ≡ found a b → keyed n s b ≡ true
seek-keyed n s at [] a b e = absurd (nothing-not-found (sym (seek-none n s at) ∙ e))
seek-keyed n s at (c ∷ bs) a b e = go (keyed n s c) refl (seek-keyed n s (at + length c) bs a b)
  where
    go : (x : Bool) → keyed n s c ≡ x → (seek n s (at + length c) bs ≡ found a b → keyed n s b ≡ true) → keyed n s b ≡ true
    go true k later = let y : c ≡ b = cc (seek-yes n s at c bs k) in subst (λ (v : List ℕ). keyed n s v ≡ true) y k
    go false k later = later (sym (seek-no n s at c bs k) ∙ e)

-- a block that replaces another has its name and its permission set
pub replaced-key : (os : List (List ℕ)) (b : List ℕ) → (name_of (replaced os b) ≡ name_of b) × (perms_of (replaced os b) ≡ perms_of b)
replaced-key os b = go (seek (name_of b) (perms_of b) 1 os) refl
  where
    go : (q : Sought) → seek (name_of b) (perms_of b) 1 os ≡ q → (name_of (replaced os b) ≡ name_of b) × (perms_of (replaced os b) ≡ perms_of b)
    go nothing e = let r = replaced-own os b e in (ap name_of r, ap perms_of r)
    go (found a o) e =
        let r = replaced-other os b a o e in
        let k = keyed-is (name_of b) (perms_of b) o (seek-keyed (name_of b) (perms_of b) 1 os a o e) in
        (ap name_of r ∙ k.0, ap perms_of r ∙ k.1)

-- and the searches for two keys that are the same find the same
same-search : (n s : ℕ) (b : List ℕ) (bs : List (List ℕ)) → keyed n s b ≡ true → seek (name_of b) (perms_of b) 1 bs ≡ seek n s 1 bs
same-search n s b bs k = let i = keyed-is n s b k in ap₂ (λ (x y : ℕ). seek x y 1 bs) i.0 i.1

-- what is found, its place aside
abbrev bare : Sought → Sought
bare nothing = nothing
bare (found a b) = found 0 b

-- the first of two that is found
abbrev or : Sought → Sought → Sought
or nothing q = q
or (found a b) q = found a b

module _ (n s : ℕ) where
  unfoldable pick : List (List ℕ) → Sought
  pick [] = nothing
  pick (b ∷ bs) = elim (keyed n s b) [ true ↦ found 0 b | false ↦ pick bs ]

  pick_yes : (b : List ℕ) (bs : List (List ℕ)) → keyed n s b ≡ true → pick (b ∷ bs) ≡ found 0 b
  unfolding pick
  pick_yes b bs e = rw (pick, e)

  pick_no : (b : List ℕ) (bs : List (List ℕ)) → keyed n s b ≡ false → pick (b ∷ bs) ≡ pick bs
  unfolding pick
  pick_no b bs e = rw (pick, e)

  seek-pick : (at : ℕ) (bs : List (List ℕ)) → bare (seek n s at bs) ≡ pick bs
  unfolding pick
  seek-pick at [] = ap bare (seek-none n s at)
  seek-pick at (b ∷ bs) = go (keyed n s b) refl (seek-pick (at + length b) bs)
    where
      go : (x : Bool) → keyed n s b ≡ x → bare (seek n s (at + length b) bs) ≡ pick bs → bare (seek n s at (b ∷ bs)) ≡ pick (b ∷ bs)
      go true k later = ap bare (seek-yes n s at b bs k) ∙ sym (pick_yes b bs k)
      go false k later = ap bare (seek-no n s at b bs k) ∙ later ∙ sym (pick_no b bs k)

  pick-append : (xs ys : List (List ℕ)) → pick (xs ++ ys) ≡ or (pick xs) (pick ys)
  unfolding pick
  pick-append [] ys = refl
  pick-append (b ∷ bs) ys = go (keyed n s b) refl (pick-append bs ys)
    where
      go : (x : Bool) → keyed n s b ≡ x → pick (bs ++ ys) ≡ or (pick bs) (pick ys) → pick (b ∷ (bs ++ ys)) ≡ or (pick (b ∷ bs)) (pick ys)
      go true k later = pick_yes b (bs ++ ys) k ∙ sym (ap (λ (q : Sought). or q (pick ys)) (pick_yes b bs k))
      go false k later = pick_no b (bs ++ ys) k ∙ later ∙ sym (ap (λ (q : Sought). or q (pick ys)) (pick_no b bs k))

  bare-nothing : (q : Sought) → bare q ≡ nothing → q ≡ nothing
  bare-nothing nothing e = refl
  bare-nothing (found a b) e = absurd (nothing-not-found (sym e))

  -- where the base has the key
  abbrev replacing : Sought → Sought → Sought
  replacing o nothing = nothing
  replacing o (found a b) = or o (found a b)

  pick-replaced : (os bs : List (List ℕ)) → pick (map (replaced os) bs) ≡ replacing (pick os) (pick bs)
  unfolding pick
  pick-replaced os [] = refl
  pick-replaced os (b ∷ bs) = go (keyed n s b) refl (seek n s 1 os) refl (pick-replaced os bs)
    where
      same : keyed n s (replaced os b) ≡ keyed n s b
      same = let r = replaced-key os b in ap₂ (λ (x y : ℕ). eqb x n && eqb y s) r.0 r.1

      go : (x : Bool) → keyed n s b ≡ x → (q : Sought) → seek n s 1 os ≡ q → pick (map (replaced os) bs) ≡ replacing (pick os) (pick bs)
          → pick (replaced os b ∷ map (replaced os) bs) ≡ replacing (pick os) (pick (b ∷ bs))
      go true k nothing e later =
          pick_yes (replaced os b) (map (replaced os) bs) (same ∙ k)
          ∙ ap (found 0) (replaced-own os b (same-search n s b os k ∙ e))
          ∙ sym (ap₂ replacing (sym (seek-pick 1 os) ∙ ap bare e) (pick_yes b bs k))
      go true k (found a o) e later =
          pick_yes (replaced os b) (map (replaced os) bs) (same ∙ k)
          ∙ ap (found 0) (replaced-other os b a o (same-search n s b os k ∙ e))
          ∙ sym (ap₂ replacing (sym (seek-pick 1 os) ∙ ap bare e) (pick_yes b bs k))
      go false k q e later =
          pick_no (replaced os b) (map (replaced os) bs) (same ∙ k) ∙ later ∙ sym (ap (replacing (pick os)) (pick_no b bs k))

  -- where it has not
  pick-fresh : (bs os : List (List ℕ)) → pick bs ≡ nothing → pick (fresh bs os) ≡ pick os
  unfolding pick fresh
  pick-fresh bs [] h = refl
  pick-fresh bs (o ∷ os) h = go (keyed n s o) refl (seek (name_of o) (perms_of o) 1 bs) refl (pick-fresh bs os h)
    where
      go : (x : Bool) → keyed n s o ≡ x → (q : Sought) → seek (name_of o) (perms_of o) 1 bs ≡ q → pick (fresh bs os) ≡ pick os
          → pick (fresh bs (o ∷ os)) ≡ pick (o ∷ os)
      go true k nothing e later = ap pick (fresh-new bs o os e) ∙ pick_yes o (fresh bs os) k ∙ sym (pick_yes o os k)
      go false k nothing e later = ap pick (fresh-new bs o os e) ∙ pick_no o (fresh bs os) k ∙ later ∙ sym (pick_no o os k)
      go true k (found a b) e later =
          absurd (nothing-not-found (sym (bare-nothing (seek n s 1 bs) (seek-pick 1 bs ∙ h)) ∙ sym (same-search n s o bs k) ∙ e))
      go false k (found a b) e later = ap pick (fresh-old bs o os a b e) ∙ later ∙ sym (pick_no o os k)

  or_nothing : (q : Sought) → q ≡ or q nothing
  or_nothing nothing = refl
  or_nothing (found a b) = refl

  or-found : (q r : Sought) (a : ℕ) (b : List ℕ) → or (or q (found a b)) r ≡ or q (found a b)
  or-found nothing r a b = refl
  or-found (found c o) r a b = refl

  pick-joined : (bs os : List (List ℕ)) → pick (joined_blocks bs os) ≡ or (pick os) (pick bs)
  pick-joined bs os =
      pick-append (map (replaced os) bs) (fresh bs os) ∙ ap (λ (q : Sought). or q (pick (fresh bs os))) (pick-replaced os bs) ∙ go (pick bs) refl
    where
      go : (p : Sought) → pick bs ≡ p → or (replacing (pick os) (pick bs)) (pick (fresh bs os)) ≡ or (pick os) (pick bs)
      go nothing e =
          ap (λ (q : Sought). or (replacing (pick os) q) (pick (fresh bs os))) e
          ∙ pick-fresh bs os e
          ∙ or_nothing (pick os)
          ∙ sym (ap (or (pick os)) e)
      go (found a b) e =
          ap (λ (q : Sought). or (replacing (pick os) q) (pick (fresh bs os))) e
          ∙ or-found (pick os) (pick (fresh bs os)) a b
          ∙ sym (ap (or (pick os)) e)

  words-bare : (q : Sought) → words_in q nothing ≡ words_in (bare q) nothing
  words-bare nothing = refl
  words-bare (found a b) = refl

  words-or : (q r : Sought) → words_in q r ≡ words_in (or (bare r) (bare q)) nothing
  words-or nothing nothing = refl
  words-or (found a b) nothing = refl
  words-or nothing (found a b) = refl
  words-or (found c o) (found a b) = refl

  -- the words of a key in the joined blocks
  pub joined-search : (bs os : List (List ℕ)) → words_in (seek n s 1 (joined_blocks bs os)) nothing ≡ words_in (seek n s 1 bs) (seek n s 1 os)
  joined-search bs os =
      words-bare (seek n s 1 (joined_blocks bs os))
      ∙ ap (λ (q : Sought). words_in q nothing)
      (seek-pick 1 (joined_blocks bs os) ∙ pick-joined bs os ∙ sym (ap₂ or (seek-pick 1 os) (seek-pick 1 bs)))
      ∙ sym (words-or (seek n s 1 bs) (seek n s 1 os))
