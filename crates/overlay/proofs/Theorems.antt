-- Theorems of the join: what it writes is accepted, its blocks are the wish's in the wish's order, and looking a key up in it is looking
-- it up in the two tables. An overlay without blocks gives the base, and a name or a set that no block can have is 47.
use mathlib.Core.Path.{◌≡◌, refl, sym, ap, ap₂, subst, ◌∙◌}
use mathlib.Core.Logic.{◌⊎◌, ⊎_elim}
use mathlib.Core.List.{List, [], ◌∷◌, ◌++◌, map, flatten, map-append, append-nil}
use mathlib.Core.Bool.{Bool, true, false, ◌||◌, ◌&&◌, false≢true}
use Prim.Native.Nat.{ℕ, suc, ◌+◌, ◌≤◌, ◌<◌, ◌^◌}
use native.Mathlib.Decide.{dec_lt}
use native.Mathlib.Omega.{arith}
use borrow.Author.Tests.{eq-eqb, ne_eqb}
use lib.Dec.{eqb}
use lib.ListN.{length, take, drop}
use lib.Seq.{take_at}
use Rattle.table.specs.Words.{narrow, size}
use Rattle.table.specs.Scan.{Outcome, accepted, refused, has, key, narrow_reading}
use Rattle.table.proofs.Distinct.{key-injective}
use Rattle.table.proofs.Limits.{size-le}
use Rattle.table.proofs.TermWords.{argument-lt}
use Rattle.blocks.specs.Blocks.{blocks, table_of, name_of, perms_of, key_of, Good, All, Distinct}
use Rattle.blocks.proofs.Block.{good-name}
use Rattle.blocks.proofs.Keys.{Apart, neither, distinct_append}
use Rattle.blocks.proofs.Narrow.{readable, blocks-good, blocks-distinct, blocks-whole, table-accepted, blocks-table_of}
use Rattle.overlay.specs.Lookup.{tables_read, keyed, Sought, nothing, found, seek, sought, place_of, words_in, looked_up}
use Rattle.overlay.specs.Lookup as lookup
use Rattle.overlay.specs.Join.{replaced, fresh, joined_blocks, joined, written, refusal, join_fault, join_answer, out_after}
use Rattle.overlay.proofs.Refusals.{tables-accepted, both-accepted}
use Rattle.overlay.proofs.Seek.{nothing-not-found, seek-none, seek-yes, seek-no}
use Rattle.overlay.proofs.Places.{looked-found, place_found}
use Rattle.overlay.proofs.Joins.{replaced-own, all-replaced-good, fresh-new, fresh-old, fresh-good, join-refused, join-stopped}
use Rattle.overlay.proofs.Joins.{join_written, fault-48, fault-49, fault-50, no-fault}
use Rattle.overlay.proofs.Picks.{replaced-key, joined-search}

-- ---- the keys of the joined blocks

keys-replaced : (os bs : List (List ℕ)) → map key_of (map (replaced os) bs) ≡ map key_of bs
keys-replaced os [] = refl
keys-replaced os (b ∷ bs) =
    let k = replaced-key os b in
    ap₂ (λ (x : ℕ) (xs : List ℕ). x ∷ xs) (ap₂ key k.0 k.1) (keys-replaced os bs)

-- a key that the search does not find is none of the keys
not_found : (n s at : ℕ) (bs : List (List ℕ)) → s < 2 ^ 24 → seek n s at bs ≡ nothing → has (map key_of bs) (key n s) ≡ false
unfolding has
not_found n s at [] h e = refl
not_found n s at (b ∷ bs) h e = go (keyed n s b) refl (not_found n s (at + length b) bs h)
  where
    go : (x : Bool) → keyed n s b ≡ x → (seek n s (at + length b) bs ≡ nothing → has (map key_of bs) (key n s) ≡ false)
        → (eqb (key_of b) (key n s) || has (map key_of bs) (key n s)) ≡ false
    go true k later = absurd (nothing-not-found (sym e ∙ seek-yes n s at b bs k))
    go false k later =
        let other : eqb (key_of b) (key n s) ≡ false =
        ne_eqb (key_of b) (key n s)
        (λ i.
        let j = key-injective (name_of b) n (perms_of b) s (argument-lt _) h i in
        false≢true (sym k ∙ ap₂ (λ (x y : Bool). x && y) (eq-eqb (name_of b) n j.0) (eq-eqb (perms_of b) s j.1))) in
        rw other (later (sym (seek-no n s at b bs k) ∙ e))

module _ (bs : List (List ℕ)) where
  fresh-apart : (os : List (List ℕ)) → Apart (map key_of bs) (map key_of (fresh bs os))
  unfolding fresh
  fresh-apart [] = tt
  fresh-apart (o ∷ os) = go (seek (name_of o) (perms_of o) 1 bs) refl (fresh-apart os)
    where
      go : (q : Sought) → seek (name_of o) (perms_of o) 1 bs ≡ q → Apart (map key_of bs) (map key_of (fresh bs os))
          → Apart (map key_of bs) (map key_of (fresh bs (o ∷ os)))
      go nothing e r =
          subst (λ (l : List (List ℕ)). Apart (map key_of bs) (map key_of l)) (sym (fresh-new bs o os e))
          (not_found (name_of o) (perms_of o) 1 bs (argument-lt _) e, r)
      go (found a b) e r = subst (λ (l : List (List ℕ)). Apart (map key_of bs) (map key_of l)) (sym (fresh-old bs o os a b e)) r

  fresh-lacks : (os : List (List ℕ)) (k : ℕ) → has (map key_of os) k ≡ false → has (map key_of (fresh bs os)) k ≡ false
  unfolding has fresh
  fresh-lacks [] k h = refl
  fresh-lacks (o ∷ os) k h = go (seek (name_of o) (perms_of o) 1 bs) refl (neither (eqb (key_of o) k) (has (map key_of os) k) h) (fresh-lacks os k)
    where
      go : (q : Sought) → seek (name_of o) (perms_of o) 1 bs ≡ q → (eqb (key_of o) k ≡ false) × (has (map key_of os) k ≡ false)
          → (has (map key_of os) k ≡ false → has (map key_of (fresh bs os)) k ≡ false) → has (map key_of (fresh bs (o ∷ os))) k ≡ false
      go nothing e n r = ap (λ (l : List (List ℕ)). has (map key_of l) k) (fresh-new bs o os e) ∙ rw n.0 (r n.1)
      go (found a b) e n r = ap (λ (l : List (List ℕ)). has (map key_of l) k) (fresh-old bs o os a b e) ∙ r n.1

  fresh-distinct : (os : List (List ℕ)) → Distinct (map key_of os) → Distinct (map key_of (fresh bs os))
  unfolding fresh
  fresh-distinct [] d = tt
  fresh-distinct (o ∷ os) d = go (seek (name_of o) (perms_of o) 1 bs) refl (fresh-distinct os d.1)
    where
      go : (q : Sought) → seek (name_of o) (perms_of o) 1 bs ≡ q → Distinct (map key_of (fresh bs os)) → Distinct (map key_of (fresh bs (o ∷ os)))
      go nothing e r =
          subst (λ (l : List (List ℕ)). Distinct (map key_of l)) (sym (fresh-new bs o os e)) (fresh-lacks os (key_of o) d.0, r)
      go (found a b) e r = subst (λ (l : List (List ℕ)). Distinct (map key_of l)) (sym (fresh-old bs o os a b e)) r

joined-distinct : (bs os : List (List ℕ)) → Distinct (map key_of bs) → Distinct (map key_of os) → Distinct (map key_of (joined_blocks bs os))
joined-distinct bs os d e =
    subst Distinct
    (sym (map-append key_of (map (replaced os) bs) (fresh bs os) ∙ ap (λ (ks : List ℕ). ks ++ map key_of (fresh bs os)) (keys-replaced os bs)))
    (distinct_append (map key_of bs) (map key_of (fresh bs os)) d (fresh-distinct bs os e) (fresh-apart bs os))

all_append : (xs ys : List (List ℕ)) → All (Good narrow) xs → All (Good narrow) ys → All (Good narrow) (xs ++ ys)
all_append [] ys g h = h
all_append (x ∷ xs) ys g h = (g.0, all_append xs ys g.1 h)

joined-good : (bs os : List (List ℕ)) → All (Good narrow) bs → All (Good narrow) os → All (Good narrow) (joined_blocks bs os)
joined-good bs os g h = all_append (map (replaced os) bs) (fresh bs os) (all-replaced-good os h bs g) (fresh-good bs os h)

-- ---- the table without blocks

no-blocks-accepted : narrow_reading (table_of 1 []) ≡ accepted
unfolding table_of flatten
no-blocks-accepted = table-accepted [] tt tt (omega arith) (omega arith)

no_blocks : blocks (table_of 1 []) ≡ []
no_blocks = blocks-table_of [] tt (omega arith)

no-blocks-sought : (n s : ℕ) → sought (table_of 1 []) n s ≡ nothing
no-blocks-sought n s = ap (seek n s 1) no_blocks ∙ seek-none n s 1

-- ---- a join that is written

module _ (base overlay out : List ℕ) (n : ℕ) (e : join_answer base overlay (length out) ≡ written n) where
  not-refused : (k p : ℕ) → join_answer base overlay (length out) ≡ refusal k p → ⊥
  not-refused k p f = let z : ◌≡◌ {A = ℕ} 0 1 = cc in omega arith

  tables-read : tables_read base overlay ≡ accepted
  tables-read = go (tables_read base overlay) refl
    where
      go : (o : Outcome) → tables_read base overlay ≡ o → tables_read base overlay ≡ accepted
      go accepted t = t
      go (refused k p) t = absurd (not-refused k p (join-refused base overlay out k p t))

  abbrev Few : Type 0
  Few = length (joined_blocks (blocks base) (blocks overlay)) ≤ narrow

  abbrev Short : Type 0
  Short = length (joined base overlay) ≤ size

  stops : (k : ℕ) → join_fault base overlay (length out) ≡ suc k → ⊥
  stops k f = not-refused (suc k) 0 (join-stopped base overlay out tables-read k f).0

  few : Few
  few = go (dec_lt narrow (length (joined_blocks (blocks base) (blocks overlay))))
    where
      go : Dec (narrow < length (joined_blocks (blocks base) (blocks overlay))) → Few
      go (yes h) = absurd (stops 47 (fault-48 base overlay (length out) h))
      go (no h) = omega (arith, h)

  short : Short
  short = go (dec_lt size (length (joined base overlay)))
    where
      go : Dec (size < length (joined base overlay)) → Short
      go (yes h) = absurd (stops 48 (fault-49 base overlay (length out) few h))
      go (no h) = omega (arith, h)

  fits : length (joined base overlay) ≤ length out
  fits = go (dec_lt (length out) (length (joined base overlay)))
    where
      go : Dec (length out < length (joined base overlay)) → length (joined base overlay) ≤ length out
      go (yes h) = absurd (stops 49 (fault-50 base overlay (length out) few short h))
      go (no h) = omega (arith, h)

  -- the output is the joined words, and then what it was
  pub joined-written : (n ≡ length (joined base overlay)) × (out_after base overlay out ≡ joined base overlay ++ drop n out)
  joined-written =
      let w = join_written base overlay out tables-read (no-fault base overlay (length out) few short fits) in
      let k : n ≡ length (joined base overlay) = let f = sym e ∙ w.0 in cc in
      (k, w.1 ∙ ap (λ (i : ℕ). joined base overlay ++ drop i out) (sym k))

  -- they are accepted
  pub joined-accepted : narrow_reading (joined base overlay) ≡ accepted
  unfolding joined
  joined-accepted =
      let r = tables-accepted base overlay tables-read in
      table-accepted (joined_blocks (blocks base) (blocks overlay))
      (joined-good (blocks base) (blocks overlay) (blocks-good base r.0) (blocks-good overlay r.1))
      (joined-distinct (blocks base) (blocks overlay) (blocks-distinct base r.0) (blocks-distinct overlay r.1)) few short

  pub joined-few : n ≤ size
  joined-few = omega (arith, joined-written.0, size-le (joined base overlay) (readable (joined base overlay) joined-accepted))

  pub joined_words : (words : List ℕ) → words ≡ out_after base overlay out → take n words ≡ joined base overlay
  joined_words words q =
      let w = joined-written in
      ap (take n) (q ∙ w.1) ∙ take_at (joined base overlay) (drop n out) n (sym w.0)

  -- their blocks are the base's in its order, each replaced where the overlay has its key, then the overlay's new ones in theirs
  pub joined-order : blocks (joined base overlay) ≡ map (replaced (blocks overlay)) (blocks base) ++ fresh (blocks base) (blocks overlay)
  unfolding joined
  joined-order =
      let r = tables-accepted base overlay tables-read in
      let f = few in
      blocks-table_of (joined_blocks (blocks base) (blocks overlay))
      (joined-good (blocks base) (blocks overlay) (blocks-good base r.0) (blocks-good overlay r.1)) (omega arith)

  -- looking a key up in them, with no overlay, is looking it up in the two
  pub joined-lookup : (name perms : ℕ) → looked_up (joined base overlay) (table_of 1 []) name perms ≡ looked_up base overlay name perms
  joined-lookup n s =
      let both = both-accepted (joined base overlay) (table_of 1 []) joined-accepted no-blocks-accepted in
      looked-found (joined base overlay) (table_of 1 []) n s both _ nothing refl (no-blocks-sought n s)
      ∙ ap (λ (bs : List (List ℕ)). words_in (seek n s 1 bs) nothing) joined-order
      ∙ joined-search n s (blocks base) (blocks overlay)
      ∙ sym (looked-found base overlay n s tables-read _ _ refl refl)

-- ---- an overlay without blocks gives the base

none-replaced : (bs : List (List ℕ)) → map (replaced []) bs ≡ bs
none-replaced [] = refl
none-replaced (b ∷ bs) =
    ap₂ (λ (x : List ℕ) (xs : List (List ℕ)). x ∷ xs) (replaced-own [] b (seek-none (name_of b) (perms_of b) 1)) (none-replaced bs)

pub empty-overlay : (base : List ℕ) → narrow_reading base ≡ accepted → joined base (table_of 1 []) ≡ base
unfolding joined fresh
empty-overlay base e =
    ap (λ (os : List (List ℕ)). table_of 1 (joined_blocks (blocks base) os)) no_blocks
    ∙ ap (table_of 1) (append-nil (map (replaced []) (blocks base)) ∙ none-replaced (blocks base))
    ∙ blocks-whole base e

-- ---- a name or a set that no block can have

never : (n s at : ℕ) (bs : List (List ℕ)) → All (λ b. keyed n s b ≡ false) bs → seek n s at bs ≡ nothing
never n s at [] h = seek-none n s at
never n s at (b ∷ bs) h = seek-no n s at b bs h.0 ∙ never n s (at + length b) bs h.1

and-false : (a : Bool) → (a && false) ≡ false
and-false true = refl
and-false false = refl

abbrev NoBlock : ℕ → ℕ → Type 0
NoBlock n s = (narrow ≤ n) ⊎ (2 ^ 24 ≤ s)

not-keyed : (n s : ℕ) → NoBlock n s → (b : List ℕ) → (Good narrow) b → keyed n s b ≡ false
not-keyed n s h b g =
    ⊎_elim
    (λ k.
    let l = good-name narrow b g in
    ap (λ (x : Bool). x && eqb (perms_of b) s) (ne_eqb (name_of b) n (λ e. omega arith)))
    (λ k.
    let l : perms_of b < 2 ^ 24 = argument-lt _ in
    ap (λ (x : Bool). eqb (name_of b) n && x) (ne_eqb (perms_of b) s (λ e. omega arith)) ∙ and-false (eqb (name_of b) n)) h

none-keyed : (n s : ℕ) → NoBlock n s → (bs : List (List ℕ)) → All (Good narrow) bs → All (λ b. keyed n s b ≡ false) bs
none-keyed n s h [] g = tt
none-keyed n s h (b ∷ bs) g = (not-keyed n s h b g.0, none-keyed n s h bs g.1)

pub no-such-block : (base overlay : List ℕ) (name perms : ℕ) → tables_read base overlay ≡ accepted → (narrow ≤ name) ⊎ (2 ^ 24 ≤ perms)
    → place_of base overlay name perms ≡ lookup.refusal 47 0
no-such-block base overlay n s t h =
    let r = tables-accepted base overlay t in
    place_found base overlay n s t nothing nothing (never n s 1 (blocks base) (none-keyed n s h (blocks base) (blocks-good base r.0)))
    (never n s 1 (blocks overlay) (none-keyed n s h (blocks overlay) (blocks-good overlay r.1)))
