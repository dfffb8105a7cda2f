-- The joined blocks, by what each block of the two tables gives, and the answers of a join.
use mathlib.Core.Path.{◌≡◌, refl, sym, ap, ap₂, subst, ◌∙◌}
use mathlib.Core.List.{List, [], ◌∷◌, ◌++◌, map, flatten, append_assoc}
use mathlib.Core.Bool.{true, false}
use Prim.Native.Nat.{ℕ, suc, ◌+◌, ◌≤◌, ◌<◌}
use native.Mathlib.Omega.{arith}
use borrow.Author.Tests.{lt-ltb, le-ltb}
use lib.ListN.{length, take, drop, set, length-append}
use lib.Seq.{paste, take-length, take-append_seam}
use Rattle.table.specs.Words.{word_of, narrow, size}
use Rattle.table.specs.Scan.{accepted, refused, narrow_reading}
use Rattle.table.proofs.read.Steps.{hit, miss, none}
use Rattle.blocks.specs.Blocks.{blocks, table_of, name_of, perms_of, Good, All}
use Rattle.blocks.proofs.Block.{good-long}
use Rattle.blocks.proofs.Narrow.{blocks-good}
use Rattle.overlay.specs.declared.join.Put.{Put}
use Rattle.overlay.specs.Lookup.{tables_read, Sought, nothing, found, seek}
use Rattle.overlay.specs.Join.{replaced, fresh, joined_blocks, joined, written, refusal, join_fault, join_answer, out_after}
use Rattle.overlay.specs.Parts.{given, some, AppendedTo, PutTo}
use Rattle.overlay.proofs.Seek.{seek-good}
use Rattle.overlay.proofs.Given.{given-own, given-none, given-other}
use Rattle.overlay.proofs.Appended.{appended-as, appended-on, some_more}

pub flatten-append : (xs ys : List (List ℕ)) → flatten (xs ++ ys) ≡ flatten xs ++ flatten ys
unfolding flatten
flatten-append [] ys = refl
flatten-append (x ∷ xs) ys = ap (λ (l : List ℕ). x ++ l) (flatten-append xs ys) ∙ sym (append_assoc x (flatten xs) (flatten ys))

-- ---- the base's blocks

module _ (os : List (List ℕ)) where
  pub replaced-own : (b : List ℕ) → seek (name_of b) (perms_of b) 1 os ≡ nothing → replaced os b ≡ b
  unfolding replaced
  replaced-own b e = rw (replaced, e)

  pub replaced-other : (b : List ℕ) (a : ℕ) (o : List ℕ) → seek (name_of b) (perms_of b) 1 os ≡ found a o → replaced os b ≡ o
  unfolding replaced
  replaced-other b a o e = rw (replaced, e)

  given-replaced : (b : List ℕ) → given false os b ≡ replaced os b
  given-replaced b = go (seek (name_of b) (perms_of b) 1 os) refl
    where
      go : (q : Sought) → seek (name_of b) (perms_of b) 1 os ≡ q → given false os b ≡ replaced os b
      go nothing e = given-own os b false e ∙ sym (replaced-own b e)
      go (found a o) e = given-other os b a o e ∙ sym (replaced-other b a o e)

  pub all-replaced : (bs : List (List ℕ)) → map (given false os) bs ≡ map (replaced os) bs
  all-replaced [] = refl
  all-replaced (b ∷ bs) = ap₂ (λ (x : List ℕ) (y : List (List ℕ)). x ∷ y) (given-replaced b) (all-replaced bs)

  pub replaced-good : All (Good narrow) os → (b : List ℕ) → (Good narrow) b → (Good narrow) (replaced os b)
  replaced-good h b g = go (seek (name_of b) (perms_of b) 1 os) refl
    where
      go : (q : Sought) → seek (name_of b) (perms_of b) 1 os ≡ q → (Good narrow) (replaced os b)
      go nothing e = subst (Good narrow) (sym (replaced-own b e)) g
      go (found a o) e = subst (Good narrow) (sym (replaced-other b a o e)) (seek-good (name_of b) (perms_of b) (Good narrow) 1 os h a o e)

  pub all-replaced-good : All (Good narrow) os → (bs : List (List ℕ)) → All (Good narrow) bs → All (Good narrow) (map (replaced os) bs)
  all-replaced-good h [] g = tt
  all-replaced-good h (b ∷ bs) g = (replaced-good h b g.0, all-replaced-good h bs g.1)

-- good blocks have words
pub some_good : (bs : List (List ℕ)) → All (Good narrow) bs → some bs ≡ length bs
unfolding some
some_good [] g = refl
some_good (b ∷ bs) g = let l = good-long narrow b g.0 in some_more b bs (omega arith) ∙ ap suc (some_good bs g.1)

-- ---- the overlay's new blocks

module _ (bs : List (List ℕ)) where
  pub fresh-new : (o : List ℕ) (os : List (List ℕ)) → seek (name_of o) (perms_of o) 1 bs ≡ nothing → fresh bs (o ∷ os) ≡ o ∷ fresh bs os
  unfolding fresh
  fresh-new o os e = rw (fresh, e)

  pub fresh-old : (o : List ℕ) (os : List (List ℕ)) (a : ℕ) (b : List ℕ) → seek (name_of o) (perms_of o) 1 bs ≡ found a b → fresh bs (o ∷ os) ≡ fresh bs os
  unfolding fresh
  fresh-old o os a b e = rw (fresh, e)

  pub fresh-good : (os : List (List ℕ)) → All (Good narrow) os → All (Good narrow) (fresh bs os)
  unfolding fresh
  fresh-good [] g = tt
  fresh-good (o ∷ os) g = go (seek (name_of o) (perms_of o) 1 bs) refl (fresh-good os g.1)
    where
      go : (q : Sought) → seek (name_of o) (perms_of o) 1 bs ≡ q → All (Good narrow) (fresh bs os) → All (Good narrow) (fresh bs (o ∷ os))
      go nothing e r = subst (All (Good narrow)) (sym (fresh-new o os e)) (g.0, r)
      go (found a b) e r = subst (All (Good narrow)) (sym (fresh-old o os a b e)) r

  abbrev Fresh : List (List ℕ) → Type 0
  Fresh os = (flatten (map (given true bs) os) ≡ flatten (fresh bs os)) × (some (map (given true bs) os) ≡ length (fresh bs os))

  pub all-fresh : (os : List (List ℕ)) → All (Good narrow) os → Fresh os
  unfolding flatten some fresh
  all-fresh [] g = (refl, refl)
  all-fresh (o ∷ os) g = go (seek (name_of o) (perms_of o) 1 bs) refl (all-fresh os g.1)
    where
      go : (q : Sought) → seek (name_of o) (perms_of o) 1 bs ≡ q → Fresh os → Fresh (o ∷ os)
      go nothing e r =
          let f = fresh-new o os e in
          let w = given-own bs o true e in
          let l = good-long narrow o g.0 in (
            ap₂ (λ (x y : List ℕ). x ++ y) w r.0 ∙ sym (ap flatten f),
            ap (λ (x : List ℕ). some (x ∷ map (given true bs) os)) w
                ∙ some_more o (map (given true bs) os) (omega arith)
                ∙ ap suc r.1
                ∙ sym (ap length f),
          )
      go (found a b) e r =
          let f = fresh-old o os a b e in
          let w = given-none bs o a b e in (
            ap₂ (λ (x y : List ℕ). x ++ y) w r.0 ∙ sym (ap flatten f),
            ap (λ (x : List ℕ). some (x ∷ map (given true bs) os)) w ∙ r.1 ∙ sym (ap length f),
          )

-- ---- the answers

module _ (base overlay : List ℕ) where
  module _ (out : List ℕ) (k p : ℕ) (e : tables_read base overlay ≡ refused k p) where
    pub join-refused : join_answer base overlay (length out) ≡ refusal k p
    unfolding join_answer
    join-refused = rw (join_answer, e)

    pub out-refused : out_after base overlay out ≡ out
    unfolding out_after
    out-refused = rw (out_after, join-refused)

  module _ (out : List ℕ) (t : tables_read base overlay ≡ accepted) where
    pub join-stopped : (n : ℕ) → join_fault base overlay (length out) ≡ suc n
        → (join_answer base overlay (length out) ≡ refusal (suc n) 0) × (out_after base overlay out ≡ out)
    unfolding join_answer out_after
    join-stopped n e =
        let a : join_answer base overlay (length out) ≡ refusal (suc n) 0 = rw (join_answer, t, e) in
        (a, rw (out_after, a))

    pub join_written : join_fault base overlay (length out) ≡ 0
        → (join_answer base overlay (length out) ≡ written (length (joined base overlay)))
        × (out_after base overlay out ≡ joined base overlay ++ drop (length (joined base overlay)) out)
    unfolding join_answer out_after
    join_written e =
        let a : join_answer base overlay (length out) ≡ written (length (joined base overlay)) = rw (join_answer, t, e) in
        (a, rw (out_after, a))

  -- which number refuses a join
  module _ (room : ℕ) where
    abbrev pub count : ℕ
    count = length (joined_blocks (blocks base) (blocks overlay))

    abbrev pub words : ℕ
    words = length (joined base overlay)

    pub fault-48 : narrow < count → join_fault base overlay room ≡ 48
    unfolding join_fault
    fault-48 h = hit _ 48 _ (lt-ltb narrow count h)

    module _ (few : count ≤ narrow) where
      pub fault-49 : size < words → join_fault base overlay room ≡ 49
      unfolding join_fault
      fault-49 h = miss _ 48 _ (le-ltb narrow count few) ∙ hit _ 49 _ (lt-ltb size words h)

      module _ (short : words ≤ size) where
        pub fault-50 : room < words → join_fault base overlay room ≡ 50
        unfolding join_fault
        fault-50 h = miss _ 48 _ (le-ltb narrow count few) ∙ miss _ 49 _ (le-ltb size words short) ∙ hit _ 50 _ (lt-ltb room words h)

        pub no-fault : words ≤ room → join_fault base overlay room ≡ 0
        unfolding join_fault
        no-fault h =
            miss _ 48 _ (le-ltb narrow count few)
            ∙ miss _ 49 _ (le-ltb size words short)
            ∙ miss _ 50 _ (le-ltb room words h)
            ∙ none

-- ---- the joined words, written by the blocks of the base and then those of the overlay behind a word 0

headed : (z f : List ℕ) (w e : ℕ) → 0 < length z → e ≡ 1 + length f → take e (set (paste z 1 f (length f)) 0 w) ≡ w ∷ f
headed [] f w e h l = let n : ⊥ = omega arith in absurd n
headed (x ∷ z) f w e h l =
    let rest = drop (1 + length f) (x ∷ z) in
    let long : e ≡ suc (length f) = omega arith in
    ap (λ (i : ℕ). take i (w ∷ take (length f) f ++ rest)) long
    ∙ ap (λ (v : List ℕ). w ∷ take (length f) (v ++ rest)) (take-length f)
    ∙ ap (λ (v : List ℕ). w ∷ v) (take-append_seam f rest)

module _ (base overlay : List ℕ) where
  abbrev blocks-joined : List (List ℕ)
  blocks-joined = joined_blocks (blocks base) (blocks overlay)

  pub record Ready (before after : List ℕ) (count end : ℕ) : Type 0 where
    pub counted : count ≡ length (joined_blocks (blocks base) (blocks overlay))
    pub ended : end ≡ length (joined base overlay)
    pub listed : end ≤ length before → take end (set after 0 (word_of 1 count)) ≡ joined base overlay

  pub ready : narrow_reading base ≡ accepted → narrow_reading overlay ≡ accepted → {first second : Put} {z z' z'' : List ℕ} → 0 < length z
      → length z' ≡ length z → PutTo 1 (map (given false (blocks overlay)) (blocks base)) z z' first
      → PutTo first.end (map (given true (blocks base)) (blocks overlay)) z' z'' second
      → Ready z z'' (first.count + second.count) second.end
  unfolding joined table_of
  ready ba oa {first} {second} {z} {z'} {z''} some-room kept one two =
      let bs = blocks base in
      let os = blocks overlay in
      let old = all-replaced os bs in
      let new = all-fresh bs os (blocks-good overlay oa) in
      let olds : some (map (given false os) bs) ≡ length (map (replaced os) bs) =
      ap some old ∙ some_good (map (replaced os) bs) (all-replaced-good os (blocks-good overlay oa) bs (blocks-good base ba)) in
      let counted : first.count + second.count ≡ length blocks-joined =
      ap₂ (λ (i j : ℕ). i + j) (one.counts ∙ olds) (two.counts ∙ new.1) ∙ sym (length-append (map (replaced os) bs) (fresh bs os)) in
      let flat : flatten blocks-joined ≡ flatten (map (given false os) bs) ++ flatten (map (given true bs) os) =
      flatten-append (map (replaced os) bs) (fresh bs os) ∙ ap₂ (λ (x y : List ℕ). x ++ y) (ap flatten (sym old)) (sym new.0) in
      let all : AppendedTo 1 (flatten blocks-joined) z z'' second.end = appended-as flat (appended-on kept one.appended two.appended) in
      record {
        counted = counted;
        ended = let k = all.ends in omega arith;
        listed = λ h.
            ap (λ (v : List ℕ). take second.end (set v 0 (word_of 1 (first.count + second.count)))) (all.written h)
            ∙ headed z (flatten blocks-joined) _ second.end some-room all.ends
            ∙ ap (λ (i : ℕ). word_of 1 i ∷ flatten blocks-joined) counted;
      }

  -- what a join answers where the two tables are accepted, by what was written to the buffer
  module _ {before after : List ℕ} {count end : ℕ} (r : Ready before after count end) (out : List ℕ) (t : tables_read base overlay ≡ accepted) where
    abbrev Stopped : ℕ → Type 0
    Stopped k = (refusal k 0 ≡ join_answer base overlay (length out)) × (out ≡ out_after base overlay out)

    stopped : (n : ℕ) → join_fault base overlay (length out) ≡ suc n → Stopped (suc n)
    stopped n e = let q = join-stopped base overlay out t n e in (sym q.0, sym q.1)

    pub too-many-handlers : narrow < count → Stopped 48
    too-many-handlers h = stopped 47 (fault-48 base overlay (length out) (subst (λ (n : ℕ). narrow < n) r.counted h))

    module _ (few : count ≤ narrow) where
      few-joined : length (joined_blocks (blocks base) (blocks overlay)) ≤ narrow
      few-joined = subst (λ (n : ℕ). n ≤ narrow) r.counted few

      pub too-many-words : size < end → Stopped 49
      too-many-words h = stopped 48 (fault-49 base overlay (length out) few-joined (subst (λ (n : ℕ). size < n) r.ended h))

      module _ (short : end ≤ size) where
        short-joined : length (joined base overlay) ≤ size
        short-joined = subst (λ (n : ℕ). n ≤ size) r.ended short

        pub short-output : length out < end → Stopped 50
        short-output h = stopped 49 (fault-50 base overlay (length out) few-joined short-joined (subst (λ (n : ℕ). length out < n) r.ended h))

        pub all-written : end ≤ length out
            → (written end ≡ join_answer base overlay (length out))
            × (joined base overlay ++ drop (length (joined base overlay)) out ≡ out_after base overlay out)
        all-written h =
            let fits = subst (λ (n : ℕ). n ≤ length out) r.ended h in
            let q = join_written base overlay out t (no-fault base overlay (length out) few-joined short-joined fits) in
            (ap written r.ended ∙ sym q.0, sym q.1)
