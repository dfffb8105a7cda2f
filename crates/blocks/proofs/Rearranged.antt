-- Any rearrangement of the blocks of an accepted table is accepted too.
use mathlib.Core.Path.{◌≡◌, refl, sym, ap, ap₂, subst, ◌∙◌}
use mathlib.Core.List.{List, ◌++◌, map, flatten, Permᴰ}
use mathlib.Core.Bool.{Bool, true, false, ◌||◌}
use Prim.Native.Nat.{ℕ, suc, ◌+◌}
use native.Mathlib.Omega.{arith}
use borrow.Author.Tests.{eqb-false, ne_eqb}
use lib.Dec.{eqb}
use lib.ListN.{length, get_or, length-append}
use Rattle.table.specs.Words.{kind, word_of, names_of}
use Rattle.table.specs.Scan.{accepted, has, names_at, reading}
use Rattle.table.proofs.TermWords.{kind-word_of}
use Rattle.table.proofs.Widths.{names-most}
use Rattle.blocks.specs.Blocks.{blocks, table_of, key_of, Good, All, Distinct}
use Rattle.blocks.proofs.Keys.{neither}
use Rattle.blocks.proofs.Tables.{table, blocks-good, blocks-distinct, blocks-few, blocks-whole, table-accepted, blocks-table_of}

or_swap : (a b c : Bool) → (a || (b || c)) ≡ (b || (a || c))
or_swap true true c = refl
or_swap true false c = refl
or_swap false true c = refl
or_swap false false c = refl

-- ---- keys

keys-same : {ks ls : List ℕ} (k : ℕ) → Permᴰ ks ls → has ks k ≡ has ls k
unfolding has
keys-same k Permᴰ.nil = refl
keys-same k (Permᴰ.cons e p) = ap₂ (λ (x : ℕ) (b : Bool). eqb x k || b) e (keys-same k p)
keys-same k (Permᴰ.swap {a} {b} {l = l} e f) =
    or_swap (eqb a k) (eqb b k) (has l k) ∙ ap₂ (λ (x y : ℕ). eqb y k || (eqb x k || has l k)) e f
keys-same k (Permᴰ.trans p q) = keys-same k p ∙ keys-same k q

keys-distinct : {ks ls : List ℕ} → Permᴰ ks ls → Distinct ks → Distinct ls
unfolding has
keys-distinct Permᴰ.nil d = d
keys-distinct (Permᴰ.cons {a} {b} {l₂ = l} e p) d =
    (ap (has l) (sym e) ∙ sym (keys-same a p) ∙ d.0, keys-distinct p d.1)
keys-distinct (Permᴰ.swap {a} {b} {l = l} e f) d =
    let n = neither (eqb b a) (has l a) d.0 in
    let m : eqb a b ≡ false = ne_eqb a b (λ i. eqb-false b a n.0 (sym i)) in (
      ap₂ (λ (x y : ℕ). eqb x y || has l y) (sym e) (sym f) ∙ rw m d.1.0,
      (ap (has l) (sym e) ∙ n.1, d.1.1),
    )
keys-distinct (Permᴰ.trans p q) d = keys-distinct q (keys-distinct p d)

-- ---- blocks

keys_of : {bs cs : List (List ℕ)} → Permᴰ bs cs → Permᴰ (map key_of bs) (map key_of cs)
keys_of Permᴰ.nil = Permᴰ.nil
keys_of (Permᴰ.cons e p) = Permᴰ.cons (ap key_of e) (keys_of p)
keys_of (Permᴰ.swap e f) = Permᴰ.swap (ap key_of e) (ap key_of f)
keys_of (Permᴰ.trans p q) = Permᴰ.trans (keys_of p) (keys_of q)

still-good : (names : ℕ) {bs cs : List (List ℕ)} → Permᴰ bs cs → All (Good names) bs → All (Good names) cs
still-good names Permᴰ.nil g = g
still-good names (Permᴰ.cons e p) g = (subst (Good names) e g.0, still-good names p g.1)
still-good names (Permᴰ.swap e f) g = (subst (Good names) f g.1.0, (subst (Good names) e g.0, g.1.1))
still-good names (Permᴰ.trans p q) g = still-good names q (still-good names p g)

-- as many blocks, and as many words
same_size : {bs cs : List (List ℕ)} → Permᴰ bs cs → (length bs ≡ length cs) × (length (flatten bs) ≡ length (flatten cs))
unfolding flatten
same_size Permᴰ.nil = (refl, refl)
same_size (Permᴰ.cons {a} {b} {l₁ = xs} {l₂ = ys} e p) =
    let s = same_size p in
    (ap suc s.0, length-append a (flatten xs) ∙ ap₂ (λ (x : List ℕ) (n : ℕ). length x + n) e s.1 ∙ sym (length-append b (flatten ys)))
same_size (Permᴰ.swap {a} {b} {a'} {b'} {l = l} e f) =
    let x = ap length e in
    let y = ap length f in (
      refl,
      omega (arith, length-append a (b ++ flatten l), length-append b (flatten l), length-append a' (b' ++ flatten l), length-append b' (flatten l)),
    )
same_size (Permᴰ.trans p q) = let s = same_size p in let t = same_size q in (s.0 ∙ t.0, s.1 ∙ t.1)

-- ---- tables

module _ (ws : List ℕ) (e : reading ws ≡ accepted) (bs : List (List ℕ)) (p : Permᴰ (blocks ws) bs) where
  abbrev k : ℕ
  k = kind (get_or ws 0 0)

  pub rearranged-good : All (Good (names_at ws)) bs
  rearranged-good = still-good (names_at ws) p (blocks-good ws e)

  -- the names of a kind
  own-names : names_at ws ≡ names_of (word_of k 0)
  unfolding names_of
  own-names = rw (kind-word_of k 0 (omega arith), names_of)

  pub rearranged-accepted : reading (table_of k bs) ≡ accepted
  unfolding table_of
  rearranged-accepted =
      let s = same_size p in
      let few = blocks-few ws e in
      let short = (table ws e).short in
      let long = ap length (blocks-whole ws e) in
      table-accepted k (table ws e).headed (names_at ws) own-names bs rearranged-good (keys-distinct (keys_of p) (blocks-distinct ws e)) (omega arith) (omega arith)

  pub rearranged-blocks : blocks (table_of k bs) ≡ bs
  rearranged-blocks =
      let s = same_size p in
      let few = blocks-few ws e in
      blocks-table_of (names_at ws) k bs rearranged-good (omega (arith, names-most (get_or ws 0 0)))
