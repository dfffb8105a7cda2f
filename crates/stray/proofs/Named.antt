-- The elements that may stand in a row, by the words of an accepted table, and the rows of them.
use Prim.Native.Nat.{ℕ, zero, suc, ◌+◌, ◌-◌, ◌*◌, ◌/◌, ◌%◌, ◌^◌, ◌<◌}
use mathlib.Core.Path.{◌≡◌, refl, sym, ap, ◌∙◌, subst}
use mathlib.Core.Bool.{Bool, true, not, ◌&&◌, ◌||◌}
use mathlib.Core.List.{List, Memᴰ}
use native.Mathlib.Decide.{dec_lt, ℕ_discrete}
use native.Mathlib.Omega.{arith}
use borrow.Author.Tests.{eq-eqb, ne_eqb, lt-ltb, le-ltb}
use lib.Dec.{T, eqb, ltb, lit<}
use lib.ListN.{length, get_or, replicate}
use Rattle.permset.specs.Sets.{member}
use Rattle.permset.proofs.Laws.{member-empty}
use Rattle.table.specs.declared.Item.{Item}
use Rattle.table.specs.Words.{kind}
use Rattle.table.specs.Scan.{Task, accepted, names_at, reading}
use Rattle.table.specs.Code.{Code, Node, NodeLinked, gap, block, leaf, one, two, bind, while, branch, update, code}
use Rattle.table.proofs.Linked.{linked}
use Rattle.table.proofs.Faults.{Stands}
use Rattle.table.proofs.Stack.{reach}
use Rattle.table.proofs.Parts.{place-stands}
use Rattle.table.proofs.Items.{item-block}
use Rattle.table.proofs.Nodes.{item_node, node_at, node-item}
use Rattle.table.proofs.Blocks.{listed-block}
use Rattle.calculus.specs.Elements.{plain, Making, nothing, a_function, a_record, a_cell, is_function, is_record, is_cell, makes}
use Rattle.calculus.specs.Rules.{is_block}
use Rattle.calculus.specs.Layout.{bit}
use Rattle.calculus.proofs.Masks.{T_false, agree, agree-below}
use Rattle.rows.specs.declared.layout.Layout.{Layout}
use Rattle.rows.specs.Laid.{LaidOut}
use Rattle.masks.specs.Masks.{making_number, mark_if}
use Rattle.masks.proofs.Sorts.{word-making, and_yes, and_no, if-at, if-other, if-words, if-length}
use Rattle.stray.specs.declared.Holding.{Holding}
use Rattle.stray.specs.declared.Holding.TheVariants as holdings
use Rattle.stray.specs.Stray.{names, holds}
use Rattle.stray.specs.Allowed.{word_named, Leading, Allowed}

-- ---- by the kind of a word

listed : (c : Code) (b : ℕ) (n : Node) → NodeLinked c b n → T (is_block n) → Memᴰ b c.blocks
unfolding is_block
listed c b gap l t = absurd t
listed c b (block n s g) l t = l.4
listed c b (leaf m) l t = absurd t
listed c b (one m a) l t = absurd t
listed c b (two m a d) l t = absurd t
listed c b (bind a d) l t = absurd t
listed c b (while a d) l t = absurd t
listed c b (branch a d n) l t = absurd t
listed c b (update a d n) l t = absurd t

making-named : (m : Making) → not (eqb (making_number m) 0) ≡ is_function m || (is_record m || is_cell m)
unfolding making_number is_function is_record is_cell
making-named nothing = refl
making-named a_function = refl
making-named a_record = refl
making-named a_cell = refl

module _ (ws : List ℕ) (r : reading ws ≡ accepted) (p : ℕ) (h : p < length ws) where
  block-kind : T (is_block ((code ws).node p)) → kind (get_or ws p 0) ≡ 2
  unfolding code
  block-kind t =
      let x = listed-block ws r p (listed (code ws) p ((code ws).node p) ((linked ws r).nodes p h) t) in
      (subst (λ (u : Task). Stands (names_at ws) (reach ws r p x.0).keys (get_or ws p 0) u) x.1 (place-stands ws r p x.0)).0

  pub kind-block : eqb (kind (get_or ws p 0)) 2 ≡ is_block ((code ws).node p)
  unfolding item_node is_block
  kind-block = go (ℕ_discrete (kind (get_or ws p 0)) 2)
    where
      go : Dec (kind (get_or ws p 0) ≡ 2) → eqb (kind (get_or ws p 0)) 2 ≡ is_block ((code ws).node p)
      go (yes k) =
          eq-eqb (kind (get_or ws p 0)) 2 k
          ∙ sym (ap is_block (node-item ws r ws (omega arith) p ∙ ap (λ (z : Item). node_at ws r ws (omega arith) z p) (item-block ws p k)))
      go (no k) = ne_eqb (kind (get_or ws p 0)) 2 k ∙ sym (T_false (is_block ((code ws).node p)) (λ t. k (block-kind t)))

  pub word-named : (s : Holding) → word_named s (get_or ws p 0) ≡ names (code ws) s p
  unfolding word_named names
  word-named holdings.Things = ap (λ (n : ℕ). not (eqb n 0)) (word-making ws r p) ∙ making-named (makes ((code ws).node p))
  word-named holdings.Blocks = kind-block

-- ---- rows of what may stand in a row

pub full-digit : (i : ℕ) → i < 32 → member 4294967295 i ≡ true
unfolding member agree
full-digit i h = agree-below 32 (member 4294967295) (λ v. true) tt i h

module _ (c : Code) (s : Holding) where
  pub plain-allowed : (l : Layout) → LaidOut c l → (m : List ℕ) → Leading l.lead m → Allowed c s (plain c) m
  unfolding bit holds
  plain-allowed l o m f = record { words = λ k. word k (dec_lt k l.lead); digits = λ v i. digit v (dec_lt (v / 32) l.lead) }
    where
      word : (k : ℕ) → Dec (k < l.lead) → get_or m k 0 < 2 ^ 32
      word k (yes i) = rw (f.full k i) (lit< tt)
      word k (no i) = rw (f.rest k (omega arith)) (lit< tt)

      digit : (v : ℕ) → Dec (v / 32 < l.lead) → member (get_or m (v / 32) 0) (v % 32) ≡ (ltb v (plain c) && (ltb v (plain c) || names c s (v - plain c)))
      digit v (yes i) =
          ap (λ (x : ℕ). member x (v % 32)) (f.full (v / 32) i) ∙ full-digit (v % 32) (omega arith)
          ∙ sym (ap (λ (b : Bool). b && (b || names c s (v - plain c))) (lt-ltb v (plain c) (omega (arith, o.lead))))
      digit v (no i) =
          ap (λ (x : ℕ). member x (v % 32)) (f.rest (v / 32) (omega arith)) ∙ member-empty (v % 32)
          ∙ and_no (ltb v (plain c)) _ (le-ltb v (plain c) (omega (arith, o.lead)))

  same_test : (v n : ℕ) → (v ≡ n → ⊥) → ltb v n ≡ ltb v (n + 1)
  same_test v n h = go (dec_lt v n)
    where
      go : Dec (v < n) → ltb v n ≡ ltb v (n + 1)
      go (yes l) = lt-ltb v n l ∙ sym (lt-ltb v (n + 1) (omega arith))
      go (no l) = le-ltb v n (omega arith) ∙ sym (le-ltb v (n + 1) (omega arith))

  -- one word more
  pub one_more : (p : ℕ) (m : List ℕ) → plain c + p < 32 * length m → (b : Bool) → b ≡ names c s p → Allowed c s (plain c + p) m
      → Allowed c s (plain c + p + 1) (mark_if b m (plain c + p))
  unfolding holds
  one_more p m h b e a =
      record {
        words = if-words m (plain c + p) b a.words;
        digits = λ v i. go v (omega (arith, if-length m (plain c + p) b)) (ℕ_discrete v (plain c + p));
      }
    where
      self : b ≡ (ltb (plain c + p) (plain c + p + 1) && (ltb (plain c + p) (plain c) || names c s (plain c + p - plain c)))
      self =
          let z : p ≡ plain c + p - plain c = omega arith in
          e ∙ ap (names c s) z ∙ ap (λ (x : Bool). x || names c s (plain c + p - plain c)) (sym (le-ltb (plain c + p) (plain c) (omega arith)))
          ∙ and_yes (ltb (plain c + p) (plain c + p + 1)) _ (lt-ltb (plain c + p) (plain c + p + 1) (omega arith))

      go : (v : ℕ) → v < 32 * length m → Dec (v ≡ plain c + p)
          → bit (mark_if b m (plain c + p)) v ≡ (ltb v (plain c + p + 1) && (ltb v (plain c) || names c s (v - plain c)))
      go v i (yes k) =
          subst (λ (u : ℕ). bit (mark_if b m (plain c + p)) u ≡ (ltb u (plain c + p + 1) && (ltb u (plain c) || names c s (u - plain c)))) (sym k)
          (if-at m (plain c + p) b (plain c + p) refl h
          (a.digits (plain c + p) h ∙ sym (and_no (ltb (plain c + p) (plain c + p)) _ (le-ltb (plain c + p) (plain c + p) (omega arith))))
          ∙ self)
      go v i (no k) =
          if-other m (plain c + p) b v k ∙ a.digits v i
          ∙ ap (λ (x : Bool). x && (ltb v (plain c) || names c s (v - plain c))) (same_test v (plain c + p) k)

-- ---- rows of zeros

pub zeros-at : (n k : ℕ) → ◌≡◌ {A = ℕ} (get_or (replicate n 0) k 0) 0
zeros-at zero k = refl
zeros-at (suc n) zero = refl
zeros-at (suc n) (suc k) = zeros-at n k
