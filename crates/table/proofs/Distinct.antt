-- Two blocks of an accepted table with the same name and the same permissions are one.
use mathlib.Core.Path.{◌≡◌, refl, sym, ap, ap₂, ◌∙◌, subst}
use mathlib.Core.List.{List, [], ◌∷◌}
use mathlib.Core.Bool.{Bool, true, ◌||◌}
use Prim.Native.Nat.{ℕ, suc, ◌+◌, ◌-◌, ◌^◌, ◌<◌}
use native.Mathlib.Decide.{dec_lt}
use native.Mathlib.Omega.{arith}
use lib.ListN.{length, get_or}
use lib.Dec.{T, eqb, eqb_refl}
use Rattle.table.specs.declared.Term.{Term}
use Rattle.table.specs.declared.Term.TheVariants as terms
use Rattle.table.specs.Words.{argument}
use Rattle.table.specs.Scan.{Task, head, name, perms, guard, term, accepted, has, key, keep, next, reading, names_at}
use Rattle.table.specs.Code.{block as block_node, task_at, term_node, node_for, code, IsBlock}
use Rattle.table.proofs.TermWords.{word_of-injective}
use Rattle.table.proofs.Faults.{Stands, stands}
use Rattle.table.proofs.Stack.{At, Fact, at-step, at-end, walk, has-keep}
use Rattle.table.proofs.Blocks.{opened, block}
use Rattle.table.proofs.Linked.{linked}

-- the key of the block at b
abbrev pub key_at : List ℕ → ℕ → ℕ
key_at ws b = key (argument (get_or ws b 0)) (argument (get_or ws (b + 1) 0))

-- keys are equal only where the names and the permissions are
pub key-injective : (n n' s s' : ℕ) → s < 2 ^ 24 → s' < 2 ^ 24 → key n s ≡ key n' s' → (n ≡ n') × (s ≡ s')
key-injective n n' s s' h h' e = word_of-injective n n' s s' h h' e

or_left : (a b : Bool) → T a → T (a || b)
or_left true b h = tt
or_left mathlib.Core.Bool.false b h = elim h [ ]

has_first : (k : ℕ) (ks : List ℕ) → T (has (k ∷ ks) k)
unfolding has
has_first k ks = or_left (eqb k k) (has ks k) (eqb_refl k)

-- the key k is among the keys
abbrev HasAt : ℕ → Fact
HasAt k p keys ts = T (has keys k)

module _ (ws : List ℕ) (e : reading ws ≡ accepted) where
  -- a key that the scan has kept is no later block's
  not-kept : (b : ℕ) → b < length ws → task_at ws b ≡ name → (keys : List ℕ) (ts : List Task) → At ws (b + 1) keys ts
      → T (has keys (key_at ws b)) → ⊥
  not-kept b l t keys [] a h = let r = (block ws e b l t).inside in let z = at-end ws (b + 1) keys a in omega arith
  not-kept b l t keys (u ∷ ts) a h =
      let s = at-step ws (b + 1) keys u ts a in
      let f =
      subst (λ (v : Task). Stands (names_at ws) keys (get_or ws (b + 1) 0) v) (sym s.task ∙ (block ws e b l t).perms-task)
      (stands (names_at ws) keys (get_or ws (b + 1) 0) u s.faultless) in
      subst T f.1 h

  not-later : (b b' : ℕ) → b < length ws → task_at ws b ≡ name → b' < length ws → task_at ws b' ≡ name → key_at ws b ≡ key_at ws b'
      → b < b' → ⊥
  unfolding keep next
  not-later b b' l t l' t' k h =
      let o = opened ws e b l t in
      let n = argument (get_or ws b 0) in
      let s = at-step ws (suc b) o.keys (perms n) (guard ∷ term 1 b (b ∷ []) ∷ o.below) o.there in
      let m = b' - suc b in
      let there : suc (suc b) + m ≡ b' + 1 = omega arith in
      let inside = (block ws e b' l' t').inside in
      let x = key n (argument (get_or ws (suc b) 0)) in
      let r = walk ws (HasAt x) (λ q keys u ts z. has-keep keys (get_or ws q 0) u x)
      (suc (suc b)) _ _ s.rest (has_first x o.keys) m (omega arith) in
      not-kept b' l' t' r.keys r.stack (subst (λ (q : ℕ). At ws q r.keys r.stack) there r.there)
      (subst (λ (y : ℕ). T (has r.keys y))
      (ap (λ (q : ℕ). key n (argument (get_or ws q 0))) (let z : suc b ≡ b + 1 = omega arith in z) ∙ k) r.holds)

  pub distinct : (b b' : ℕ) → b < length ws → task_at ws b ≡ name → b' < length ws → task_at ws b' ≡ name
      → argument (get_or ws b 0) ≡ argument (get_or ws b' 0) → argument (get_or ws (b + 1) 0) ≡ argument (get_or ws (b' + 1) 0) → b ≡ b'
  distinct b b' l t l' t' n s = go (dec_lt b b') (dec_lt b' b)
    where
      k : key_at ws b ≡ key_at ws b'
      k = ap₂ (λ (x y : ℕ). key x y) n s

      go : Dec (b < b') → Dec (b' < b) → b ≡ b'
      go (yes h) d = absurd (not-later b b' l t l' t' k h)
      go (no h) (yes h') = absurd (not-later b' b l' t' l t (sym k) h')
      go (no h) (no h') = omega (arith, h, h')

-- ---- the same of the nodes of the code

term-no-block : (t : Term) (a b d : ℕ) → IsBlock (term_node t a b d) → ⊥
unfolding term_node
term-no-block (terms.Constant c) a b d h = h
term-no-block (terms.Number n) a b d h = h
term-no-block (terms.Literal n) a b d h = h
term-no-block (terms.Name n) a b d h = h
term-no-block (terms.Variable n) a b d h = h
term-no-block terms.Function a b d h = h
term-no-block terms.Apply a b d h = h
term-no-block terms.Let a b d h = h
term-no-block terms.Sequence a b d h = h
term-no-block terms.If a b d h = h
term-no-block terms.While a b d h = h
term-no-block (terms.Operation o) a b d h = h
term-no-block terms.Record a b d h = h
term-no-block terms.Get a b d h = h
term-no-block terms.Set a b d h = h
term-no-block terms.Delete a b d h = h
term-no-block terms.Cell a b d h = h
term-no-block terms.Read a b d h = h
term-no-block terms.Assign a b d h = h
term-no-block (terms.Send s) a b d h = h
term-no-block (terms.Exercise s) a b d h = h

-- a block's node stands where a name is the task
pub block-task : (ws : List ℕ) (p : ℕ) (t : Task) → IsBlock (node_for ws p t) → t ≡ name
unfolding node_for
block-task ws p (head n) h = absurd h
block-task ws p name h = refl
block-task ws p (perms n) h = absurd h
block-task ws p guard h = absurd h
block-task ws p (term d k s) h = absurd (term-no-block _ _ _ _ h)

-- a block of the code has its name and its permissions from its words
pub record BlockAt (ws : List ℕ) (b n s : ℕ) : Type 0 where
  pub inside : b < length ws
  pub task : task_at ws b ≡ name
  pub named : argument (get_or ws b 0) ≡ n
  pub permitted : argument (get_or ws (b + 1) 0) ≡ s

module _ (ws : List ℕ) (e : reading ws ≡ accepted) where
  pub block_at : (b n s g : ℕ) → (code ws).node b ≡ block_node n s g → BlockAt ws b n s
  unfolding code node_for
  block_at b n s g h =
      let i : IsBlock ((code ws).node b) = subst IsBlock (sym h) tt in
      let t : task_at ws b ≡ name = block-task ws b (task_at ws b) i in
      let fields : block_node (argument (get_or ws b 0)) (argument (get_or ws (b + 1) 0)) (argument (get_or ws (b + 2) 0)) ≡ block_node n s g =
      sym (ap (node_for ws b) t) ∙ h in
      record {
        inside = short (dec_lt b (length ws)) i;
        task = t;
        named = cc;
        permitted = cc;
      }
    where
      short : Dec (b < length ws) → IsBlock ((code ws).node b) → b < length ws
      short (yes l) i = l
      short (no l) i = absurd (subst IsBlock ((linked ws e).outside b (omega (arith, l))) i)

  pub distinct-nodes : (b b' n s g g' : ℕ) → (code ws).node b ≡ block_node n s g → (code ws).node b' ≡ block_node n s g' → b ≡ b'
  distinct-nodes b b' n s g g' h h' =
      let r = block_at b n s g h in
      let r' = block_at b' n s g' h' in
      distinct ws e b b' r.inside r.task r'.inside r'.task (r.named ∙ sym r'.named) (r.permitted ∙ sym r'.permitted)
