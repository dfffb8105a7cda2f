-- The code of an accepted table is linked.
use mathlib.Core.Path.{◌≡◌, refl, sym, ap, ◌∙◌, subst}
use mathlib.Core.List.{List, [], ◌∷◌, Memᴰ}
use mathlib.Core.Bool.{Bool, true, false}
use Prim.Native.Nat.{ℕ, suc, ◌+◌, ◌<◌}
use native.Mathlib.Nat.{le_trans, le_of_eq, lt_trans, not-suc-le-zero}
use lib.ListN.{length, get_or, get_or-eq_default}
use lib.Dec.{T, ltb, ltb→lt}
use Rattle.table.specs.declared.Term.{Term}
use Rattle.table.specs.declared.Term.TheVariants as terms
use Rattle.table.specs.Words.{argument, first_kind, parts_by_kind, limits_by_kind, parts, arity, terms_by_kind, term_of}
use Rattle.table.specs.Scan.{Task, head, name, perms, guard, term, accepted, under, reading}
use Rattle.table.specs.Code.{part, tasks, task_at, blocks_from, term_node, node_for, scope_for, home_for, code, Within, Part, Bound, NodeLinked}
use Rattle.table.specs.Code.{IsSet24, IsBlock, IsTerm, Linked}
use Rattle.table.proofs.TermWords.{Rows, done, ◌▸◌, by_kind, argument-lt}
use Rattle.table.proofs.Parts.{part-zero, part-inside, part-task, tasks-length, term-stands}
use Rattle.table.proofs.Scopes.{scoped}
use Rattle.table.proofs.Blocks.{Block, block, block_listed, listed-block}

-- what a term's node needs of its argument, its binders and its parts, by the row of its kind
module _ (ws : List ℕ) (p : ℕ) where
  PartsLinked : List Bool → Type 0
  PartsLinked bs =
      (k : ℕ) → T (ltb k (length bs)) → Within (code ws) (part ws p k) ((code ws).home p) (under (get_or bs k false) p ((code ws).scope p))

  RowLinked : ℕ → ℕ → Term → ℕ → List Bool → Type 0
  RowLinked a k t l bs =
      a < l → (k ≡ 20 → a < length ((code ws).scope p)) → (k ≡ 19 → a < (code ws).names) → Memᴰ ((code ws).home p) (code ws).blocks → PartsLinked bs
      → NodeLinked (code ws) p (term_node t (part ws p 0) (part ws p 1) (part ws p 2))

  -- the parts of one, two and three that run
  one-part : PartsLinked (false ∷ []) → Part (code ws) p (part ws p 0)
  unfolding PartsLinked under
  one-part q = q 0 tt

  two-parts : {A : Type 0} → A → PartsLinked (false ∷ false ∷ []) → A × Part (code ws) p (part ws p 0) × Part (code ws) p (part ws p 1)
  unfolding PartsLinked under
  two-parts a q = (a, q 0 tt, q 1 tt)

  pair_parts : PartsLinked (false ∷ false ∷ []) → Part (code ws) p (part ws p 0) × Part (code ws) p (part ws p 1)
  unfolding PartsLinked under
  pair_parts q = (q 0 tt, q 1 tt)

  let-parts : PartsLinked (false ∷ true ∷ []) → Part (code ws) p (part ws p 0) × Bound (code ws) p (part ws p 1)
  unfolding PartsLinked under
  let-parts q = (q 0 tt, q 1 tt)

  three-parts : PartsLinked (false ∷ false ∷ false ∷ [])
      → Part (code ws) p (part ws p 0) × Part (code ws) p (part ws p 1) × Part (code ws) p (part ws p 2)
  unfolding PartsLinked under
  three-parts q = (q 0 tt, q 1 tt, q 2 tt)

  -- a function's body stands behind its word
  body : PartsLinked (true ∷ []) → Bound (code ws) p (suc p)
  unfolding PartsLinked under
  body q = subst (λ (n : ℕ). Bound (code ws) p n) (part-zero ws p) (q 0 tt)

  rows : (a : ℕ) → Rows (RowLinked a) first_kind (terms_by_kind a) limits_by_kind parts_by_kind
  unfolding RowLinked PartsLinked terms_by_kind limits_by_kind parts_by_kind term_node under code
  rows a =
      (λ h v m b q. tt)  -- constant
      ▸ (λ h v m b q. h)  -- whole number
      ▸ (λ h v m b q. h)  -- string literal
      ▸ (λ h v m b q. m refl)  -- handler name
      ▸ (λ h v m b q. v refl)  -- variable
      ▸ (λ h v m b q. body q)  -- function
      ▸ (λ h v m b q. two-parts tt q)  -- apply
      ▸ (λ h v m b q. let-parts q)  -- let
      ▸ (λ h v m b q. two-parts tt q)  -- sequence
      ▸ (λ h v m b q. three-parts q)  -- if
      ▸ (λ h v m b q. pair_parts q)  -- while
      ▸ (λ h v m b q. two-parts tt q)  -- operation
      ▸ (λ h v m b q. tt)  -- empty record
      ▸ (λ h v m b q. two-parts tt q)  -- get
      ▸ (λ h v m b q. three-parts q)  -- set
      ▸ (λ h v m b q. two-parts tt q)  -- delete
      ▸ (λ h v m b q. one-part q)  -- new cell
      ▸ (λ h v m b q. one-part q)  -- read cell
      ▸ (λ h v m b q. two-parts tt q)  -- assign
      ▸ (λ h v m b q. two-parts {A = IsSet24 a × Memᴰ ((code ws).home p) (code ws).blocks} (h, b) q)  -- send
      ▸ (λ h v m b q. h)  -- exercise
      ▸ done

-- a term's node is one
is-term : (t : Term) (a b d : ℕ) → IsTerm (term_node t a b d)
unfolding term_node
is-term (terms.Constant k) a b d = tt
is-term (terms.Number n) a b d = tt
is-term (terms.Literal n) a b d = tt
is-term (terms.Name n) a b d = tt
is-term (terms.Variable n) a b d = tt
is-term terms.Function a b d = tt
is-term terms.Apply a b d = tt
is-term terms.Let a b d = tt
is-term terms.Sequence a b d = tt
is-term terms.If a b d = tt
is-term terms.While a b d = tt
is-term (terms.Operation o) a b d = tt
is-term terms.Record a b d = tt
is-term terms.Get a b d = tt
is-term terms.Set a b d = tt
is-term terms.Delete a b d = tt
is-term terms.Cell a b d = tt
is-term terms.Read a b d = tt
is-term terms.Assign a b d = tt
is-term (terms.Send x) a b d = tt
is-term (terms.Exercise x) a b d = tt

module _ (ws : List ℕ) (e : reading ws ≡ accepted) where
  term-there : (q d h : ℕ) (s : List ℕ) → task_at ws q ≡ term d h s → IsTerm ((code ws).node q)
  unfolding code node_for
  term-there q d h s t =
      subst (λ (z : Task). IsTerm (node_for ws q z)) (sym t) (is-term (term_of (get_or ws q 0)) (part ws q 0) (part ws q 1) (part ws q 2))

  -- the block of a term is one of the blocks
  pub home-listed : (p d h : ℕ) (s : List ℕ) → p < length ws → task_at ws p ≡ term d h s → Memᴰ ((code ws).home p) (code ws).blocks
  unfolding code home_for
  home-listed p d h s l t =
      let r = scoped ws e p d h s l t in
      subst (λ (z : Task). Memᴰ (home_for z p) (blocks_from (tasks ws) 0)) (sym t)
      (block_listed ws e h (lt_trans r.home-before l) r.home-task)

  -- a part of a term, as the code has it
  part-within : (p d h : ℕ) (s : List ℕ) → p < length ws → task_at ws p ≡ term d h s → PartsLinked ws p (parts (get_or ws p 0))
  unfolding PartsLinked code scope_for home_for arity
  part-within p d h s l t k m =
      let i : k < arity (get_or ws p 0) = ltb→lt k (length (parts (get_or ws p 0))) m in
      let u = part-task ws e p d h s l t k i in
      record {
        inside = part-inside ws e p d h s l t k i;
        term = term-there (part ws p k) _ _ _ u;
        home = ap (λ (z : Task). home_for z (part ws p k)) u ∙ sym (ap (λ (z : Task). home_for z p) t);
        scope = ap scope_for u ∙ ap (under (get_or (parts (get_or ws p 0)) k false) p) (sym (ap scope_for t));
      }

  body-within : (b : ℕ) → Block ws b → Within (code ws) (b + 3) b (b ∷ [])
  unfolding code scope_for home_for
  body-within b r =
      record { inside = r.inside; term = term-there (b + 3) _ _ _ r.body-task; home = ap (λ (z : Task). home_for z (b + 3)) r.body-task; scope = ap scope_for r.body-task }

  term-linked : (p d h : ℕ) (s : List ℕ) → p < length ws → task_at ws p ≡ term d h s
      → NodeLinked (code ws) p (term_node (term_of (get_or ws p 0)) (part ws p 0) (part ws p 1) (part ws p 2))
  unfolding RowLinked code scope_for
  term-linked p d h s l t =
      let w = get_or ws p 0 in
      let f = term-stands ws e p d h s l t in
      by_kind (RowLinked ws p (argument w)) w f.0 f.1 (rows ws p (argument w)) f.2
      (λ k. subst (λ (u : Task). argument w < length (scope_for u)) (sym t) (f.3 k)) f.5 (home-listed p d h s l t) (part-within p d h s l t)

  node-linked : (p : ℕ) → p < length ws → (t : Task) → task_at ws p ≡ t → NodeLinked (code ws) p (node_for ws p t)
  unfolding node_for code
  node-linked p l (head n) t = tt
  node-linked p l name t =
      let r = block ws e p l t in
      (r.named, argument-lt (get_or ws (p + 1) 0), argument-lt (get_or ws (p + 2) 0), body-within p r, block_listed ws e p l t)
  node-linked p l (perms n) t = tt
  node-linked p l guard t = tt
  node-linked p l (term d h s) t = term-linked p d h s l t

  binder-inside : (p n : ℕ) → p < length ws → (t : Task) → task_at ws p ≡ t → n < length (scope_for t) → get_or (scope_for t) n 0 < length ws
  unfolding scope_for
  binder-inside p n l (head m) t i = absurd (not-suc-le-zero i)
  binder-inside p n l name t i = absurd (not-suc-le-zero i)
  binder-inside p n l (perms m) t i = absurd (not-suc-le-zero i)
  binder-inside p n l guard t i = absurd (not-suc-le-zero i)
  binder-inside p n l (term d h s) t i = lt_trans ((scoped ws e p d h s l t).binders-before n i) l

-- the promise to the layers above
pub linked : (ws : List ℕ) → reading ws ≡ accepted → Linked (code ws)
unfolding code node_for task_at
linked ws e =
    record {
      nodes = λ p l. node-linked ws e p l (task_at ws p) refl;
      binders = λ p n l i. binder-inside ws e p n l (task_at ws p) refl i;
      outside = λ p l.
          ap (node_for ws p) (get_or-eq_default (tasks ws) (head 0) {n = p} (le_trans (le_of_eq (tasks-length ws e)) l));
      listed = λ b m.
          let r = listed-block ws e b m in
          (r.0, subst (λ (t : Task). IsBlock (node_for ws b t)) (sym r.1) tt);
    }
