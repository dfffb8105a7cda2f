-- The code of an accepted table from what `item_at` and `link_at` answer: node, home and binder of each word.
use mathlib.Core.Path.{◌≡◌, refl, sym, ap, ap₂, ◌∙◌}
use mathlib.Core.Logic.{◌≢◌, ⊎_elim}
use mathlib.Core.List.{List, Memᴰ}
use mathlib.Core.Bool.{Bool}
use Prim.Native.Nat.{ℕ, suc, ◌≤◌, ◌<◌}
use native.Mathlib.Nat.{suc_inj}
use native.Mathlib.Decide.{dec_lt}
use native.Mathlib.Omega.{arith}
use lib.ListN.{length, get_or, get_or-eq_default}
use lib.Dec.{T, ltb, ltb→lt}
use Rattle.table.specs.declared.Handler.{Handler}
use Rattle.table.specs.declared.Item.{Item}
use Rattle.table.specs.declared.Item.TheVariants as items
use Rattle.table.specs.declared.Term.{Term}
use Rattle.table.specs.declared.Term.TheVariants as terms
use Rattle.table.specs.Words.{kind, argument, first_kind, parts, arity, parts_by_kind, limits_by_kind, terms_by_kind, operation_of, term_of}
use Rattle.table.specs.Scan.{Task, head, name, perms, guard, term, accepted, reading, names_at}
use Rattle.table.specs.Code.{Node, gap, block, one, two, bind, while, branch, update, cell, read, apply, sequence, get, delete}
use Rattle.table.specs.Code.{assign, operation, send}
use Rattle.table.specs.Code.{part, end_of, task_at, term_node, node_for, scope_for, home_for, code}
use Rattle.table.specs.Item.{handler_at, item_at}
use Rattle.table.specs.Links.{link_at, linked}
use Rattle.table.proofs.Items.{item-block, item-gap, item-term}
use Rattle.table.proofs.TermWords.{Rows, done, ◌▸◌, by_kind}
use Rattle.table.proofs.Faults.{Stands}
use Rattle.table.proofs.Stack.{reach}
use Rattle.table.proofs.Parts.{part-zero, part-suc, part-inside, place-stands, term-stands}
use Rattle.table.proofs.Linked.{linked as code-linked, home-listed}
use Rattle.table.proofs.LinkMeaning.{link-end, link-term, counted-variable}

-- the node of an item whose parts, as far as it has them, stand at a, b and d
unfoldable pub item_node : Item → ℕ → ℕ → ℕ → Node
unfolding term_node
item_node items.Gap a b d = gap
item_node (items.Block h) a b d = block h.name h.perms.bits h.guard.bits
item_node (items.Term t) a b d = term_node t a b d

-- ---- a term's node looks only at the parts that it has

PartsAt : ℕ → ℕ → ℕ → ℕ → ℕ → ℕ → ℕ → Term → ℕ → List Bool → Type 0
PartsAt a b d a' b' d' k t l bs =
    (T (ltb 0 (length bs)) → a ≡ a') → (T (ltb 1 (length bs)) → b ≡ b') → (T (ltb 2 (length bs)) → d ≡ d')
    → term_node t a b d ≡ term_node t a' b' d'

module _ (a b d a' b' d' : ℕ) where
  -- terms with one part, two and three
  one-equal : (f : ℕ → Node) → (Unit {0} → a ≡ a') → f a ≡ f a'
  one-equal f x = ap f (x tt)

  two-equal : (f : ℕ → ℕ → Node) → (Unit {0} → a ≡ a') → (Unit {0} → b ≡ b') → f a b ≡ f a' b'
  two-equal f x y = ap₂ f (x tt) (y tt)

  three-equal : (f : ℕ → ℕ → ℕ → Node) → (Unit {0} → a ≡ a') → (Unit {0} → b ≡ b') → (Unit {0} → d ≡ d') → f a b d ≡ f a' b' d'
  three-equal f x y z = λ i. f (x tt i) (y tt i) (z tt i)

  rows : (n : ℕ) → Rows (PartsAt a b d a' b' d') first_kind (terms_by_kind n) limits_by_kind parts_by_kind
  unfolding PartsAt terms_by_kind limits_by_kind parts_by_kind term_node
  rows n =
      (λ x y z. refl)  -- constant
      ▸ (λ x y z. refl)  -- whole number
      ▸ (λ x y z. refl)  -- string literal
      ▸ (λ x y z. refl)  -- handler name
      ▸ (λ x y z. refl)  -- variable
      ▸ (λ x y z. refl)  -- function
      ▸ (λ x y z. two-equal (two apply) x y)
      ▸ (λ x y z. two-equal bind x y)  -- let
      ▸ (λ x y z. two-equal (two sequence) x y)
      ▸ (λ x y z. three-equal branch x y z)  -- if
      ▸ (λ x y z. two-equal while x y)
      ▸ (λ x y z. two-equal (two (operation (operation_of n))) x y)
      ▸ (λ x y z. refl)  -- empty record
      ▸ (λ x y z. two-equal (two get) x y)
      ▸ (λ x y z. three-equal update x y z)  -- set
      ▸ (λ x y z. two-equal (two delete) x y)
      ▸ (λ x y z. one-equal (one cell) x)
      ▸ (λ x y z. one-equal (one read) x)
      ▸ (λ x y z. two-equal (two assign) x y)
      ▸ (λ x y z. two-equal (two (send n)) x y)
      ▸ (λ x y z. refl)  -- exercise
      ▸ done

  pub parts-alike : (w : ℕ) → 16 ≤ kind w → kind w ≤ 36 → (T (ltb 0 (length (parts w))) → a ≡ a') → (T (ltb 1 (length (parts w))) → b ≡ b')
      → (T (ltb 2 (length (parts w))) → d ≡ d') → term_node (term_of w) a b d ≡ term_node (term_of w) a' b' d'
  unfolding PartsAt
  parts-alike w low high = by_kind (PartsAt a b d a' b' d') w low high (rows (argument w))

-- ---- items apart

gap-no-term : (t : Term) → items.Gap ≡ items.Term t → ⊥
gap-no-term t h = let z : ◌≡◌ {A = ℕ} 0 1 = cc in omega arith

block-no-term : (b : Handler) (t : Term) → items.Block b ≡ items.Term t → ⊥
block-no-term b t h = let z : ◌≡◌ {A = ℕ} 0 1 = cc in omega arith

same-term : (t u : Term) → items.Term t ≡ items.Term u → t ≡ u
same-term t u h = cc

-- ---- the word of a variable

-- one more than a variable's count, and 0 for every other term
variable_of : Term → ℕ
variable_of (terms.Constant c) = 0
variable_of (terms.Number n) = 0
variable_of (terms.Literal n) = 0
variable_of (terms.Name n) = 0
variable_of (terms.Variable n) = suc n
variable_of terms.Function = 0
variable_of terms.Apply = 0
variable_of terms.Let = 0
variable_of terms.Sequence = 0
variable_of terms.If = 0
variable_of terms.While = 0
variable_of (terms.Operation o) = 0
variable_of terms.Record = 0
variable_of terms.Get = 0
variable_of terms.Set = 0
variable_of terms.Delete = 0
variable_of terms.Cell = 0
variable_of terms.Read = 0
variable_of terms.Assign = 0
variable_of (terms.Send s) = 0
variable_of (terms.Exercise s) = 0

VariableAt : ℕ → ℕ → ℕ → Term → ℕ → List Bool → Type 0
VariableAt a n k t l bs = variable_of t ≡ suc n → (k ≡ 20) × (a ≡ n)

module _ (a n : ℕ) where
  other : {A : Type 0} → 0 ≡ suc n → A
  other h = let z : ⊥ = omega arith in absurd z

  this : suc a ≡ suc n → ◌≡◌ {A = ℕ} 20 20 × (a ≡ n)
  this h = (refl, suc_inj h)

  variable-rows : Rows (VariableAt a n) first_kind (terms_by_kind a) limits_by_kind parts_by_kind
  unfolding VariableAt variable_of terms_by_kind limits_by_kind parts_by_kind
  variable-rows =
      other
      ▸ other
      ▸ other
      ▸ other
      ▸ this
      ▸ other
      ▸ other
      ▸ other
      ▸ other
      ▸ other
      ▸ other
      ▸ other
      ▸ other
      ▸ other
      ▸ other
      ▸ other
      ▸ other
      ▸ other
      ▸ other
      ▸ other
      ▸ other
      ▸ done

variable-word : (w n : ℕ) → 16 ≤ kind w → kind w ≤ 36 → term_of w ≡ terms.Variable n → (kind w ≡ 20) × (argument w ≡ n)
unfolding VariableAt variable_of
variable-word w n low high h = by_kind (VariableAt (argument w) n) w low high (variable-rows (argument w) n) (ap variable_of h)

-- ---- nodes, homes and binders

module _ (ws : List ℕ) (e : reading ws ≡ accepted) (l : List ℕ) (room : length ws ≤ length l) where
  -- the links, and the places of the three parts that a word may have
  abbrev pub end_at : ℕ → ℕ
  end_at p = (link_at (linked ws l) p).end

  term-node : (p d h : ℕ) (s : List ℕ) → p < length ws → task_at ws p ≡ term d h s
      → term_node (term_of (get_or ws p 0)) (part ws p 0) (part ws p 1) (part ws p 2)
      ≡ term_node (term_of (get_or ws p 0)) (suc p) (end_at (suc p)) (end_at (end_at (suc p)))
  unfolding arity
  term-node p d h s i t =
      let w = get_or ws p 0 in
      let f = term-stands ws e p d h s i t in
      parts-alike (part ws p 0) (part ws p 1) (part ws p 2) (suc p) (end_at (suc p)) (end_at (end_at (suc p))) w f.0 f.1
      (λ x. part-zero ws p) (λ x. second (ltb→lt 1 (length (parts w)) x)) (λ x. third (ltb→lt 2 (length (parts w)) x))
    where
      end-of : (q : ℕ) → q < length ws → end_of ws q ≡ end_at q
      end-of q j = sym (link-end ws e l room q j)

      second : 1 < arity (get_or ws p 0) → part ws p 1 ≡ end_at (suc p)
      second x =
          let j = part-inside ws e p d h s i t 0 (omega arith) in
          part-suc ws p 0 j ∙ end-of (part ws p 0) j ∙ ap end_at (part-zero ws p)

      third : 2 < arity (get_or ws p 0) → part ws p 2 ≡ end_at (end_at (suc p))
      third x =
          let j = part-inside ws e p d h s i t 1 (omega arith) in
          part-suc ws p 1 j ∙ end-of (part ws p 1) j ∙ ap end_at (second (omega arith))

  -- the node that an item has at p
  abbrev pub node_at : Item → ℕ → Node
  node_at x p = item_node x (suc p) (end_at (suc p)) (end_at (end_at (suc p)))

  low-node : (p : ℕ) → kind (get_or ws p 0) ≢ 2 → kind (get_or ws p 0) < 16 → gap ≡ node_at (item_at ws p) p
  unfolding item_node
  low-node p k h = sym (ap (λ (x : Item). node_at x p) (item-gap ws p k h))

  task-node : (p : ℕ) → p < length ws → (t : Task) → task_at ws p ≡ t → (k : List ℕ) → Stands (names_at ws) k (get_or ws p 0) t
      → node_for ws p t ≡ node_at (item_at ws p) p
  unfolding node_for item_node handler_at
  task-node p i (head n) t k f =
      ⊎_elim (λ y. low-node p (λ z. let c : ⊥ = omega arith in c) (omega arith)) (λ y. low-node p (λ z. let c : ⊥ = omega arith in c) (omega arith)) f.0
  task-node p i name t k f = sym (ap (λ (x : Item). node_at x p) (item-block ws p f.0))
  task-node p i (perms n) t k f = low-node p (λ z. let c : ⊥ = omega arith in c) (omega arith)
  task-node p i guard t k f = low-node p (λ z. let c : ⊥ = omega arith in c) (omega arith)
  task-node p i (term d h s) t k f = term-node p d h s i t ∙ sym (ap (λ (x : Item). node_at x p) (item-term ws p f.0))

  past : (p : ℕ) → length ws ≤ p → get_or ws p 0 ≡ 0
  past p h = get_or-eq_default ws 0 {n = p} h

  pub node-item : (p : ℕ) → (code ws).node p ≡ node_at (item_at ws p) p
  unfolding code
  node-item p = go (dec_lt p (length ws))
    where
      go : Dec (p < length ws) → node_for ws p (task_at ws p) ≡ node_at (item_at ws p) p
      go (yes i) = task-node p i (task_at ws p) refl (reach ws e p i).keys (place-stands ws e p i)
      go (no i) =
          let z = past p (omega (arith, i)) in
          (code-linked ws e).outside p (omega (arith, i)) ∙ low-node p (λ y. let c : ⊥ = omega arith in c) (omega arith)

  -- a term's item is met where a term is the task
  pub record TermAt (p : ℕ) (t : Term) : Type 0 where
    pub depth : ℕ
    pub home : ℕ
    pub scope : List ℕ
    pub inside : p < length ws
    pub task : task_at ws p ≡ term depth home scope
    pub here : term_of (get_or ws p 0) ≡ t

  pub term-at : (p : ℕ) (t : Term) → item_at ws p ≡ items.Term t → TermAt p t
  term-at p t h = go (dec_lt p (length ws))
    where
      low : kind (get_or ws p 0) ≢ 2 → kind (get_or ws p 0) < 16 → TermAt p t
      low k m = absurd (gap-no-term t (sym (item-gap ws p k m) ∙ h))

      on : (i : p < length ws) (u : Task) → task_at ws p ≡ u → Stands (names_at ws) (reach ws e p i).keys (get_or ws p 0) u → TermAt p t
      on i (head n) z f =
          ⊎_elim (λ x. low (λ y. let c : ⊥ = omega arith in c) (omega arith)) (λ x. low (λ y. let c : ⊥ = omega arith in c) (omega arith)) f.0
      on i name z f = absurd (block-no-term (handler_at ws p) t (sym (item-block ws p f.0) ∙ h))
      on i (perms n) z f = low (λ y. let c : ⊥ = omega arith in c) (omega arith)
      on i guard z f = low (λ y. let c : ⊥ = omega arith in c) (omega arith)
      on i (term d k s) z f =
          record {
            depth = d;
            home = k;
            scope = s;
            inside = i;
            task = z;
            here = same-term (term_of (get_or ws p 0)) t (sym (item-term ws p f.0) ∙ h);
          }

      go : Dec (p < length ws) → TermAt p t
      go (yes i) = on i (task_at ws p) refl (place-stands ws e p i)
      go (no i) = let z = past p (omega (arith, i)) in low (λ y. let c : ⊥ = omega arith in c) (omega arith)

  pub home-link : (p : ℕ) (t : Term) → item_at ws p ≡ items.Term t → (code ws).home p ≡ (link_at (linked ws l) p).home
  unfolding code home_for
  home-link p t h =
      let r = term-at p t h in
      ap (λ (u : Task). home_for u p) r.task
      ∙ sym (link-term ws e l room p r.depth r.home r.scope r.inside r.task).home-right

  pub home-block : (p : ℕ) (t : Term) → item_at ws p ≡ items.Term t → Memᴰ ((code ws).home p) (code ws).blocks
  home-block p t h = let r = term-at p t h in home-listed ws e p r.depth r.home r.scope r.inside r.task

  pub binder-link : (p n : ℕ) → item_at ws p ≡ items.Term (terms.Variable n) → get_or ((code ws).scope p) n 0 ≡ (link_at (linked ws l) p).binder
  unfolding code scope_for
  binder-link p n h =
      let r = term-at p (terms.Variable n) h in
      let w = get_or ws p 0 in
      let f = term-stands ws e p r.depth r.home r.scope r.inside r.task in
      let v = variable-word w n f.0 f.1 r.here in
      ap (λ (u : Task). get_or (scope_for u) n 0) r.task
      ∙ ap (λ (k : ℕ). get_or r.scope k 0) (sym (counted-variable w v.0 ∙ v.1))
      ∙ sym (link-term ws e l room p r.depth r.home r.scope r.inside r.task).binder-right
