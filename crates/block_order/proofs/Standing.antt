-- The words and the tasks of a table by its blocks.
use Prim.Native.Nat.{ℕ, ◌+◌, ◌-◌, ◌≤◌, ◌<◌, ◌^◌}
use mathlib.Core.Path.{◌≡◌, refl, sym, ap, ap₂, ◌∙◌}
use mathlib.Core.List.{List, [], ◌∷◌, ◌++◌, flatten, append_assoc}
use native.Mathlib.Nat.{add-zero}
use native.Mathlib.Decide.{dec_lt}
use native.Mathlib.Omega.{arith}
use lib.ListN.{length, get_or, length-append, get_or-append}
use lib.Seq.{get_or-append-add}
use Rattle.table.specs.Words.{arity, word_of}
use Rattle.table.specs.Scan.{Task, head, name}
use Rattle.table.specs.Code.{part, trace, task_at}
use Rattle.blocks.specs.Blocks.{table_of, Good, All}
use Rattle.blocks.proofs.Block.{front}
use Rattle.blocks.proofs.Tasks.{tasks_of, table-tasks, good-part}
use Rattle.block_order.specs.Order.{Stands, first, later}
use Rattle.block_order.proofs.Tasks.{good-long}

-- ---- a block among others

-- the words before a block and those behind it
pub record Split (xs : List ℕ) (n : ℕ) (b : List ℕ) : Type 0 where
  pub pre : List ℕ
  pub post : List ℕ
  pub whole : xs ≡ pre ++ (b ++ post)
  pub long : length pre ≡ n

split : (at : ℕ) (bs : List (List ℕ)) (p : ℕ) (b : List ℕ) → Stands at bs p b → (us : List ℕ) → length us ≡ at → Split (us ++ flatten bs) p b
unfolding flatten
split at bs p b (first {bs = cs}) us h = record { pre = us; post = flatten cs; whole = refl; long = h }
split at bs p b (later {a} {bs = cs} s) us h =
    let r = split (at + length a) cs p b s (us ++ a) (omega (arith, length-append us a)) in
    record { pre = r.pre; post = r.post; whole = sym (append_assoc us a (flatten cs)) ∙ r.whole; long = r.long }

-- each word belongs to a block
pub record Located (at : ℕ) (bs : List (List ℕ)) (q : ℕ) : Type 0 where
  pub place : ℕ
  pub block : List ℕ
  pub stands : Stands at bs place block
  pub offset : ℕ
  pub here : q ≡ place + offset
  pub inside : offset < length block

pub locate : (at : ℕ) (bs : List (List ℕ)) (q : ℕ) → at ≤ q → q < at + length (flatten bs) → Located at bs q
unfolding flatten
locate at [] q h l = absurd (omega arith)
locate at (b ∷ bs) q h l = go (dec_lt q (at + length b)) (locate (at + length b) bs q)
  where
    go : Dec (q < at + length b) → (at + length b ≤ q → q < at + length b + length (flatten bs) → Located (at + length b) bs q) → Located at (b ∷ bs) q
    go (yes i) r = record { place = at; block = b; stands = first; offset = q - at; here = omega arith; inside = omega arith }
    go (no i) r =
        let f = r (omega arith) (omega (arith, length-append b (flatten bs))) in
        record { place = f.place; block = f.block; stands = later f.stands; offset = f.offset; here = f.here; inside = f.inside }

-- behind a block the next one starts, or nothing is left
pub next-stands : (at : ℕ) (bs : List (List ℕ)) (p : ℕ) (b : List ℕ) → Stands at bs p b → p + length b < at + length (flatten bs)
    → (c : List ℕ) × Stands at bs (p + length b) c
unfolding flatten
next-stands at bs p b (first {bs = []}) h = absurd (omega (arith, length-append b []))
next-stands at bs p b (first {bs = c ∷ cs}) h = (c, later first)
next-stands at bs p b (later {a} {bs = cs} s) h =
    let r = next-stands (at + length a) cs p b s (omega (arith, length-append a (flatten cs))) in (r.0, later r.1)

module _ (names : ℕ) where
  pub good-stands : (at : ℕ) (bs : List (List ℕ)) (p : ℕ) (b : List ℕ) → All (Good names) bs → Stands at bs p b → Good names b
  good-stands at bs p b g first = g.0
  good-stands at bs p b g (later {a} {bs = cs} s) = good-stands (at + length a) cs p b g.1 s

  tasks-stand : (at : ℕ) (bs : List (List ℕ)) (p : ℕ) (b : List ℕ) → All (Good names) bs → Stands at bs p b → (us : List Task) → length us ≡ at
      → (j : ℕ) → j < length b → get_or (us ++ tasks_of at bs) (p + j) (head 0) ≡ get_or (trace b p (name ∷ [])) j (head 0)
  tasks-stand at bs p b g (first {bs = cs}) us h j l =
      let ts = trace b at (name ∷ []) in
      ap (λ (n : ℕ). get_or (us ++ (ts ++ tasks_of (at + length b) cs)) (n + j) (head 0)) (sym h)
      ∙ get_or-append-add us (ts ++ tasks_of (at + length b) cs) j (head 0)
      ∙ get_or-append ts (tasks_of (at + length b) cs) (head 0) j (omega (arith, good-long names b g.0 at))
  tasks-stand at bs p b g (later {a} {bs = cs} s) us h j l =
      let ts = trace a at (name ∷ []) in
      ap (λ (xs : List Task). get_or xs (p + j) (head 0)) (sym (append_assoc us ts (tasks_of (at + length a) cs)))
      ∙ tasks-stand (at + length a) cs p b g.1 s (us ++ ts) (omega (arith, length-append us ts, good-long names a g.0 at)) j l

-- ---- a table

module _ (k names : ℕ) (bs : List (List ℕ)) (g : All (Good names) bs) (few : length bs < 2 ^ 24) (p : ℕ) (b : List ℕ) (s : Stands 1 bs p b) where
  abbrev ws : List ℕ
  ws = table_of k bs

  parted : Split (table_of k bs) p b
  unfolding table_of
  parted = split 1 bs p b s (word_of k (length bs) ∷ []) refl

  own : Good names b
  own = good-stands names 1 bs p b g s

  pub stands-inside : p + length b ≤ length (table_of k bs)
  stands-inside =
      let r = parted in
      let l = r.long in
      omega (arith, ap length r.whole, length-append r.pre (b ++ r.post), length-append b r.post)

  pub word_at : (j : ℕ) → j < length b → get_or (table_of k bs) (p + j) 0 ≡ get_or b j 0
  word_at j l =
      let r = parted in
      ap₂ (λ (xs : List ℕ) (n : ℕ). get_or xs (n + j) 0) r.whole (sym r.long)
      ∙ get_or-append-add r.pre (b ++ r.post) j 0
      ∙ get_or-append b r.post 0 j l

  pub task-at : (j : ℕ) → j < length b → task_at (table_of k bs) (p + j) ≡ get_or (trace b p (name ∷ [])) j (head 0)
  unfolding task_at
  task-at j l =
      ap (λ (ts : List Task). get_or ts (p + j) (head 0)) (table-tasks names k bs g few)
      ∙ tasks-stand names 1 bs p b g s (head (length (table_of k bs)) ∷ []) refl j l

  pub start-at : task_at (table_of k bs) p ≡ name
  unfolding trace Good
  start-at =
      let f = front names b [] 0 [] own in
      ap (task_at (table_of k bs)) (sym (add-zero p))
      ∙ task-at 0 (let l = ap length f.whole in omega arith)
      ∙ ap (λ (v : List ℕ). get_or (trace v p (name ∷ [])) 0 (head 0)) f.whole

  pub part_at : (j i : ℕ) → 3 ≤ j → j < length b → i ≤ arity (get_or b j 0) → part (table_of k bs) (p + j) i ≡ p + part b j i
  part_at j i low high m =
      let r = parted in
      ap₂ (λ (xs : List ℕ) (n : ℕ). part xs (n + j) i) r.whole (sym r.long)
      ∙ good-part names b own r.pre r.post j i low high m
      ∙ ap (λ (n : ℕ). n + part b j i) r.long
