-- The code of a table with its blocks rearranged is the code of the table, renamed.
use Prim.Native.Nat.{ℕ, zero, suc, ◌+◌, ◌≤◌, ◌<◌, ◌^◌}
use mathlib.Core.Path.{◌≡◌, refl, sym, ap, ◌∙◌, subst}
use mathlib.Core.List.{List, [], ◌∷◌, flatten, Memᴰ}
use native.Mathlib.Nat.{le_of_eq}
use native.Mathlib.Decide.{dec_lt}
use native.Mathlib.Omega.{arith}
use lib.Dec.{ltb→lt}
use lib.ListN.{length, get_or, get_or-map, get_or-eq_default}
use Rattle.table.specs.Words.{arity, parts, word_of, names_of, term_of}
use Rattle.table.specs.Scan.{Task, head, name, perms, guard, term, accepted, reading}
use Rattle.table.specs.Code.{Node, gap, block, leaf, function, NodeLinked, Within, IsTerm}
use Rattle.table.specs.Code.{part, trace, task_at, term_node, node_for, scope_for, home_for, code}
use Rattle.table.proofs.Blocks.{head-word, block_listed, listed-block}
use Rattle.table.proofs.Blocks.{block as words-of-block}
use Rattle.table.proofs.Parts.{part-le, part-inside, part-task, term-stands}
use Rattle.table.proofs.Linked.{linked}
use Rattle.blocks.specs.Blocks.{table_of, Good, All}
use Rattle.renaming.specs.Renaming.{Renamed, rename_node}
use Rattle.block_order.specs.Order.{Moves}
use Rattle.block_order.proofs.Tasks.{rename_task, trace-renamed, home-renamed, scope-renamed}
use Rattle.block_order.proofs.Standing.{Located, locate, next-stands, stands-inside, word_at, task-at, start-at, part_at}
use Rattle.block_order.proofs.Nodes.{term-renamed}

-- a table of good blocks that is accepted
pub record Sound (k names : ℕ) (bs : List (List ℕ)) : Type 0 where
  pub goods : All (Good names) bs
  pub few : length bs < 2 ^ 24
  pub reads : reading (table_of k bs) ≡ accepted

-- what is needed of a renumbering of the blocks bs as cs
pub record Onto (π : ℕ → ℕ) (bs cs : List (List ℕ)) : Type 0 where
  pub head : π 0 ≡ 0
  pub inside : (p : ℕ) → p < suc (length (flatten bs)) → π p < suc (length (flatten cs))
  pub behind : (p : ℕ) → suc (length (flatten bs)) ≤ p → π p ≡ p
  pub count : length bs ≡ length cs
  pub long : length (flatten bs) ≡ length (flatten cs)
  pub moves : Moves π 1 bs cs

pub long-table : (k : ℕ) (bs : List (List ℕ)) → length (table_of k bs) ≡ suc (length (flatten bs))
unfolding table_of
long-table k bs = refl

first_word : (k : ℕ) (bs : List (List ℕ)) → get_or (table_of k bs) 0 0 ≡ word_of k (length bs)
unfolding table_of
first_word k bs = refl

perms-no-name : {n : ℕ} → perms n ≡ name → ⊥
perms-no-name e = let z : ◌≡◌ {A = ℕ} 0 1 = cc in omega arith

guard-no-name : guard ≡ name → ⊥
guard-no-name e = let z : ◌≡◌ {A = ℕ} 0 1 = cc in omega arith

term-no-name : {d h : ℕ} {s : List ℕ} → term d h s ≡ name → ⊥
term-no-name e = let z : ◌≡◌ {A = ℕ} 0 1 = cc in omega arith

term-no-perms : {d h n : ℕ} {s : List ℕ} → term d h s ≡ perms n → ⊥
term-no-perms e = let z : ◌≡◌ {A = ℕ} 0 1 = cc in omega arith

term-no-guard : {d h : ℕ} {s : List ℕ} → term d h s ≡ guard → ⊥
term-no-guard e = let z : ◌≡◌ {A = ℕ} 0 1 = cc in omega arith

leaf-no-gap : leaf function ≡ gap → ⊥
leaf-no-gap e = let z : ◌≡◌ {A = ℕ} 0 1 = cc in omega arith

block-no-gap : {n s g : ℕ} → block n s g ≡ gap → ⊥
block-no-gap e = let z : ◌≡◌ {A = ℕ} 0 1 = cc in omega arith

module _ (k names : ℕ) (bs cs : List (List ℕ)) (x : Sound k names bs) (y : Sound k names cs) (π : ℕ → ℕ) (m : Onto π bs cs) where
  abbrev ws : List ℕ
  ws = table_of k bs

  abbrev ds : List ℕ
  ds = table_of k cs

  abbrev e : reading (table_of k bs) ≡ accepted
  e = x.reads

  same-long : length (table_of k cs) ≡ length (table_of k bs)
  same-long = let l = m.long in omega (arith, long-table k bs, long-table k cs)

  at : (p : ℕ) → 0 < p → p < length (table_of k bs) → Located 1 bs p
  at p h l = locate 1 bs p h (omega (arith, long-table k bs))

  -- ---- words and tasks

  pub word_moved : (p : ℕ) → get_or (table_of k cs) (π p) 0 ≡ get_or (table_of k bs) p 0
  word_moved zero =
      ap (λ (n : ℕ). get_or ds n 0) m.head ∙ first_word k cs ∙ ap (word_of k) (sym m.count) ∙ sym (first_word k bs)
  word_moved (suc p) = go (dec_lt (suc p) (length ws))
    where
      go : Dec (suc p < length ws) → get_or ds (π (suc p)) 0 ≡ get_or ws (suc p) 0
      go (yes l) =
          let r = at (suc p) (omega arith) l in
          let b = r.block in
          let j = r.offset in
          let v = m.moves r.place b r.stands in
          ap (λ (n : ℕ). get_or ds n 0) (ap π r.here ∙ v.whole j r.inside)
          ∙ word_at k names cs y.goods y.few v.to b v.there j r.inside
          ∙ sym (word_at k names bs x.goods x.few r.place b r.stands j r.inside)
          ∙ ap (λ (n : ℕ). get_or ws n 0) (sym r.here)
      go (no l) =
          let h = same-long in
          ap (λ (n : ℕ). get_or ds n 0) (m.behind (suc p) (omega (arith, long-table k bs)))
          ∙ get_or-eq_default ds 0 {n = suc p} (omega arith)
          ∙ sym (get_or-eq_default ws 0 {n = suc p} (omega arith))

  task-moved : (p : ℕ) → p < length (table_of k bs) → task_at (table_of k cs) (π p) ≡ rename_task π (task_at (table_of k bs) p)
  unfolding rename_task
  task-moved zero l =
      ap (task_at ds) m.head
      ∙ (head-word ds y.reads).head-task
      ∙ ap head same-long
      ∙ sym (ap (rename_task π) (head-word ws e).head-task)
  task-moved (suc p) l =
      let r = at (suc p) (omega arith) l in
      let b = r.block in
      let j = r.offset in
      let v = m.moves r.place b r.stands in
      let ts = trace b r.place (name ∷ []) in
      ap (task_at ds) (ap π r.here ∙ v.whole j r.inside)
      ∙ task-at k names cs y.goods y.few v.to b v.there j r.inside
      ∙ sym (ap (λ (us : List Task). get_or us j (head 0)) (trace-renamed π b r.place v.to (name ∷ []) v.whole))
      ∙ get_or-map (rename_task π) ts j (head 0)
      ∙ ap (rename_task π) (sym (task-at k names bs x.goods x.few r.place b r.stands j r.inside) ∙ ap (task_at ws) (sym r.here))

  -- ---- within a block

  -- a word that starts no block stays behind the one before it
  consecutive : (q : ℕ) → suc q < length (table_of k bs) → (task_at (table_of k bs) (suc q) ≡ name → ⊥) → π (suc q) ≡ suc (π q)
  consecutive q l n = let r = at (suc q) (omega arith) l in go r r.offset refl
    where
      go : (r : Located 1 bs (suc q)) (j : ℕ) → r.offset ≡ j → π (suc q) ≡ suc (π q)
      go r zero i =
          let h = r.here in
          let p : suc q ≡ r.place = omega arith in
          absurd (n (ap (task_at ws) p ∙ start-at k names bs x.goods x.few r.place r.block r.stands))
      go r (suc j) i =
          let h = r.here in
          let o = r.inside in
          let v = m.moves r.place r.block r.stands in
          let a : π (suc q) ≡ v.to + suc j = ap π (let z : suc q ≡ r.place + suc j = omega arith in z) ∙ v.whole (suc j) (omega arith) in
          let b : π q ≡ v.to + j = ap π (let z : q ≡ r.place + j = omega arith in z) ∙ v.whole j (omega arith) in
          omega arith

  -- the words of a block's name, permission set, guard and body
  three : (b : ℕ) → b < length (table_of k bs) → task_at (table_of k bs) b ≡ name → (π (b + 1) ≡ π b + 1) × (π (b + 2) ≡ π b + 2) × (π (b + 3) ≡ π b + 3)
  three b l t =
      let r = words-of-block ws e b l t in
      let i = r.inside in
      let p : task_at ws (suc b) ≡ perms _ = ap (task_at ws) (let z : suc b ≡ b + 1 = omega arith in z) ∙ r.perms-task in
      let g : task_at ws (suc (suc b)) ≡ guard = ap (task_at ws) (let z : suc (suc b) ≡ b + 2 = omega arith in z) ∙ r.guard-task in
      let u : task_at ws (suc (suc (suc b))) ≡ term 1 b (b ∷ []) = ap (task_at ws) (let z : suc (suc (suc b)) ≡ b + 3 = omega arith in z) ∙ r.body-task in
      let first = consecutive b (omega arith) (λ h. perms-no-name (sym p ∙ h)) in
      let second = consecutive (suc b) (omega arith) (λ h. guard-no-name (sym g ∙ h)) in
      let third = consecutive (suc (suc b)) (omega arith) (λ h. term-no-name (sym u ∙ h)) in (
        ap π (let z : b + 1 ≡ suc b = omega arith in z) ∙ (let z : π (suc b) ≡ π b + 1 = omega arith in z),
        ap π (let z : b + 2 ≡ suc (suc b) = omega arith in z) ∙ (let z : π (suc (suc b)) ≡ π b + 2 = omega arith in z),
        ap π (let z : b + 3 ≡ suc (suc (suc b)) = omega arith in z) ∙ (let z : π (suc (suc (suc b))) ≡ π b + 3 = omega arith in z),
      )

  -- ---- parts

  module _ (q d h : ℕ) (s : List ℕ) (l : q < length (table_of k bs)) (t : task_at (table_of k bs) q ≡ term d h s) where
    -- behind the block's three words
    deep : (r : Located 1 bs q) → 3 ≤ r.offset
    deep r = go r.offset refl
      where
        b : ℕ
        b = r.place

        n : task_at ws b ≡ name
        n = start-at k names bs x.goods x.few b r.block r.stands

        low : b < length ws
        low = omega (arith, r.inside, stands-inside k names bs x.goods x.few b r.block r.stands)

        there : (j : ℕ) → r.offset ≡ j → task_at ws (b + j) ≡ term d h s
        there j i = ap (task_at ws) (let o = r.here in let z : b + j ≡ q = omega arith in z) ∙ t

        go : (j : ℕ) → r.offset ≡ j → 3 ≤ j
        go zero i = absurd (term-no-name (sym (there 0 i) ∙ ap (task_at ws) (let z : b + 0 ≡ b = omega arith in z) ∙ n))
        go (suc zero) i = absurd (term-no-perms (sym (there 1 i) ∙ (words-of-block ws e b low n).perms-task))
        go (suc (suc zero)) i = absurd (term-no-guard (sym (there 2 i) ∙ (words-of-block ws e b low n).guard-task))
        go (suc (suc (suc j))) i = omega arith

    part_moved : (i : ℕ) → i < arity (get_or (table_of k bs) q 0) → part (table_of k cs) (π q) i ≡ π (part (table_of k bs) q i)
    part_moved i a = go (at q (positive q t) l)
      where
        positive : (p : ℕ) → task_at ws p ≡ term d h s → 0 < p
        positive zero u = absurd (let z : ◌≡◌ {A = ℕ} 0 1 = cc (sym (head-word ws e).head-task ∙ u) in let w : ⊥ = omega arith in w)
        positive (suc p) u = omega arith

        go : (r : Located 1 bs q) → part ds (π q) i ≡ π (part ws q i)
        go r =
            let b = r.block in
            let j = r.offset in
            let v = m.moves r.place b r.stands in
            let same : get_or ws q 0 ≡ get_or b j 0 =
            ap (λ (n : ℕ). get_or ws n 0) r.here ∙ word_at k names bs x.goods x.few r.place b r.stands j r.inside in
            let few : i ≤ arity (get_or b j 0) = subst (λ (w : ℕ). i ≤ arity w) same (omega arith) in
            let here : part ws q i ≡ r.place + part b j i =
            ap (λ (n : ℕ). part ws n i) r.here
            ∙ part_at k names bs x.goods x.few r.place b r.stands j i (deep r) r.inside few in
            ap (λ (n : ℕ). part ds n i) (ap π r.here ∙ v.whole j r.inside)
            ∙ part_at k names cs y.goods y.few v.to b v.there j i (deep r) r.inside few
            ∙ sym (v.whole (part b j i) (short r here (dec_lt (part b j i) (length b))))
            ∙ ap π (sym here)
          where
            -- a part does not start another block
            short : (r : Located 1 bs q) → part ws q i ≡ r.place + part r.block r.offset i → Dec (part r.block r.offset i < length r.block)
                → part r.block r.offset i < length r.block
            short r here (yes o) = o
            short r here (no o) =
                let b = r.block in
                let z : part ws q i ≡ r.place + length b = omega (arith, part-le b r.offset i r.inside) in
                let n = next-stands 1 bs r.place b r.stands (omega (arith, part-inside ws e q d h s l t i a, long-table k bs)) in
                absurd
                (term-no-name
                (sym (part-task ws e q d h s l t i a) ∙ ap (task_at ws) z ∙ start-at k names bs x.goods x.few (r.place + length b) n.0 n.1))

  -- ---- nodes

  node-moved : (q : ℕ) (t : Task) → q < length (table_of k bs) → task_at (table_of k bs) q ≡ t
      → node_for (table_of k cs) (π q) (rename_task π t) ≡ rename_node π (node_for (table_of k bs) q t)
  unfolding node_for rename_task rename_node arity
  node-moved q (head n) l t = refl
  node-moved q name l t =
      let r = three q l t in
      let a = word_moved q in
      let b = ap (λ (n : ℕ). get_or ds n 0) (sym r.0) ∙ word_moved (q + 1) in
      let c = ap (λ (n : ℕ). get_or ds n 0) (sym r.1) ∙ word_moved (q + 2) in
      rw (a, b, c) refl
  node-moved q (perms n) l t = refl
  node-moved q guard l t = refl
  node-moved q (term d h s) l t =
      let w = get_or ws q 0 in
      let f = term-stands ws e q d h s l t in
      ap (λ (v : ℕ). term_node (term_of v) (part ds (π q) 0) (part ds (π q) 1) (part ds (π q) 2)) (word_moved q)
      ∙ term-renamed π (part ws q 0) (part ws q 1) (part ws q 2) (part ds (π q) 0) (part ds (π q) 1) (part ds (π q) 2) w f.0 f.1
      (λ i. part_moved q d h s l t 0 (ltb→lt 0 (length (parts w)) i))
      (λ i. part_moved q d h s l t 1 (ltb→lt 1 (length (parts w)) i))
      (λ i. part_moved q d h s l t 2 (ltb→lt 2 (length (parts w)) i))

  node-renamed : (q : ℕ) → (code (table_of k cs)).node (π q) ≡ rename_node π ((code (table_of k bs)).node q)
  unfolding code rename_node
  node-renamed q = go (dec_lt q (length ws))
    where
      go : Dec (q < length ws) → node_for ds (π q) (task_at ds (π q)) ≡ rename_node π (node_for ws q (task_at ws q))
      go (yes l) = ap (node_for ds (π q)) (task-moved q l) ∙ node-moved q (task_at ws q) l refl
      go (no l) =
          let h = same-long in
          let i : π q ≡ q = m.behind q (omega (arith, long-table k bs)) in
          (linked ds y.reads).outside (π q) (omega arith) ∙ sym (ap (rename_node π) ((linked ws e).outside q (omega arith)))

  -- a word with a node
  inside-node : (q : ℕ) (n : Node) → (code (table_of k bs)).node q ≡ n → (n ≡ gap → ⊥) → q < length (table_of k bs)
  unfolding code
  inside-node q n h f = go (dec_lt q (length ws))
    where
      go : Dec (q < length ws) → q < length ws
      go (yes l) = l
      go (no l) = absurd (f (sym h ∙ (linked ws e).outside q (omega arith)))

  body-moved : (f : ℕ) → (code (table_of k bs)).node f ≡ leaf function → π (suc f) ≡ suc (π f)
  unfolding code node_for
  body-moved f h =
      let l = inside-node f (leaf function) h leaf-no-gap in
      let i : Within (code ws) (suc f) ((code ws).home f) (f ∷ (code ws).scope f) =
      subst (λ (n : Node). NodeLinked (code ws) f n) h ((linked ws e).nodes f l) in
      consecutive f i.inside (λ t. subst (λ (u : Task). IsTerm (node_for ws (suc f) u)) t i.term)

  start-moved : (b n s g : ℕ) → (code (table_of k bs)).node b ≡ block n s g → π (b + 3) ≡ π b + 3
  unfolding code
  start-moved b n s g h =
      let l = inside-node b (block n s g) h block-no-gap in
      let i = subst (λ (o : Node). NodeLinked (code ws) b o) h ((linked ws e).nodes b l) in
      (three b l (listed-block ws e b i.4).1).2

  block-moved : (b : ℕ) → Memᴰ b (code (table_of k bs)).blocks → Memᴰ (π b) (code (table_of k cs)).blocks
  unfolding code rename_task
  block-moved b h =
      let r = listed-block ws e b h in
      block_listed ds y.reads (π b) (omega (arith, m.inside b (omega (arith, r.0, long-table k bs)), long-table k cs))
      (task-moved b r.0 ∙ ap (rename_task π) r.1)

  pub rearranged-code : Renamed π (code (table_of k bs)) (code (table_of k cs))
  unfolding code
  rearranged-code =
      record {
        names = le_of_eq (ap names_of (first_word k bs ∙ ap (word_of k) m.count ∙ sym (first_word k cs)));
        inside = λ q l. omega (arith, m.inside q (omega (arith, long-table k bs)), long-table k cs);
        node = node-renamed;
        scope = λ q l. ap scope_for (task-moved q l) ∙ scope-renamed π (task_at ws q);
        home = λ q l. ap (λ (t : Task). home_for t (π q)) (task-moved q l) ∙ home-renamed π (task_at ws q) q;
        blocks = block-moved;
        bodies = body-moved;
        starts = start-moved;
      }
