-- The blocks of an accepted table: the tasks of a block's words, where it ends, and the list of the blocks.
use mathlib.Core.Path.{◌≡◌, refl, sym, ap, ◌∙◌, subst}
use mathlib.Core.Logic.{◌⊎◌, inl, inr}
use mathlib.Core.List.Memᴰ
use mathlib.Core.List.{List, [], ◌∷◌, ◌++◌, append_assoc, Memᴰ}
use Prim.Native.Nat.{ℕ, zero, suc, ◌+◌, ◌≤◌, ◌<◌}
use native.Mathlib.Nat.{add-zero, le_of_suc-le-suc, not-suc-le-zero, zero-lt-suc, le_of_eq}
use native.Mathlib.Omega.{arith}
use lib.ListN.{length, get_or, drop, replicate, drop_of_length-le}
use lib.Seq.{drop-cons, drop-drop}
use Rattle.table.specs.Words.{argument, arity, size}
use Rattle.table.specs.Scan.{Task, head, name, perms, guard, term, accepted, keep, next, names_at, reading}
use Rattle.table.specs.Code.{skip, part, end_of, trace, tasks, task_at, blocks_from}
use Rattle.table.proofs.Faults.{stands}
use Rattle.table.proofs.Stack.{At, at-step, at-end, at-start, reach, Names, Layered, Terms, none, also, length-next, terms-next}
use Rattle.table.proofs.Stack.{term-next, length-term-next}
use Rattle.table.proofs.Parts.{at-term-end, tasks-length}

-- ---- one block

-- at p the table ends or a block starts
abbrev pub Follows : List ℕ → ℕ → Type 0
Follows ws p = (p ≡ length ws) ⊎ ((p < length ws) × (task_at ws p ≡ name))

-- where names alone wait
next-block : (ws : List ℕ) (p : ℕ) (keys : List ℕ) (ts : List Task) → At ws p keys ts → Names ts → Follows ws p
next-block ws p keys [] a n = inl (at-end ws p keys a)
next-block ws p keys (name ∷ ts) a n = let s = at-step ws p keys name ts a in inr (s.inside, s.task)
next-block ws p keys (head _ ∷ ts) a n = elim n [ ]
next-block ws p keys (perms _ ∷ ts) a n = elim n [ ]
next-block ws p keys (guard ∷ ts) a n = elim n [ ]
next-block ws p keys (term depth home scope ∷ ts) a n = elim n [ ]

-- the words of the block at b: its name, its permission set, its guard and its body, behind which the next block starts or the table ends
pub record Block (ws : List ℕ) (b : ℕ) : Type 0 where
  pub inside : b + 3 < length ws
  pub perms-task : task_at ws (b + 1) ≡ perms (argument (get_or ws b 0))
  pub guard-task : task_at ws (b + 2) ≡ guard
  pub body-task : task_at ws (b + 3) ≡ term 1 b (b ∷ [])
  pub named : argument (get_or ws b 0) < names_at ws
  pub follows : Follows ws (end_of ws (b + 3))

-- the stack behind a block's name
pub record Opened (ws : List ℕ) (b : ℕ) : Type 0 where
  pub keys : List ℕ
  pub below : List Task
  pub named : argument (get_or ws b 0) < names_at ws
  pub there : At ws (suc b) keys (perms (argument (get_or ws b 0)) ∷ guard ∷ term 1 b (b ∷ []) ∷ below)
  pub layered : Names below

pub opened : (ws : List ℕ) → reading ws ≡ accepted → (b : ℕ) → b < length ws → task_at ws b ≡ name → Opened ws b
unfolding next keep
opened ws e b l t =
    let r = reach ws e b l in
    let s = at-step ws b r.keys name r.below (subst (λ (u : Task). At ws b r.keys (u ∷ r.below)) t r.there) in
    record {
      keys = r.keys;
      below = r.below;
      named = (stands (names_at ws) r.keys (get_or ws b 0) name s.faultless).1;
      there = s.rest;
      layered = subst (λ (u : Task). Layered (u ∷ r.below)) t r.holds;
    }

pub block : (ws : List ℕ) → reading ws ≡ accepted → (b : ℕ) → b < length ws → task_at ws b ≡ name → Block ws b
unfolding next keep
block ws e b l t =
    let o = opened ws e b l t in
    let us = o.below in
    let n = argument (get_or ws b 0) in
    let two = at-step ws (suc b) o.keys (perms n) (guard ∷ term 1 b (b ∷ []) ∷ us) o.there in
    let three = at-step ws (suc (suc b)) _ guard (term 1 b (b ∷ []) ∷ us) two.rest in
    let four = at-step ws (suc (suc (suc b))) _ (term 1 b (b ∷ [])) us three.rest in
    let body : suc (suc (suc b)) ≡ b + 3 = omega arith in
    record {
      inside = subst (λ (q : ℕ). q < length ws) body four.inside;
      perms-task = subst (λ (q : ℕ). task_at ws q ≡ perms n) (let k : suc b ≡ b + 1 = omega arith in k) two.task;
      guard-task = subst (λ (q : ℕ). task_at ws q ≡ guard) (let k : suc (suc b) ≡ b + 2 = omega arith in k) three.task;
      body-task = subst (λ (q : ℕ). task_at ws q ≡ term 1 b (b ∷ [])) body four.task;
      named = o.named;
      follows =
          subst (λ (q : ℕ). Follows ws (end_of ws q)) body
          (next-block ws (end_of ws (suc (suc (suc b)))) _ us (at-term-end ws (suc (suc (suc b))) _ 1 b (b ∷ []) us three.rest)
          o.layered);
    }

-- ---- word 0

pub record Head (ws : List ℕ) : Type 0 where
  pub inside : 0 < length ws
  pub head-task : task_at ws 0 ≡ head (length ws)
  pub sized : length ws ≤ size
  pub handled : argument (get_or ws 0 0) ≤ names_at ws
  pub follows : Follows ws 1

names-only : (n : ℕ) → Names (replicate n name ++ [])
names-only zero = tt
names-only (suc n) = names-only n

pub head-word : (ws : List ℕ) → reading ws ≡ accepted → Head ws
unfolding next
head-word ws e =
    let one = at-step ws 0 [] (head (length ws)) [] (at-start ws e) in
    let f = stands (names_at ws) [] (get_or ws 0 0) (head (length ws)) one.faultless in
    record {
      inside = one.inside;
      head-task = one.task;
      sized = f.1;
      handled = f.2;
      follows = next-block ws 1 _ (replicate (argument (get_or ws 0 0)) name ++ []) one.rest (names-only (argument (get_or ws 0 0)));
    }

-- ---- the list of the blocks

-- what is listed further on is listed
listed-later : (t : Task) (ts : List Task) (at b : ℕ) → Memᴰ b (blocks_from ts (suc at)) → Memᴰ b (blocks_from (t ∷ ts) at)
unfolding blocks_from
listed-later (head n) ts at b m = m
listed-later name ts at b m = Memᴰ.tail m
listed-later (perms n) ts at b m = m
listed-later guard ts at b m = m
listed-later (term d h s) ts at b m = m

listed_here : (t : Task) (ts : List Task) (at : ℕ) → t ≡ name → Memᴰ at (blocks_from (t ∷ ts) at)
unfolding blocks_from
listed_here t ts at e = subst (λ (u : Task). Memᴰ at (blocks_from (u ∷ ts) at)) (sym e) (Memᴰ.head refl)

-- a place is listed exactly if a name is its task
name-listed : (ts : List Task) (at j : ℕ) → j < length ts → get_or ts j (head 0) ≡ name → Memᴰ (at + j) (blocks_from ts at)
name-listed [] at j l e = absurd (not-suc-le-zero l)
name-listed (t ∷ ts) at zero l e =
    subst (λ (b : ℕ). Memᴰ b (blocks_from (t ∷ ts) at)) (sym (add-zero at)) (listed_here t ts at e)
name-listed (t ∷ ts) at (suc j) l e =
    listed-later t ts at (at + suc j)
    (subst (λ (b : ℕ). Memᴰ b (blocks_from ts (suc at))) (let k : suc at + j ≡ at + suc j = omega arith in k)
    (name-listed ts (suc at) j (le_of_suc-le-suc l) e))

-- where in the list of tasks a listed place is
record Named (ts : List Task) (at b : ℕ) : Type 0 where
  place : ℕ
  counted : b ≡ at + place
  short : place < length ts
  named : get_or ts place (head 0) ≡ name

named-later : (t : Task) (ts : List Task) (at b : ℕ) → Named ts (suc at) b → Named (t ∷ ts) at b
named-later t ts at b r =
    record {
      place = suc r.place;
      counted = r.counted ∙ (let k : suc at + r.place ≡ at + suc r.place = omega arith in k);
      short = let h = r.short in omega arith;
      named = r.named;
    }

listed-name : (ts : List Task) (at b : ℕ) → Memᴰ b (blocks_from ts at) → Named ts at b
unfolding blocks_from
listed-name [] at b m = absurd (Memᴰ.not-nil m)
listed-name (head n ∷ ts) at b m = named-later (head n) ts at b (listed-name ts (suc at) b m)
listed-name (name ∷ ts) at b m = go (λ i. listed-name ts (suc at) b i) (Memᴰ.cases_cons m)
  where
    go : (Memᴰ b (blocks_from ts (suc at)) → Named ts (suc at) b) → (b ≡ at) ⊎ Memᴰ b (blocks_from ts (suc at))
        → Named (name ∷ ts) at b
    go later (inl e) = record { place = 0; counted = e ∙ sym (add-zero at); short = zero-lt-suc (length ts); named = refl }
    go later (inr i) = named-later name ts at b (later i)
listed-name (perms n ∷ ts) at b m = named-later (perms n) ts at b (listed-name ts (suc at) b m)
listed-name (guard ∷ ts) at b m = named-later guard ts at b (listed-name ts (suc at) b m)
listed-name (term d h s ∷ ts) at b m = named-later (term d h s) ts at b (listed-name ts (suc at) b m)

module _ (ws : List ℕ) (e : reading ws ≡ accepted) where
  pub block_listed : (b : ℕ) → b < length ws → task_at ws b ≡ name → Memᴰ b (blocks_from (tasks ws) 0)
  unfolding task_at
  block_listed b l t =
      subst (λ (n : ℕ). Memᴰ n (blocks_from (tasks ws) 0)) (let k : 0 + b ≡ b = omega arith in k)
      (name-listed (tasks ws) 0 b (subst (λ (n : ℕ). b < n) (sym (tasks-length ws e)) l) t)

  pub listed-block : (b : ℕ) → Memᴰ b (blocks_from (tasks ws) 0) → (b < length ws) × (task_at ws b ≡ name)
  unfolding task_at
  listed-block b m =
      let r = listed-name (tasks ws) 0 b m in
      let k : r.place ≡ b = let c = r.counted in omega arith in (
        subst (λ (n : ℕ). n < length ws) k (subst (λ (n : ℕ). r.place < n) (tasks-length ws e) r.short),
        subst (λ (n : ℕ). task_at ws n ≡ name) k r.named,
      )

-- ---- the blocks in order: the first behind word 0, each behind the body of the one before

-- of the tasks of terms none is a block's name
trace-blocks : (ws : List ℕ) (at : ℕ) (ts us : List Task) → Terms ts
    → blocks_from (trace ws at (ts ++ us)) at
    ≡ blocks_from (trace (drop (skip ws (length ts)) ws) (at + skip ws (length ts)) us) (at + skip ws (length ts))
unfolding trace skip blocks_from
trace-blocks [] at ts us r = refl
trace-blocks (w ∷ ws) at ts us none = ap (λ (n : ℕ). blocks_from (trace (w ∷ ws) n us) n) (sym (add-zero at))
trace-blocks (w ∷ ws) at ts us (also {d} {h} {s} {ts = ts'} r) =
    let t = term d h s in
    ap (λ (l : List Task). blocks_from (trace ws (suc at) l) (suc at)) (sym (append_assoc (next at w t) ts' us))
    ∙ trace-blocks ws (suc at) (next at w t ++ ts') us (term-next at w d h s ts' r)
    ∙ ap (λ (n : ℕ). blocks_from (trace (drop (skip ws n) ws) (suc at + skip ws n) us) (suc at + skip ws n))
    (length-term-next at w d h s ts')
    ∙ (let n = skip ws (arity w + length ts') in
    ap (λ (m : ℕ). blocks_from (trace (drop n ws) m us) m) (let k : suc at + n ≡ at + suc n = omega arith in k))

module _ (ws : List ℕ) (e : reading ws ≡ accepted) where
  -- the blocks from the place p on
  abbrev pub blocks_at : ℕ → List ℕ
  blocks_at p = blocks_from (drop p (tasks ws)) p

  tasks-cons : (p : ℕ) → p < length ws → drop p (tasks ws) ≡ task_at ws p ∷ drop (suc p) (tasks ws)
  unfolding task_at
  tasks-cons p l = drop-cons (tasks ws) p (head 0) (subst (λ (n : ℕ). p < n) (sym (tasks-length ws e)) l)

  blocks_step : (p : ℕ) (t : Task) → p < length ws → task_at ws p ≡ t → blocks_at p ≡ blocks_from (t ∷ drop (suc p) (tasks ws)) p
  blocks_step p t l k =
      ap (λ (ts : List Task). blocks_from ts p) (tasks-cons p l ∙ ap (λ (u : Task). u ∷ drop (suc p) (tasks ws)) k)

  pub blocks-first : blocks_from (tasks ws) 0 ≡ blocks_at 1
  unfolding blocks_from
  blocks-first = let r = head-word ws e in blocks_step 0 (head (length ws)) r.inside r.head-task

  pub blocks_end : blocks_at (length ws) ≡ []
  unfolding blocks_from
  blocks_end =
      ap (λ (ts : List Task). blocks_from ts (length ws))
      (drop_of_length-le (tasks ws) {i = length ws} (le_of_eq (tasks-length ws e)))

  -- no block starts within a term
  blocks-term : (p : ℕ) (keys : List ℕ) (d h : ℕ) (s : List ℕ) (us : List Task) → At ws p keys (term d h s ∷ us)
      → blocks_at p ≡ blocks_at (end_of ws p)
  unfolding blocks_from end_of part
  blocks-term p keys d h s us a =
      let w = get_or ws p 0 in
      let t = term d h s in
      let v = drop (suc p) ws in
      let r = at-step ws p keys t us a in
      let n = skip v (arity w) in
      blocks_step p t r.inside r.task
      ∙ ap (λ (ts : List Task). blocks_from ts (suc p)) r.rest.traced
      ∙ trace-blocks v (suc p) (next p w t) us (terms-next p w d h s)
      ∙ ap (λ (m : ℕ). blocks_from (trace (drop (skip v m) v) (suc p + skip v m) us) (suc p + skip v m)) (length-next p w d h s)
      ∙ ap (λ (l : List ℕ). blocks_from (trace l (suc p + n) us) (suc p + n)) (drop-drop n (suc p) ws)
      ∙ ap (λ (ts : List Task). blocks_from ts (suc p + n)) (sym (at-term-end ws p keys d h s us a).traced)

  pub blocks-next : (b : ℕ) → b < length ws → task_at ws b ≡ name → blocks_at b ≡ b ∷ blocks_at (end_of ws (b + 3))
  unfolding blocks_from next keep
  blocks-next b l t =
      let o = opened ws e b l t in
      let us = o.below in
      let n = argument (get_or ws b 0) in
      let two = at-step ws (suc b) o.keys (perms n) (guard ∷ term 1 b (b ∷ []) ∷ us) o.there in
      let three = at-step ws (suc (suc b)) _ guard (term 1 b (b ∷ []) ∷ us) two.rest in
      blocks_step b name l t
      ∙ ap (λ (bs : List ℕ). b ∷ bs)
      (blocks_step (suc b) (perms n) two.inside two.task
      ∙ blocks_step (suc (suc b)) guard three.inside three.task
      ∙ blocks-term (suc (suc (suc b))) _ 1 b (b ∷ []) us three.rest
      ∙ ap (λ (q : ℕ). blocks_at (end_of ws q)) (let k : suc (suc (suc b)) ≡ b + 3 = omega arith in k))
