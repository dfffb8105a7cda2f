-- The scan step by step, and the stack lemma: terms that wait take the words that `skip` counts, and leave the tasks below them.
use mathlib.Core.Path.{◌≡◌, refl, sym, ap, ◌∙◌, subst}
use mathlib.Core.List.{List, [], ◌∷◌, ◌++◌, map, append_assoc}
use mathlib.Core.Bool.{Bool, true, false, ◌||◌}
use Prim.Native.Nat.{ℕ, zero, suc, ◌+◌, ◌≤◌, ◌<◌}
use native.Mathlib.Nat.{add-zero, add-suc, zero-add}
use native.Mathlib.Decide.{dec_lt}
use native.Mathlib.Omega.{arith}
use lib.ListN.{length, get_or, drop, replicate, length-append, length-map, length-drop, drop_of_length-le}
use lib.Seq.{drop-cons, drop-drop, get_or-drop}
use lib.Dec.{T, eqb}
use Rattle.table.specs.Words.{argument, parts, arity}
use Rattle.table.specs.Scan.{Task, head, name, perms, guard, term, Outcome, accepted, refused, has, key, fault, missing, keep}
use Rattle.table.specs.Scan.{under, next, scan, names_at, reading}
use Rattle.table.specs.Code.{skip, trace, tasks, task_at}

-- ---- one word

abbrev Accepted : Outcome → Type 0
Accepted accepted = Unit {0}
Accepted (refused n p) = ⊥

pub refused-not-accepted : {n p : ℕ} → refused n p ≡ accepted → ⊥
refused-not-accepted e = subst Accepted (sym e) tt

module _ (names : ℕ) (ws keys : List ℕ) (w at : ℕ) (t : Task) (ts : List Task) where
  -- a word that may stand
  pub scan-go : fault names keys w t ≡ 0 → scan names (w ∷ ws) keys at (t ∷ ts) ≡ scan names ws (keep keys w t) (suc at) (next at w t ++ ts)
  unfolding scan
  scan-go e = rw (e, scan) refl

  -- a word that may not
  pub scan-stop : (n : ℕ) → fault names keys w t ≡ suc n → scan names (w ∷ ws) keys at (t ∷ ts) ≡ refused (suc n) at
  unfolding scan
  scan-stop n e = rw (e, scan) refl

  -- where the whole is accepted the word may stand, and the rest is accepted
  pub scan_step : scan names (w ∷ ws) keys at (t ∷ ts) ≡ accepted
      → (fault names keys w t ≡ 0) × (scan names ws (keep keys w t) (suc at) (next at w t ++ ts) ≡ accepted)
  scan_step e = go (fault names keys w t) refl
    where
      go : (n : ℕ) → fault names keys w t ≡ n → (fault names keys w t ≡ 0) × (scan names ws (keep keys w t) (suc at) (next at w t ++ ts) ≡ accepted)
      go zero f = (f, sym (scan-go f) ∙ e)
      go (suc n) f = absurd (refused-not-accepted (sym (scan-stop n f) ∙ e))

pub scan-missing : (names : ℕ) (keys : List ℕ) (at : ℕ) (t : Task) (ts : List Task) → scan names [] keys at (t ∷ ts) ≡ refused (missing t) at
unfolding scan
scan-missing names keys at t ts = refl

pub scan-more : (names w : ℕ) (ws keys : List ℕ) (at : ℕ) → scan names (w ∷ ws) keys at [] ≡ refused 12 at
unfolding scan
scan-more names w ws keys at = refl

-- ---- an accepted table at a place: with these keys and this stack the rest of its words is accepted, and meets the rest of its tasks

pub record At (ws : List ℕ) (p : ℕ) (keys : List ℕ) (ts : List Task) : Type 0 where
  pub bound : p ≤ length ws
  pub scanned : scan (names_at ws) (drop p ws) keys p ts ≡ accepted
  pub traced : drop p (tasks ws) ≡ trace (drop p ws) p ts

pub at-start : (ws : List ℕ) → reading ws ≡ accepted → At ws 0 [] (head (length ws) ∷ [])
unfolding reading tasks
at-start ws e = record { bound = omega arith; scanned = e; traced = refl }

pub trace-step : (w : ℕ) (ws : List ℕ) (at : ℕ) (t : Task) (ts : List Task)
    → trace (w ∷ ws) at (t ∷ ts) ≡ t ∷ trace ws (suc at) (next at w t ++ ts)
unfolding trace
trace-step w ws at t ts = refl

task-at : (ws : List ℕ) (p : ℕ) → task_at ws p ≡ get_or (drop p (tasks ws)) 0 (head 0)
unfolding task_at
task-at ws p = ap (λ (n : ℕ). get_or (tasks ws) n (head 0)) (sym (add-zero p)) ∙ sym (get_or-drop p (tasks ws) 0 (head 0))

-- one word on, where a task waits
pub record Step (ws : List ℕ) (p : ℕ) (keys : List ℕ) (t : Task) (ts : List Task) : Type 0 where
  pub inside : p < length ws
  pub task : task_at ws p ≡ t
  pub faultless : fault (names_at ws) keys (get_or ws p 0) t ≡ 0
  pub rest : At ws (suc p) (keep keys (get_or ws p 0) t) (next p (get_or ws p 0) t ++ ts)

pub at-step : (ws : List ℕ) (p : ℕ) (keys : List ℕ) (t : Task) (ts : List Task) → At ws p keys (t ∷ ts) → Step ws p keys t ts
at-step ws p keys t ts a = go (dec_lt p (length ws))
  where
    go : Dec (p < length ws) → Step ws p keys t ts
    go (no n) =
        let e : drop p ws ≡ [] = drop_of_length-le ws {i = p} (omega (arith, n)) in
        absurd (refused-not-accepted (sym (ap (λ (l : List ℕ). scan (names_at ws) l keys p (t ∷ ts)) e ∙ scan-missing (names_at ws) keys p t ts) ∙ a.scanned))
    go (yes l) =
        let w = get_or ws p 0 in
        let e : drop p ws ≡ w ∷ drop (suc p) ws = drop-cons ws p 0 l in
        let s = scan_step (names_at ws) (drop (suc p) ws) keys w p t ts (sym (ap (λ (l : List ℕ). scan (names_at ws) l keys p (t ∷ ts)) e) ∙ a.scanned) in
        let r : drop p (tasks ws) ≡ t ∷ trace (drop (suc p) ws) (suc p) (next p w t ++ ts) =
        a.traced ∙ ap (λ (l : List ℕ). trace l p (t ∷ ts)) e ∙ trace-step w (drop (suc p) ws) p t ts in
        record {
          inside = l;
          task = task-at ws p ∙ ap (λ (l : List Task). get_or l 0 (head 0)) r;
          faultless = s.0;
          rest =
              record {
                bound = l;
                scanned = s.1;
                traced = ap (λ (n : ℕ). drop n (tasks ws)) (let e : suc p ≡ p + 1 = omega arith in e)
                    ∙ sym (drop-drop 1 p (tasks ws))
                    ∙ ap (drop 1) r;
              };
        }

-- no task waits at the end alone
pub at-end : (ws : List ℕ) (p : ℕ) (keys : List ℕ) → At ws p keys [] → p ≡ length ws
at-end ws p keys a = go (dec_lt p (length ws))
  where
    go : Dec (p < length ws) → p ≡ length ws
    go (no n) = omega (arith, n, a.bound)
    go (yes l) =
        absurd
        (refused-not-accepted
        (sym (ap (λ (v : List ℕ). scan (names_at ws) v keys p []) (drop-cons ws p 0 l) ∙ scan-more (names_at ws) (get_or ws p 0) (drop (suc p) ws) keys p)
        ∙ a.scanned))

-- ---- the stack lemma

pub data Terms : List Task → Type 0 where
  none : Terms []
  also : {d h : ℕ} {s : List ℕ} {ts : List Task} → Terms ts → Terms (term d h s ∷ ts)

pub terms-append : (ts us : List Task) → Terms ts → Terms us → Terms (ts ++ us)
terms-append ts us none r = r
terms-append ts us (also {ts = ts'} q) r = also (terms-append ts' us q r)

-- the parts of a term
pub terms-parts : (d h at : ℕ) (s : List ℕ) (bs : List Bool) → Terms (map (λ b. term d h (under b at s)) bs)
terms-parts d h at s [] = none
terms-parts d h at s (b ∷ bs) = also (terms-parts d h at s bs)

pub length-next : (at w d h : ℕ) (s : List ℕ) → length (next at w (term d h s)) ≡ arity w
unfolding next arity
length-next at w d h s = length-map (parts w) (λ b. term (suc d) h (under b at s))

pub terms-next : (at w d h : ℕ) (s : List ℕ) → Terms (next at w (term d h s))
unfolding next
terms-next at w d h s = terms-parts (suc d) h at s (parts w)

-- the stack behind a term that terms follow
pub term-next : (at w d h : ℕ) (s : List ℕ) (ts : List Task) → Terms ts → Terms (next at w (term d h s) ++ ts)
term-next at w d h s ts r = terms-append (next at w (term d h s)) ts (terms-next at w d h s) r

pub length-term-next : (at w d h : ℕ) (s : List ℕ) (ts : List Task) → length (next at w (term d h s) ++ ts) ≡ arity w + length ts
length-term-next at w d h s ts =
    length-append (next at w (term d h s)) ts ∙ ap (λ (n : ℕ). n + length ts) (length-next at w d h s)

add-suc-left : (p n : ℕ) → p + suc n ≡ suc p + n
add-suc-left p n = omega arith

pub at-pass : (ws vs : List ℕ) (p : ℕ) (keys : List ℕ) (ts us : List Task) → drop p ws ≡ vs → Terms ts → At ws p keys (ts ++ us)
    → At ws (p + skip vs (length ts)) keys us
unfolding skip keep
at-pass ws [] p keys ts us e none a = subst (λ (q : ℕ). At ws q keys us) (sym (add-zero p)) a
at-pass ws [] p keys ts us e (also {d} {h} {s} {ts = ts'} r) a =
    let i = (at-step ws p keys (term d h s) (ts' ++ us) a).inside in
    let n : ⊥ = omega (arith, length-drop p ws, ap length e) in
    absurd n
at-pass ws (v ∷ vs) p keys ts us e none a = subst (λ (q : ℕ). At ws q keys us) (sym (add-zero p)) a
at-pass ws (v ∷ vs) p keys ts us e (also {d} {h} {s} {ts = ts'} r) a =
    subst (λ (q : ℕ). At ws q keys us)
    (ap (λ (n : ℕ). suc p + skip vs n) (length-term-next p v d h s ts') ∙ sym (add-suc-left p (skip vs (arity v + length ts'))))
    (at-pass ws vs (suc p) keys (next p v (term d h s) ++ ts') us tail (term-next p v d h s ts' r) after)
  where
    step : Step ws p keys (term d h s) (ts' ++ us)
    step = at-step ws p keys (term d h s) (ts' ++ us) a

    cut : get_or ws p 0 ∷ drop (suc p) ws ≡ v ∷ vs
    cut = sym (drop-cons ws p 0 step.inside) ∙ e

    tail : drop (suc p) ws ≡ vs
    tail = ap (drop 1) cut

    after : At ws (suc p) keys ((next p v (term d h s) ++ ts') ++ us)
    after =
        subst (λ (l : List Task). At ws (suc p) keys l) (sym (append_assoc (next p v (term d h s)) ts' us))
        (subst (λ (w : ℕ). At ws (suc p) keys (next p w (term d h s) ++ (ts' ++ us))) (ap (λ (l : List ℕ). get_or l 0 0) cut) step.rest)

-- ---- what waits below a name

-- names alone
abbrev pub Names : List Task → Type 0
Names [] = Unit {0}
Names (head n ∷ ts) = ⊥
Names (name ∷ ts) = Names ts
Names (perms n ∷ ts) = ⊥
Names (guard ∷ ts) = ⊥
Names (term d h s ∷ ts) = ⊥

-- below the first name, or the head, stand names alone
abbrev pub Layered : List Task → Type 0
Layered [] = Unit {0}
Layered (head n ∷ ts) = Names ts
Layered (name ∷ ts) = Names ts
Layered (perms n ∷ ts) = Layered ts
Layered (guard ∷ ts) = Layered ts
Layered (term d h s ∷ ts) = Layered ts

pub names-layered : (ts : List Task) → Names ts → Layered ts
names-layered [] h = tt
names-layered (name ∷ ts) h = h
names-layered (head size ∷ ts) h = elim h [ ]
names-layered (perms _ ∷ ts) h = elim h [ ]
names-layered (guard ∷ ts) h = elim h [ ]
names-layered (term depth home scope ∷ ts) h = elim h [ ]

pub names_more : (n : ℕ) (ts : List Task) → Names ts → Names (replicate n name ++ ts)
names_more zero ts h = h
names_more (suc n) ts h = names_more n ts h

terms-layered : (ts us : List Task) → Terms ts → Layered us → Layered (ts ++ us)
terms-layered ts us none l = l
terms-layered ts us (also {ts = ts'} r) l = terms-layered ts' us r l

pub layered-next : (at w : ℕ) (t : Task) (ts : List Task) → Layered (t ∷ ts) → Layered (next at w t ++ ts)
unfolding next
layered-next at w (head n) ts l = names-layered (replicate (argument w) name ++ ts) (names_more (argument w) ts l)
layered-next at w name ts l = names-layered ts l
layered-next at w (perms n) ts l = l
layered-next at w guard ts l = l
layered-next at w (term d h s) ts l = terms-layered (next at w (term d h s)) ts (terms-next at w d h s) l

-- ---- what every step keeps holds at every place

-- a fact of a place, its keys and its stack
abbrev pub Fact : Type 1
Fact = ℕ → List ℕ → List Task → Type 0

-- it passes from a place to the next
abbrev pub Kept : List ℕ → Fact → Type 0
Kept ws F =
    (p : ℕ) (keys : List ℕ) (t : Task) (ts : List Task) → Step ws p keys t ts → F p keys (t ∷ ts)
    → F (suc p) (keep keys (get_or ws p 0) t) (next p (get_or ws p 0) t ++ ts)

pub record Walked (ws : List ℕ) (F : Fact) (p : ℕ) : Type 0 where
  pub keys : List ℕ
  pub stack : List Task
  pub there : At ws p keys stack
  pub holds : F p keys stack

module _ (ws : List ℕ) (F : Fact) (kept : Kept ws F) where
  -- n words on
  pub walk : (p : ℕ) (keys : List ℕ) (ts : List Task) → At ws p keys ts → F p keys ts → (n : ℕ) → p + n ≤ length ws → Walked ws F (p + n)
  walk p keys ts a f zero h =
      subst (Walked ws F) (sym (add-zero p)) (record { keys = keys; stack = ts; there = a; holds = f })
  walk p keys ts a f (suc n) h = go (walk p keys ts a f n (omega arith))
    where
      on : (keys : List ℕ) (ts : List Task) → At ws (p + n) keys ts → F (p + n) keys ts → Walked ws F (suc (p + n))
      on keys [] b g = let e = at-end ws (p + n) keys b in let c : ⊥ = omega arith in absurd c
      on keys (t ∷ ts) b g =
          let s = at-step ws (p + n) keys t ts b in
          record { keys = _; stack = _; there = s.rest; holds = kept (p + n) keys t ts s g }

      go : Walked ws F (p + n) → Walked ws F (p + suc n)
      go r = subst (Walked ws F) (sym (add-suc p n)) (on r.keys r.stack r.there r.holds)

-- the task at p waits on top of the stack there
pub record Reached (ws : List ℕ) (F : Fact) (p : ℕ) : Type 0 where
  pub keys : List ℕ
  pub below : List Task
  pub there : At ws p keys (task_at ws p ∷ below)
  pub holds : F p keys (task_at ws p ∷ below)

pub reach-with : (ws : List ℕ) (F : Fact) → Kept ws F → F 0 [] (head (length ws) ∷ []) → reading ws ≡ accepted
    → (p : ℕ) → p < length ws → Reached ws F p
reach-with ws F kept f e p h = go (walk ws F kept 0 [] (head (length ws) ∷ []) (at-start ws e) f p (omega arith))
  where
    on : (keys : List ℕ) (ts : List Task) → At ws p keys ts → F p keys ts → Reached ws F p
    on keys [] a g = let z = at-end ws p keys a in let c : ⊥ = omega arith in absurd c
    on keys (t ∷ ts) a g =
        let k : t ≡ task_at ws p = sym (at-step ws p keys t ts a).task in
        record {
          keys = keys;
          below = ts;
          there = subst (λ (u : Task). At ws p keys (u ∷ ts)) k a;
          holds = subst (λ (u : Task). F p keys (u ∷ ts)) k g;
        }

    go : Walked ws F (0 + p) → Reached ws F p
    go w = let r : Walked ws F p = subst (Walked ws F) (zero-add p) w in on r.keys r.stack r.there r.holds

-- stacks are layered
abbrev pub LayeredAt : Fact
LayeredAt p keys ts = Layered ts

pub reach : (ws : List ℕ) → reading ws ≡ accepted → (p : ℕ) → p < length ws → Reached ws LayeredAt p
reach ws e p h = reach-with ws LayeredAt (λ q keys t ts s l. layered-next q (get_or ws q 0) t ts l) tt e p h

-- keys stay
or_right : (a b : Bool) → T b → T (a || b)
or_right true b h = tt
or_right false b h = h

pub has-keep : (keys : List ℕ) (w : ℕ) (t : Task) (k : ℕ) → T (has keys k) → T (has (keep keys w t) k)
unfolding keep has
has-keep keys w (head n) k h = h
has-keep keys w name k h = h
has-keep keys w (perms n) k h = or_right (eqb (key n (argument w)) k) (has keys k) h
has-keep keys w guard k h = h
has-keep keys w (term d h s) k i = i
