-- Where the parts of a term stand in an accepted table, what task each meets, and where a term and a block end.
use mathlib.Core.Path.{◌≡◌, refl, sym, ap, ◌∙◌, subst}
use mathlib.Core.List.{List, [], ◌∷◌, ◌++◌, map, map-append, append_assoc}
use mathlib.Core.Bool.{Bool, false}
use Prim.Native.Nat.{ℕ, zero, suc, ◌+◌, ◌≤◌, ◌<◌, suc-le-suc, zero-le}
use native.Mathlib.Nat.{add-zero, suc-add, zero-add, add_assoc, le_refl}
use native.Mathlib.Omega.{arith}
use lib.ListN.{length, get_or, take, drop, length-map, length-drop, take-append-drop}
use lib.Seq.{drop-cons, drop-drop, drop-length, length-take-le}
use Rattle.table.specs.Words.{parts, arity}
use Rattle.table.specs.Scan.{Task, head, term, accepted, keep, under, next, scan, names_at, reading}
use Rattle.table.specs.Code.{skip, part, end_of, trace, tasks, task_at}
use Rattle.table.proofs.Faults.{Stands, stands}
use Rattle.table.proofs.Stack.{At, Step, at-step, at-pass, reach, Reached, LayeredAt, terms-parts, scan_step, scan-more}
use Rattle.table.proofs.Stack.{refused-not-accepted}

-- ---- the words that terms take

pub skip-le : (ws : List ℕ) (n : ℕ) → skip ws n ≤ length ws
unfolding skip
skip-le [] n = le_refl 0
skip-le (w ∷ ws) zero = zero-le
skip-le (w ∷ ws) (suc n) = suc-le-suc (skip-le ws (arity w + n))

pub skip-zero : (ws : List ℕ) → skip ws 0 ≡ 0
unfolding skip
skip-zero [] = refl
skip-zero (w ∷ ws) = refl

pub skip-add : (ws : List ℕ) (m n : ℕ) → skip ws (m + n) ≡ skip ws m + skip (drop (skip ws m) ws) n
unfolding skip
skip-add [] m n = refl
skip-add (w ∷ ws) zero n = ap (skip (w ∷ ws)) (zero-add n) ∙ sym (zero-add (skip (w ∷ ws) n))
skip-add (w ∷ ws) (suc m) n =
    ap (skip (w ∷ ws)) (suc-add m n)
    ∙ ap suc (ap (skip ws) (sym (add_assoc (arity w) m n)) ∙ skip-add ws (arity w + m) n)
    ∙ sym (suc-add (skip ws (arity w + m)) (skip (drop (skip ws (arity w + m)) ws) n))

-- ---- places of parts

-- the first part stands behind the term's own word
pub part-zero : (ws : List ℕ) (p : ℕ) → part ws p 0 ≡ suc p
unfolding part
part-zero ws p = ap (λ (n : ℕ). suc p + n) (skip-zero (drop (suc p) ws)) ∙ add-zero (suc p)

pub part-after : (ws : List ℕ) (p k : ℕ) → p < part ws p k
unfolding part
part-after ws p k = omega arith

pub part-le : (ws : List ℕ) (p k : ℕ) → p < length ws → part ws p k ≤ length ws
unfolding part
part-le ws p k h = omega (arith, skip-le (drop (suc p) ws) k, length-drop (suc p) ws)

pub end_after : (ws : List ℕ) (p : ℕ) → p < end_of ws p
unfolding end_of
end_after ws p = part-after ws p (arity (get_or ws p 0))

pub end-le : (ws : List ℕ) (p : ℕ) → p < length ws → end_of ws p ≤ length ws
unfolding end_of
end-le ws p h = part-le ws p (arity (get_or ws p 0)) h

-- a part stands where the one before it ends
pub part-suc : (ws : List ℕ) (p k : ℕ) → part ws p k < length ws → part ws p (suc k) ≡ end_of ws (part ws p k)
unfolding part end_of skip
part-suc ws p k h =
    let q = part ws p k in
    let v = drop (suc p) ws in
    let one : skip v (suc k) ≡ skip v k + skip (drop (skip v k) v) 1 =
    ap (skip v) (let e : suc k ≡ k + 1 = omega arith in e) ∙ skip-add v k 1 in
    let there : drop (skip v k) v ≡ get_or ws q 0 ∷ drop (suc q) ws = drop-drop (skip v k) (suc p) ws ∙ drop-cons ws q 0 h in
    let next : skip (drop (skip v k) v) 1 ≡ suc (skip (drop (suc q) ws) (arity (get_or ws q 0))) =
    ap (λ (l : List ℕ). skip l 1) there ∙ ap (λ (n : ℕ). suc (skip (drop (suc q) ws) n)) (add-zero (arity (get_or ws q 0))) in
    omega (arith, one, next)

-- ---- the stack at the parts of a term, and at its end

-- the task of a part
abbrev pub part_task : ℕ → ℕ → ℕ → List ℕ → Bool → Task
part_task p d h s b = term (suc d) h (under b p s)

module _ (ws : List ℕ) (p : ℕ) (keys : List ℕ) (d h : ℕ) (s : List ℕ) (us : List Task) (a : At ws p keys (term d h s ∷ us)) where
  pub at_part : (k : ℕ) → k ≤ arity (get_or ws p 0)
      → At ws (part ws p k) keys (map (part_task p d h s) (drop k (parts (get_or ws p 0))) ++ us)
  unfolding part arity next keep
  at_part k l =
      let bs = parts (get_or ws p 0) in
      let f = part_task p d h s in
      let cut : map f bs ++ us ≡ map f (take k bs) ++ (map f (drop k bs) ++ us) =
      ap (λ (l : List Bool). map f l ++ us) (sym (take-append-drop k bs))
      ∙ ap (λ (l : List Task). l ++ us) (map-append f (take k bs) (drop k bs))
      ∙ append_assoc (map f (take k bs)) (map f (drop k bs)) us in
      let long : length (map f (take k bs)) ≡ k = length-map (take k bs) f ∙ length-take-le k bs l in
      subst (λ (n : ℕ). At ws (suc p + skip (drop (suc p) ws) n) keys (map f (drop k bs) ++ us)) long
      (at-pass ws (drop (suc p) ws) (suc p) keys (map f (take k bs)) (map f (drop k bs) ++ us) refl (terms-parts (suc d) h p s (take k bs))
      (subst (λ (l : List Task). At ws (suc p) keys l) cut (at-step ws p keys (term d h s) us a).rest))

  pub at-term-end : At ws (end_of ws p) keys us
  unfolding end_of arity
  at-term-end =
      let bs = parts (get_or ws p 0) in
      subst (λ (l : List Bool). At ws (end_of ws p) keys (map (part_task p d h s) l ++ us)) (drop-length bs)
      (at_part (length bs) (le_refl (length bs)))

-- ---- the tasks of an accepted table

trace-length : (names : ℕ) (ws keys : List ℕ) (at : ℕ) (ts : List Task) → scan names ws keys at ts ≡ accepted → length (trace ws at ts) ≡ length ws
unfolding trace
trace-length names [] keys at ts e = refl
trace-length names (w ∷ ws) keys at [] e = absurd (refused-not-accepted (sym (scan-more names w ws keys at) ∙ e))
trace-length names (w ∷ ws) keys at (t ∷ ts) e =
    ap suc (trace-length names ws (keep keys w t) (suc at) (next at w t ++ ts) (scan_step names ws keys w at t ts e).1)

module _ (ws : List ℕ) (e : reading ws ≡ accepted) where
  pub tasks-length : length (tasks ws) ≡ length ws
  unfolding tasks reading
  tasks-length = trace-length (names_at ws) ws [] 0 (head (length ws) ∷ []) e

  -- the word at p may stand for its task
  pub place-stands : (p : ℕ) (l : p < length ws) → Stands (names_at ws) (reach ws e p l).keys (get_or ws p 0) (task_at ws p)
  place-stands p l =
      let r = reach ws e p l in
      stands (names_at ws) r.keys (get_or ws p 0) (task_at ws p) (at-step ws p r.keys (task_at ws p) r.below r.there).faultless

  pub term-stands : (p d h : ℕ) (s : List ℕ) (l : p < length ws) → task_at ws p ≡ term d h s
      → Stands (names_at ws) (reach ws e p l).keys (get_or ws p 0) (term d h s)
  term-stands p d h s l t = subst (λ (u : Task). Stands (names_at ws) (reach ws e p l).keys (get_or ws p 0) u) t (place-stands p l)

  -- a term: its part k is a term one deeper in the same block, under the same binders or also under the term itself
  module _ (p d h : ℕ) (s : List ℕ) (l : p < length ws) (t : task_at ws p ≡ term d h s) where
    reached : Reached ws LayeredAt p
    reached = reach ws e p l

    waits : At ws p reached.keys (term d h s ∷ reached.below)
    waits = subst (λ (u : Task). At ws p reached.keys (u ∷ reached.below)) t reached.there

    part_step : (k : ℕ) → k < arity (get_or ws p 0)
        → Step ws (part ws p k) reached.keys (part_task p d h s (get_or (parts (get_or ws p 0)) k false))
        (map (part_task p d h s) (drop (suc k) (parts (get_or ws p 0))) ++ reached.below)
    unfolding arity
    part_step k m =
        at-step ws (part ws p k) reached.keys _ _
        (subst (λ (l : List Bool). At ws (part ws p k) reached.keys (map (part_task p d h s) l ++ reached.below))
        (drop-cons (parts (get_or ws p 0)) k false m) (at_part ws p reached.keys d h s reached.below waits k (omega arith)))

    pub part-inside : (k : ℕ) → k < arity (get_or ws p 0) → part ws p k < length ws
    part-inside k m = (part_step k m).inside

    pub part-task : (k : ℕ) → k < arity (get_or ws p 0)
        → task_at ws (part ws p k) ≡ term (suc d) h (under (get_or (parts (get_or ws p 0)) k false) p s)
    part-task k m = (part_step k m).task
