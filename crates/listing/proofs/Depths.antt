-- The depths that wait, one word after the other: those of the tasks on the scan's stack.
use Prim.Native.Nat.{ℕ, zero, suc, ◌+◌, ◌<◌, ◌≤◌}
use mathlib.Core.Path.{◌≡◌, refl, sym, ap, ◌∙◌, subst}
use mathlib.Core.Logic.{⊎_elim}
use mathlib.Core.Bool.{Bool}
use mathlib.Core.List.{List, [], ◌∷◌, ◌++◌, map, map-append}
use native.Mathlib.Nat.{add-zero}
use native.Mathlib.Numerals.{add-one}
use native.Mathlib.Omega.{arith}
use lib.ListN.{length, get_or, drop, replicate, length-append, length-drop, length-map, get_or-map}
use lib.Seq.{get_or-drop, drop-drop}
use borrow.Author.Tests.{eq-eqb, ne_eqb, lt-ltb, le-ltb}
use Rattle.table.specs.Words.{kind, argument, size, parts, arity}
use Rattle.table.specs.Scan.{Task, head, name, perms, guard, term, accepted, next, under, keep, scan, names_at, narrow_reading}
use Rattle.table.specs.Code.{tasks, task_at}
use Rattle.table.proofs.Faults.{Stands, stands}
use Rattle.table.proofs.Stack.{At, at-start, at-step, at-end, refused-not-accepted, scan_step, scan-missing}
use Rattle.table.proofs.Parts.{tasks-length}
use Rattle.table.proofs.Limits.{size-le}
use Rattle.table.proofs.Widths.{narrow-accepted}
use Rattle.listing.specs.Listing.{depth_of, depths}
use Rattle.listing.specs.Depths.{one_of, leaves}

-- ---- what a word leaves

module _ (w d : ℕ) where
  pub leaves-system : kind w ≡ 1 → replicate (argument w) 0 ≡ leaves w d
  unfolding leaves one_of
  leaves-system e = rw (eq-eqb (kind w) 1 e, one_of)

  pub leaves-handler : kind w ≡ 2 → 0 ∷ 0 ∷ 1 ∷ [] ≡ leaves w d
  unfolding leaves one_of
  leaves-handler e = rw (ne_eqb (kind w) 1 (λ f. omega arith), eq-eqb (kind w) 2 e, one_of)

  pub leaves_none : (kind w ≡ 1 → ⊥) → (kind w ≡ 2 → ⊥) → kind w < 16 → [] ≡ leaves w d
  unfolding leaves one_of
  leaves_none a b h = rw (ne_eqb (kind w) 1 a, ne_eqb (kind w) 2 b, lt-ltb (kind w) 16 h, one_of)

  pub leaves-parts : 16 ≤ kind w → replicate (arity w) (suc d) ≡ leaves w d
  unfolding leaves one_of
  leaves-parts h = rw (ne_eqb (kind w) 1 (λ f. omega arith), ne_eqb (kind w) 2 (λ f. omega arith), le-ltb (kind w) 16 h, one_of)

part-depths : (d h at : ℕ) (s : List ℕ) (bs : List Bool) → map depth_of (map (λ b. term (suc d) h (under b at s)) bs) ≡ replicate (length bs) (suc d)
unfolding depth_of
part-depths d h at s [] = refl
part-depths d h at s (b ∷ bs) = ap (λ (l : List ℕ). suc d ∷ l) (part-depths d h at s bs)

name-depths : (n : ℕ) → map depth_of (replicate n name) ≡ replicate n 0
unfolding depth_of
name-depths zero = refl
name-depths (suc n) = ap (λ (l : List ℕ). 0 ∷ l) (name-depths n)

next-depths : (names : ℕ) (keys : List ℕ) (at w : ℕ) (t : Task) → Stands names keys w t → (kind w ≡ 5 → ⊥) → map depth_of (next at w t) ≡ leaves w (depth_of t)
unfolding next depth_of arity
next-depths names keys at w (head n) f five = name-depths (argument w) ∙ leaves-system w 0 (⊎_elim (λ h. h) (λ h. absurd (five h)) f.0)
next-depths names keys at w name f five = leaves-handler w 0 f.0
next-depths names keys at w (perms n) f five = leaves_none w 0 (λ e. omega (arith, f.0)) (λ e. omega (arith, f.0)) (omega (arith, f.0))
next-depths names keys at w guard f five = leaves_none w 0 (λ e. omega (arith, f)) (λ e. omega (arith, f)) (omega (arith, f))
next-depths names keys at w (term d h s) f five = part-depths d h at s (parts w) ∙ leaves-parts w d f.0

shallow : (names : ℕ) (keys : List ℕ) (w : ℕ) (t : Task) → Stands names keys w t → depth_of t ≤ 64
unfolding depth_of
shallow names keys w (head n) f = omega arith
shallow names keys w name f = omega arith
shallow names keys w (perms n) f = omega arith
shallow names keys w guard f = omega arith
shallow names keys w (term d h s) f = f.4

-- ---- the depths that wait at the place p

pub record Waits (ws : List ℕ) (p : ℕ) (ds : List ℕ) : Type 0 where
  pub keys : List ℕ
  pub stack : List Task
  pub there : At ws p keys stack
  pub depths : map depth_of stack ≡ ds

-- each task that waits has a word
enough : (names : ℕ) (ws keys : List ℕ) (at : ℕ) (ts : List Task) → scan names ws keys at ts ≡ accepted → length ts ≤ length ws
enough names [] keys at [] e = omega arith
enough names [] keys at (t ∷ ts) e = absurd (refused-not-accepted (sym (scan-missing names keys at t ts) ∙ e))
enough names (w ∷ ws) keys at [] e = omega arith
enough names (w ∷ ws) keys at (t ∷ ts) e =
    let s = enough names ws _ _ _ (scan_step names ws keys w at t ts e).1 in
    omega (arith, length-append (next at w t) ts)

pub waits-room : {ws : List ℕ} {p : ℕ} {ds : List ℕ} → Waits ws p ds → p + length ds ≤ length ws
waits-room {ws} {p} {ds} s =
    omega
    (arith, enough (names_at ws) (drop p ws) s.keys p s.stack s.there.scanned, length-drop p ws, ap length s.depths, length-map s.stack depth_of, s.there.bound)

pub waits_start : (ws : List ℕ) → narrow_reading ws ≡ accepted → Waits ws 0 (0 ∷ [])
unfolding depth_of
waits_start ws e = record { keys = []; stack = head (length ws) ∷ []; there = at-start ws (narrow-accepted ws e).0; depths = refl }

-- one word on
pub record Stepped (ws : List ℕ) (p : ℕ) (ds : List ℕ) : Type 0 where
  pub some : 0 < length ds
  pub first : get_or ds 0 0 ≡ get_or (depths ws) p 0
  pub low : get_or ds 0 0 ≤ 64
  pub goes : Waits ws (suc p) (leaves (get_or ws p 0) (get_or ds 0 0) ++ drop 1 ds)

pub narrow_size : (ws : List ℕ) → narrow_reading ws ≡ accepted → length ws ≤ size
narrow_size ws e = size-le ws (narrow-accepted ws e).0

pub depths-length : (ws : List ℕ) → narrow_reading ws ≡ accepted → length (depths ws) ≡ length ws
unfolding depths
depths-length ws e = length-map (tasks ws) depth_of ∙ tasks-length ws (narrow-accepted ws e).0

depth-at : (ws : List ℕ) (p : ℕ) → get_or (depths ws) p 0 ≡ depth_of (task_at ws p)
unfolding depths depth_of task_at
depth-at ws p = get_or-map depth_of (tasks ws) p (head 0)

stepped : (ws : List ℕ) (p : ℕ) (keys : List ℕ) (ts : List Task) → At ws p keys ts → p < length ws → (kind (get_or ws p 0) ≡ 5 → ⊥) → Stepped ws p (map depth_of ts)
stepped ws p keys [] a l five = absurd (let e = at-end ws p keys a in omega arith)
stepped ws p keys (t ∷ ts) a l five =
    let s = at-step ws p keys t ts a in
    let f = stands (names_at ws) keys (get_or ws p 0) t s.faultless in
    record {
      some = omega arith;
      first = sym (depth-at ws p ∙ ap depth_of s.task);
      low = shallow (names_at ws) keys (get_or ws p 0) t f;
      goes =
          record {
            keys = keep keys (get_or ws p 0) t;
            stack = next p (get_or ws p 0) t ++ ts;
            there = s.rest;
            depths =
                map-append depth_of (next p (get_or ws p 0) t) ts
                ∙ ap (λ (l : List ℕ). l ++ map depth_of ts) (next-depths (names_at ws) keys p (get_or ws p 0) t f five);
          };
    }

pub waits-step : {ws : List ℕ} {p : ℕ} {ds : List ℕ} → Waits ws p ds → p < length ws → (kind (get_or ws p 0) ≡ 5 → ⊥) → Stepped ws p ds
waits-step {ws} {p} {ds} s l five = subst (Stepped ws p) s.depths (stepped ws p s.keys s.stack s.there l five)

-- ---- the stack of the code, from `top` on, before the word at i

module _ (ws stack : List ℕ) (top i : ℕ) (waits : Waits ws i (drop top stack)) (l : i < length ws) (five : kind (get_or ws i 0) ≡ 5 → ⊥) where
  step : Stepped ws i (drop top stack)
  step = waits-step waits l five

  here : get_or (drop top stack) 0 0 ≡ get_or stack top 0
  here = get_or-drop top stack 0 0 ∙ ap (λ (n : ℕ). get_or stack n 0) (add-zero top)

  pub depth-inside : top < length stack
  depth-inside = omega (arith, step.some, length-drop top stack)

  pub depth-first : get_or stack top 0 ≡ get_or (depths ws) i 0
  depth-first = sym here ∙ step.first

  pub depth_low : get_or stack top 0 ≤ 64
  depth_low = subst (λ (d : ℕ). d ≤ 64) here step.low

  on : Waits ws (i + 1) (leaves (get_or ws i 0) (get_or stack top 0) ++ drop (top + 1) stack)
  on =
      subst (λ (n : ℕ). Waits ws n (leaves (get_or ws i 0) (get_or stack top 0) ++ drop (top + 1) stack)) (sym (add-one i))
      (subst (λ (m : List ℕ). Waits ws (suc i) (leaves (get_or ws i 0) (get_or stack top 0) ++ m)) (drop-drop 1 top stack)
      (subst (λ (d : ℕ). Waits ws (suc i) (leaves (get_or ws i 0) d ++ drop 1 (drop top stack))) here step.goes))

  pub depth-room : length ws ≤ length stack → length (leaves (get_or ws i 0) (get_or stack top 0)) ≤ top + 1
  depth-room small =
      omega
      (arith, waits-room on, length-append (leaves (get_or ws i 0) (get_or stack top 0)) (drop (top + 1) stack), length-drop (top + 1) stack, depth-inside)

  pub depth-on : (stack' : List ℕ) (r : ℕ) → drop r stack' ≡ leaves (get_or ws i 0) (get_or stack top 0) ++ drop (top + 1) stack → Waits ws (i + 1) (drop r stack')
  depth-on stack' r e = subst (Waits ws (i + 1)) (sym e) on
