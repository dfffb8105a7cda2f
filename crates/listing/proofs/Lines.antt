-- The lines of an accepted table, one after the other.
use Prim.Native.Nat.{ℕ, ◌+◌, ◌*◌, ◌<◌, ◌≤◌}
use mathlib.Core.Path.{◌≡◌, refl, sym, ap, ap₂, ◌∙◌}
use mathlib.Core.Logic.{⊎_elim}
use mathlib.Core.List.{List, [], ◌++◌}
use native.Mathlib.Numerals.{add-one}
use native.Mathlib.Omega.{arith}
use lib.ListN.{length, get_or, take, drop, replicate, length-append, length-replicate, length-drop, length-take, drop_of_length-le}
use lib.Seq.{drop-cons, take_all, get_or-take, take-add, take-append_seam, drop-append_seam, drop-drop}
use Rattle.table.specs.Words.{kind}
use Rattle.text.specs.Writing.{Wrote}
use Rattle.table.specs.Scan.{Task, head, name, perms, guard, term, accepted, names_at, narrow_reading}
use Rattle.table.specs.Code.{task_at}
use Rattle.table.proofs.Faults.{Stands}
use Rattle.table.proofs.Stack.{reach}
use Rattle.table.proofs.Parts.{place-stands}
use Rattle.table.proofs.Widths.{narrow-accepted}
use Rattle.listing.specs.Spelling.{space, spelled}
use Rattle.listing.specs.Listing.{depths, indented, lines, listing}
use Rattle.listing.proofs.Depths.{depths-length}

kind-of-task : (names : ℕ) (keys : List ℕ) (w : ℕ) (t : Task) → Stands names keys w t → kind w ≤ 36
kind-of-task names keys w (head n) f = ⊎_elim (λ h. omega arith) (λ h. omega arith) f.0
kind-of-task names keys w name f = omega (arith, f.0)
kind-of-task names keys w (perms n) f = omega (arith, f.0)
kind-of-task names keys w guard f = omega (arith, f)
kind-of-task names keys w (term d h s) f = f.1

pub indented-length : (d w : ℕ) → length (indented d w) ≡ 2 * d + length (spelled w)
indented-length d w = length-append (replicate (2 * d) space) (spelled w) ∙ ap (λ (n : ℕ). n + length (spelled w)) (length-replicate (2 * d) space)

-- what is left of the listing before the word at i
abbrev pub rest : List ℕ → ℕ → List ℕ
rest ws i = lines (drop i (depths ws)) (drop i ws)

module _ (ws : List ℕ) (e : narrow_reading ws ≡ accepted) where
  pub kind-small : (i : ℕ) → i < length ws → kind (get_or ws i 0) ≤ 36
  kind-small i l =
      let r = (narrow-accepted ws e).0 in kind-of-task (names_at ws) (reach ws r i l).keys (get_or ws i 0) (task_at ws i) (place-stands ws r i l)

  pub rest-start : rest ws 0 ≡ listing ws
  unfolding listing
  rest-start = refl

  pub rest-step : (i : ℕ) → i < length ws → rest ws i ≡ indented (get_or (depths ws) i 0) (get_or ws i 0) ++ rest ws (i + 1)
  unfolding lines
  rest-step i l =
      let m : i < length (depths ws) = omega (arith, depths-length ws e) in
      ap₂ lines (drop-cons (depths ws) i 0 m) (drop-cons ws i 0 l)
      ∙ ap (λ (n : ℕ). indented (get_or (depths ws) i 0) (get_or ws i 0) ++ lines (drop n (depths ws)) (drop n ws)) (sym (add-one i))

  pub rest_end : (i : ℕ) → length ws ≤ i → rest ws i ≡ []
  unfolding lines
  rest_end i h = ap (λ (l : List ℕ). lines l (drop i ws)) (drop_of_length-le (depths ws) {i = i} (omega (arith, depths-length ws e)))

  -- the depth that the code finds in its array
  module _ (ds : List ℕ) (found : take (length ws) ds ≡ depths ws) where
    pub depth-there : length ws ≤ length ds
    depth-there = omega (arith, length-take (length ws) ds, ap length found, depths-length ws e)

    pub depth-here : (i : ℕ) → i < length ws → get_or ds i 0 ≡ get_or (depths ws) i 0
    depth-here i l = sym (get_or-take (length ws) ds i 0 l) ∙ ap (λ (m : List ℕ). get_or m i 0) found

    pub rest-here : (i : ℕ) → i < length ws → rest ws i ≡ indented (get_or ds i 0) (get_or ws i 0) ++ rest ws (i + 1)
    rest-here i l = rest-step i l ∙ ap (λ (d : ℕ). indented d (get_or ws i 0) ++ rest ws (i + 1)) (sym (depth-here i l))

    -- the length of the listing, as far as it is counted
    pub counted : (i n s : ℕ) → i < length ws → s ≡ length (spelled (get_or ws i 0)) → n + length (rest ws i) ≡ length (listing ws)
        → n + (2 * get_or ds i 0 + s) + length (rest ws (i + 1)) ≡ length (listing ws)
    counted i n s l size so_far =
        omega
        (arith, ap length (rest-here i l), length-append (indented (get_or ds i 0) (get_or ws i 0)) (rest ws (i + 1)), indented-length (get_or ds i 0) (get_or ws i 0), so_far, size)

-- ---- a text that is written from its start

module _ (text x y : List ℕ) (at : ℕ) (e : drop at text ≡ x ++ y) where
  pub text-drop : drop (at + length x) text ≡ y
  text-drop = sym (drop-drop (length x) at text) ∙ ap (drop (length x)) e ∙ drop-append_seam x y

  pub text-take : take (at + length x) text ≡ take at text ++ x
  text-take = take-add at (length x) text ∙ ap (λ (l : List ℕ). take at text ++ take (length x) l) e ∙ ap (λ (l : List ℕ). take at text ++ l) (take-append_seam x y)

  pub text-fits : at ≤ length text → at + length x ≤ length text
  text-fits h = omega (arith, ap length e, length-append x y, length-drop at text)

-- the whole text is written
pub whole-text : (text : List ℕ) (at : ℕ) {before after : List ℕ} → at ≤ length text → drop at text ≡ [] → Wrote before 0 (take at text) after at
    → after ≡ text ++ drop (length text) before
whole-text text at {before} h none w =
    let all : at ≡ length text = omega (arith, ap length none, length-drop at text) in
    w.bytes
    ∙ ap (λ (l : List ℕ). l ++ drop at before) (take_all at text (omega arith))
    ∙ ap (λ (n : ℕ). text ++ drop n before) all
