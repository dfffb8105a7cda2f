-- The lines of the permissions, one after the other.
use Prim.Native.Nat.{ℕ, suc, ◌+◌, ◌-◌, ◌≤◌, ◌<◌}
use mathlib.Core.Path.{◌≡◌, refl, sym, ap, ◌∙◌}
use mathlib.Core.List.{List, [], ◌++◌, append-nil, append_assoc}
use native.Mathlib.Omega.{arith}
use native.Mathlib.Numerals.{add-one}
use lib.ListN.{length}
use Rattle.permset.specs.Sets.{width}
use Rattle.text.specs.Writing.{Wrote}
use Rattle.text.proofs.Writing.{wrote_nothing, reworded, then}
use Rattle.class_report.specs.Report.{permission_line, permission_lines}
use Rattle.class_report.specs.Writing.{count_in, Listed}

-- the line of permission i, and those after it
lines_from : (i of : ℕ) (f : ℕ → ℕ) → i < width → permission_lines (width - i) i of f ≡ permission_line i (f i) of ++ permission_lines (width - (i + 1)) (i + 1) of f
unfolding permission_lines
lines_from i of f h =
    let n : width - i ≡ suc (width - (i + 1)) = omega arith in
    ap (λ (k : ℕ). permission_lines k i of f) n ∙ rw add-one refl

module _ (leaks : List ℕ) (of : ℕ) (out : List ℕ) (start : ℕ) where
  pub listed-none : start ≤ length out → Listed leaks of out start 0 out start
  listed-none h = record { done = []; wrote = wrote_nothing out start h; rest = refl; most = omega arith }

  pub listed_next : {i at next : ℕ} {mid last : List ℕ} → i < width → Listed leaks of out start i mid at
      → Wrote mid at (permission_line i (count_in leaks i) of) last next → next ≤ at + 96 → Listed leaks of out start (i + 1) last next
  listed_next {i} {at} {next} {mid} {last} h l w m =
      let p : List ℕ = permission_line i (count_in leaks i) of in
      let q : List ℕ = permission_lines (width - (i + 1)) (i + 1) of (count_in leaks) in
      record {
        done = l.done ++ p;
        wrote = then l.wrote w;
        rest = append_assoc l.done p q ∙ ap (λ (x : List ℕ). l.done ++ x) (sym (lines_from i of (count_in leaks) h)) ∙ l.rest;
        most = omega (arith, l.most);
      }

  pub listed-all : {i at : ℕ} {last : List ℕ} → width ≤ i → Listed leaks of out start i last at
      → Wrote out start (permission_lines width 0 of (count_in leaks)) last at
  unfolding permission_lines
  listed-all {i} {at} {last} h l =
      let n : width - i ≡ 0 = omega arith in
      reworded (sym (append-nil l.done) ∙ ap (λ (k : ℕ). l.done ++ permission_lines k i of (count_in leaks)) (sym n) ∙ l.rest) l.wrote
