-- Texts added one after the other, as far as there is room.
use Prim.Native.Nat.{ℕ, ◌≤◌}
use mathlib.Core.Path.{◌≡◌, refl, sym, ap, ◌∙◌, subst}
use mathlib.Core.List.{List, [], ◌∷◌, ◌++◌}
use native.Mathlib.Nat.{add-zero}
use native.Mathlib.Omega.{arith}
use lib.ListN.{length, drop, length-append}
use Rattle.text.specs.Added.{Added}
use Rattle.text.specs.Writing.{Wrote}
use Rattle.text.proofs.Writing.{wrote_nothing, then}

pub added-nothing : (l : List ℕ) (at : ℕ) → Added l at [] l at
added-nothing l at = record { ends = sym (add-zero at); same = refl; bytes = λ h. wrote_nothing l at h }

pub added_then : {before first middle second after : List ℕ} {at mid next : ℕ} → Added before at first middle mid → Added middle mid second after next
    → Added before at (first ++ second) after next
added_then {before} {first} {middle} {second} {after} {at} {mid} {next} x y =
    record {
      ends = omega (arith, x.ends, y.ends, length-append first second);
      same = y.same ∙ x.same;
      bytes = λ h. then (x.bytes (omega (arith, y.ends))) (y.bytes (omega (arith, x.same)));
    }

pub added-as : {before text other after : List ℕ} {at next : ℕ} → text ≡ other → Added before at text after next → Added before at other after next
added-as {before} {text} {other} {after} {at} {next} e w = subst (λ (l : List ℕ). Added before at l after next) e w

-- a part of no bytes
pub nothing-before : (l out : List ℕ) → length l ≡ 0 → l ++ out ≡ out
nothing-before [] out h = refl
nothing-before (x ∷ xs) out h = absurd (omega arith)

-- the whole text at the start of a slice that has room for it
pub added-whole : {before text after : List ℕ} {next : ℕ} → Added before 0 text after next → length text ≤ length before
    → after ≡ text ++ drop (length text) before
added-whole {before} {text} {after} {next} a h =
    let t : Wrote before 0 text after next = a.bytes (omega (arith, a.ends)) in
    let size : next ≡ length text = omega (arith, a.ends) in
    t.bytes ∙ ap (λ (n : ℕ). text ++ drop n before) size
