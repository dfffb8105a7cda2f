-- Laws of writing: nothing, one byte, and two texts one after the other.
use Prim.Native.Nat.{ℕ, suc, ◌+◌, ◌<◌, ◌≤◌}
use mathlib.Core.Path.{◌≡◌, refl, sym, ap, ◌∙◌, subst}
use mathlib.Core.List.{List, [], ◌∷◌, ◌++◌, append-nil, append_assoc}
use native.Mathlib.Nat.{add-zero, add-sub_of_le}
use native.Mathlib.Numerals.{add-one}
use native.Mathlib.Omega.{arith}
use lib.ListN.{length, take, drop, set, length-append, length-drop, take-append-drop}
use lib.Seq.{set_split, append_snoc, take_at, drop-append-add, drop-drop, length-take-le}
use Rattle.text.specs.Writing.{Wrote, Line}

pub wrote_nothing : (l : List ℕ) (at : ℕ) → at ≤ length l → Wrote l at [] l at
wrote_nothing l at h =
    record {
      bytes = sym (ap (λ (r : List ℕ). r ++ drop at l) (append-nil (take at l)) ∙ take-append-drop at l);
      ends = sym (add-zero at);
      fits = h;
    }

pub wrote-byte : (l : List ℕ) (at b : ℕ) → at < length l → Wrote l at (b ∷ []) (set l at b) (at + 1)
wrote-byte l at b h =
    record {
      bytes = set_split l at b h ∙ sym (append_snoc (take at l) b (drop (suc at) l)) ∙ rw add-one refl;
      ends = refl;
      fits = omega arith;
    }

module _ {before text after : List ℕ} {at next : ℕ} (w : Wrote before at text after next) where
  -- what stands before the place after a text
  before-next : length (take at before ++ text) ≡ next
  before-next =
      length-append (take at before) text
      ∙ ap (λ (k : ℕ). k + length text) (length-take-le at before (omega (arith, w.ends, w.fits)))
      ∙ sym w.ends

  pub wrote-length : length after ≡ length before
  wrote-length =
      ap length w.bytes
      ∙ length-append (take at before ++ text) (drop next before)
      ∙ ap (λ (k : ℕ). k + length (drop next before)) before-next
      ∙ ap (λ (k : ℕ). next + k) (length-drop next before)
      ∙ add-sub_of_le w.fits

-- the same text in other terms
pub reworded : {before text other after : List ℕ} {at next : ℕ} → text ≡ other → Wrote before at text after next → Wrote before at other after next
reworded {before} {text} {other} {after} {at} {next} e w = subst (λ (l : List ℕ). Wrote before at l after next) e w

pub then : {before first middle second after : List ℕ} {at mid next : ℕ} → Wrote before at first middle mid → Wrote middle mid second after next
    → Wrote before at (first ++ second) after next
then {before} {first} {middle} {second} {after} {at} {mid} {next} w x =
    let p : List ℕ = take at before ++ first in
    let taken : take mid middle ≡ p = ap (take mid) w.bytes ∙ take_at p (drop mid before) mid (before-next w) in
    let past : next ≡ length p + length second = x.ends ∙ ap (λ (k : ℕ). k + length second) (sym (before-next w)) in
    let dropped : drop next middle ≡ drop next before =
    ap (drop next) w.bytes
    ∙ ap (λ (k : ℕ). drop k (p ++ drop mid before)) past
    ∙ drop-append-add p (drop mid before) (length second)
    ∙ drop-drop (length second) mid before
    ∙ ap (λ (k : ℕ). drop k before) (sym x.ends) in
    record {
      bytes =
          x.bytes
          ∙ ap (λ (l : List ℕ). l ++ second ++ drop next middle) taken
          ∙ ap (λ (l : List ℕ). p ++ second ++ l) dropped
          ∙ ap (λ (l : List ℕ). l ++ drop next before) (append_assoc (take at before) first second);
      ends = omega (arith, w.ends, x.ends, length-append first second);
      fits = omega (arith, x.fits, wrote-length w);
    }

pub line : {before text after : List ℕ} {next : ℕ} → Wrote before 0 text after next → Line before text after next
line {before} {text} {after} {next} w =
    let f : next ≤ length after = omega (arith, w.fits, wrote-length w) in
    record {
      bytes = w.bytes;
      ends = omega (arith, w.ends);
      fits = f;
      counts = sym (length-take-le next after f);
    }

-- the line alone
pub line_taken : {before text after : List ℕ} {size : ℕ} → Line before text after size → take size after ≡ text
line_taken {before} {text} {after} {size} l = ap (take size) l.bytes ∙ take_at text (drop size before) size (sym l.ends)
