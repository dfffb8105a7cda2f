-- The scan, a word at a time, from a place of the whole table.
-- Assumes nothing.
use mathlib.Core.Path.{◌≡◌, refl, sym, ◌∙◌}
use mathlib.Core.Bool.{Bool, true, false}
use mathlib.Core.List.{List, [], ◌∷◌, ◌++◌}
use Prim.Native.Nat.{ℕ, zero, suc, ◌+◌, ◌<◌, ◌≤◌}
use native.Mathlib.Numerals.{add-one}
use native.Mathlib.Omega.{arith}
use lib.ListN.{length, get_or, drop, drop_of_length-le}
use lib.Seq.{drop-cons}
use Rattle.table.specs.Scan.{Task, accepted, refused, first_of, fault, missing, keep, next, scan}
use Rattle.table.specs.Rest.{judged}
use Rattle.table.proofs.Stack.{scan-go, scan-stop}

-- the first test of a list holds, or does not
pub hit : (b : Bool) (n : ℕ) (ts : List (Bool × ℕ)) → b ≡ true → first_of ((b, n) ∷ ts) ≡ n
unfolding first_of
hit b n ts e = rw e

pub miss : (b : Bool) (n : ℕ) (ts : List (Bool × ℕ)) → b ≡ false → first_of ((b, n) ∷ ts) ≡ first_of ts
unfolding first_of
miss b n ts e = rw e

pub none : first_of [] ≡ 0
unfolding first_of
none = refl

-- what a fault says
pub judged-zero : (n at : ℕ) → judged n at ≡ accepted → n ≡ 0
unfolding judged
judged-zero zero at e = refl
judged-zero (suc n) at e = cc

pub judged-stop : (n at k p : ℕ) → refused k p ≡ judged n at → (m : ℕ) × (n ≡ suc m) × (refused k p ≡ refused (suc m) at)
unfolding judged
judged-stop zero at k p e =
    let z : ◌≡◌ {A = ℕ} 0 1 = cc in
    let f : ⊥ = omega arith in
    absurd f
judged-stop (suc n) at k p e = (n, refl, e)

module _ (names : ℕ) (ws : List ℕ) (keys : List ℕ) (at : ℕ) (t : Task) (ts : List Task) where
  pub none_left : length ws ≤ at → scan names (drop at ws) keys at (t ∷ ts) ≡ refused (missing t) at
  unfolding scan
  none_left h = rw (drop_of_length-le ws h)

  module _ (inside : at < length ws) where
    pub goes_on : fault names keys (get_or ws at 0) t ≡ 0
        → scan names (drop at ws) keys at (t ∷ ts) ≡ scan names (drop (at + 1) ws) (keep keys (get_or ws at 0) t) (at + 1) (next at (get_or ws at 0) t ++ ts)
    goes_on e = rw (add-one, drop-cons ws at 0) (scan-go names (drop (suc at) ws) keys (get_or ws at 0) at t ts e)

    pub stops : (n p : ℕ) → refused n p ≡ judged (fault names keys (get_or ws at 0) t) at → scan names (drop at ws) keys at (t ∷ ts) ≡ refused n p
    stops n p e =
        let j = judged-stop (fault names keys (get_or ws at 0) t) at n p e in
        rw (drop-cons ws at 0) (scan-stop names (drop (suc at) ws) keys (get_or ws at 0) at t ts j.0 j.1 ∙ sym j.2)
