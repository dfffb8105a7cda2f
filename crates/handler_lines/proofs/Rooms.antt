-- How long numbers, sets and the parts of a line on a handler are at most.
use Prim.Native.Nat.{ℕ, zero, suc, ◌+◌, ◌-◌, ◌*◌, ◌/◌, ◌%◌, ◌^◌, ◌≤◌, ◌<◌}
use mathlib.Core.Path.{◌≡◌, refl, ap, ap₂}
use mathlib.Core.Bool.{Bool, true, false, ◌&&◌}
use mathlib.Core.List.{List, [], ◌∷◌, ◌++◌}
use native.Mathlib.Nat.{pow-suc, div-lt_iff_lt-mul}
use native.Mathlib.Omega.{arith}
use borrow.Author.Tests.{eq-eqb, le-leb}
use lib.ListN.{length, length-append, get_or}
use Rattle.table.specs.Words.{argument}
use Rattle.table.proofs.TermWords.{argument-lt}
use Rattle.text.specs.Text.{bytes, left_out, glyph, numeral, decimal, set}
use Rattle.text.proofs.Digits.{numeral-none, numeral-stop, numeral-more}
use Rattle.handler_lines.specs.Parts.{head, tail, head_at, tail_at}

-- no more digits than places
places-most : (base optional places n : ℕ) → length (numeral base optional places n) ≤ places
places-most base optional zero n = rw numeral-none (omega arith)
places-most base optional (suc p) n = go (left_out optional (suc p) n) refl (places-most base optional p (n / base))
  where
    go : (b : Bool) → left_out optional (suc p) n ≡ b → length (numeral base optional p (n / base)) ≤ p → length (numeral base optional (suc p) n) ≤ suc p
    go true t h = let e = ap length (numeral-stop base optional (suc p) n t) in omega arith
    go false t h =
        let e = ap length (numeral-more base optional (suc p) n (omega arith) t) in
        let a = length-append (numeral base optional (suc p - 1) (n / base)) (glyph (n % base) ∷ []) in
        let q : suc p - 1 ≡ p = omega arith in
        let s = ap (λ (k : ℕ). length (numeral base optional k (n / base))) q in omega arith

pub set-most : (s : ℕ) → length (set s) ≤ 6
unfolding set
set-most s = places-most 16 0 6 s

-- a number below 10^(k+1) has at most k+1 digits
numeral-most : (optional places k n : ℕ) → places ≤ suc optional → n < 10 ^ suc k → length (numeral 10 optional places n) ≤ suc k
numeral-most optional zero k n h l = rw numeral-none (omega arith)
numeral-most optional (suc p) zero n h l = go (left_out optional (suc p) n) refl
  where
    go : (b : Bool) → left_out optional (suc p) n ≡ b → length (numeral 10 optional (suc p) n) ≤ 1
    go true t = let e = ap length (numeral-stop 10 optional (suc p) n t) in omega arith
    go false t =
        let e = ap length (numeral-more 10 optional (suc p) n (omega arith) t) in
        let a = length-append (numeral 10 optional (suc p - 1) (n / 10)) (glyph (n % 10) ∷ []) in
        let q : suc p - 1 ≡ p = omega arith in
        let none : n / 10 ≡ 0 = omega arith in
        let stop : left_out optional (suc p - 1) (n / 10) ≡ true = ap₂ ◌&&◌ (eq-eqb (n / 10) 0 none) (le-leb (suc p - 1) optional (omega arith)) in
        let s = ap length (numeral-stop 10 optional (suc p - 1) (n / 10) stop) in omega arith
numeral-most optional (suc p) (suc k) n h l =
    let w : n < 10 ^ suc k * 10 = omega (arith, pow-suc 10 (suc k)) in
    go (left_out optional (suc p) n) refl (numeral-most optional p k (n / 10) (omega arith) ((div-lt_iff_lt-mul (omega arith)).1 w))
  where
    go : (b : Bool) → left_out optional (suc p) n ≡ b → length (numeral 10 optional p (n / 10)) ≤ suc k → length (numeral 10 optional (suc p) n) ≤ suc (suc k)
    go true t r = let e = ap length (numeral-stop 10 optional (suc p) n t) in omega arith
    go false t r =
        let e = ap length (numeral-more 10 optional (suc p) n (omega arith) t) in
        let a = length-append (numeral 10 optional (suc p - 1) (n / 10)) (glyph (n % 10) ∷ []) in
        let q : suc p - 1 ≡ p = omega arith in
        let s = ap (λ (m : ℕ). length (numeral 10 optional m (n / 10))) q in omega arith

pub decimal-most : (k n : ℕ) → n < 10 ^ suc k → length (decimal n) ≤ suc k
unfolding decimal
decimal-most k n l = numeral-most 19 20 k n (omega arith) l

-- a position has at most two digits, a line at most four, a name, which has 24 bits, at most eight
pub head-most : (ws : List ℕ) (b position : ℕ) → position < 64 → length (head_at ws b position) ≤ 24
unfolding head
head-most ws b position h =
    let n = argument (get_or ws b 0) in
    let p = decimal-most 1 position (omega arith) in
    let m = decimal-most 7 n (omega (arith, argument-lt (get_or ws b 0))) in
    let x = length-append (bytes "handler " ++ decimal position) (bytes " name " ++ decimal n) in
    let y = length-append (bytes "handler ") (decimal position) in
    let z = length-append (bytes " name ") (decimal n) in omega arith

pub tail-most : (ws : List ℕ) (b : ℕ) → b < 1024 → length (tail_at ws b) ≤ 31
unfolding tail
tail-most ws b h =
    let s = argument (get_or ws (b + 1) 0) in
    let l = decimal-most 3 (b + 1) (omega arith) in
    let m = set-most s in
    let x = length-append ((bytes "  line " ++ decimal (b + 1)) ++ (bytes " permissions " ++ set s)) (bytes "\n") in
    let w = length-append (bytes "  line " ++ decimal (b + 1)) (bytes " permissions " ++ set s) in
    let y = length-append (bytes "  line ") (decimal (b + 1)) in
    let z = length-append (bytes " permissions ") (set s) in omega arith
