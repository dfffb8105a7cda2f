-- Laws of the counts: one system more, permission by permission.
use Rattle.std.specs.Prelude.{Ok, Err}
use Prim.Native.Nat.{ℕ, zero, suc, ◌+◌, ◌≤◌, ◌<◌}
use mathlib.Core.Path.{◌≡◌, refl, sym, ap, ap₂, ◌∙◌}
use mathlib.Core.Bool.{true}
use mathlib.Core.List.{List, [], ◌∷◌, ◌++◌, append-nil}
use native.Mathlib.Nat.{zero-add}
use native.Mathlib.Omega.{arith}
use lib.ListN.{length, get_or, set, take, drop, drop_of_length-le}
use lib.Seq.{length-take-le, take_all, get_or-append-add, get_or-drop}
use Rattle.little_endian.proofs.Laws.{copy_more}
use Rattle.permset.specs.Sets.{member}
use Rattle.permset.specs.declared.PermSet.{PermSet}
use Rattle.class_report.specs.declared.Refusal.{Refusal}
use Rattle.class_report.specs.declared.Tally.{Tally}
use Rattle.class_report.specs.Stream.{most_systems}
use Rattle.class_report.specs.Tally.{raised, counted, tallied}

pub raised-more : (n : ℕ) → n < most_systems → n + 1 ≡ raised true n
unfolding raised
raised-more n h = omega arith

pub raised-full : (n : ℕ) → most_systems ≤ n → most_systems ≡ raised true n
unfolding raised
raised-full n h = omega arith

pub length-counted : (i s : ℕ) (ns : List ℕ) → length (counted i s ns) ≡ length ns
unfolding counted
length-counted i s [] = refl
length-counted i s (n ∷ ns) = ap suc (length-counted (suc i) s ns)

-- the count of permission k
pub counted-at : (i s : ℕ) (ns : List ℕ) (k : ℕ) → k < length ns → get_or (counted i s ns) k 0 ≡ raised (member s (i + k)) (get_or ns k 0)
unfolding counted
counted-at i s [] k h = absurd (omega arith)
counted-at i s (n ∷ ns) zero h = ap (λ (j : ℕ). raised (member s j) n) (omega arith)
counted-at i s (n ∷ ns) (suc k) h =
    counted-at (suc i) s ns k (omega arith) ∙ ap (λ (j : ℕ). raised (member s j) (get_or ns k 0)) (omega arith)

-- what stands behind the part that is done
past : (xs ys : List ℕ) (i : ℕ) → i < length xs → get_or (take i xs ++ drop i ys) i 0 ≡ get_or ys i 0
past xs ys i h =
    let l : length (take i xs) ≡ i = length-take-le i xs (omega arith) in
    ap (λ (k : ℕ). get_or (take i xs ++ drop i ys) k 0) (omega arith)
    ∙ get_or-append-add (take i xs) (drop i ys) 0 0
    ∙ get_or-drop i ys 0 0
    ∙ ap (λ (k : ℕ). get_or ys k 0) (omega arith)

-- one count more is done
pub counted-more : (s : ℕ) (ns next : List ℕ) (i n : ℕ) → next ≡ take i (counted 0 s ns) ++ drop i ns → i < length ns
    → n ≡ raised (member s i) (get_or next i 0) → set next i n ≡ take (i + 1) (counted 0 s ns) ++ drop (i + 1) ns
counted-more s ns next i n e h r =
    let l : length (counted 0 s ns) ≡ length ns = length-counted 0 s ns in
    let k : i < length (counted 0 s ns) = omega arith in
    let g : get_or next i 0 ≡ get_or ns i 0 = ap (λ (x : List ℕ). get_or x i 0) e ∙ past (counted 0 s ns) ns i k in
    let v : n ≡ get_or (counted 0 s ns) i 0 = r ∙ ap (raised (member s i)) g ∙ sym (counted-at 0 s ns i h ∙ ap (λ (j : ℕ). raised (member s j) (get_or ns i 0)) (zero-add i)) in
    ap₂ (λ (x : List ℕ) (m : ℕ). set x i m) e v ∙ copy_more (counted 0 s ns) ns i k h

-- all counts are done
pub counted-all : (s : ℕ) (ns next : List ℕ) (i : ℕ) → next ≡ take i (counted 0 s ns) ++ drop i ns → length ns ≤ i → next ≡ counted 0 s ns
counted-all s ns next i e h =
    e
    ∙ ap₂ (λ (x y : List ℕ). x ++ y) (take_all i (counted 0 s ns) (omega (arith, length-counted 0 s ns))) (drop_of_length-le ns {i = i} h)
    ∙ append-nil (counted 0 s ns)

-- one system more, by its outcome
pub tallied-leak : (t : Tally) (s : PermSet) (a : ℕ) (ns : List ℕ) → a ≡ raised true t.accepted → ns ≡ counted 0 s.bits t.leaks
    → record { accepted = a; refused = t.refused; leaks = ns } ≡ tallied t (Ok s)
unfolding tallied
tallied-leak t s a ns e f = ap₂ (λ (x : ℕ) (y : List ℕ). record { accepted = x; refused = t.refused; leaks = y }) e f

pub tallied-refused : (t : Tally) (r : Refusal) (a : ℕ) → a ≡ raised true t.refused
    → record { accepted = t.accepted; refused = a; leaks = t.leaks } ≡ tallied t (Err r)
unfolding tallied
tallied-refused t r a e = ap (λ (x : ℕ). record { accepted = t.accepted; refused = x; leaks = t.leaks }) e
