-- One element more of a list that is written from its start.
use Prim.Native.Nat.{ℕ, ◌+◌, ◌<◌}
use mathlib.Core.Path.{◌≡◌, sym, ap, ap₂, ◌∙◌}
use mathlib.Core.List.{List, [], ◌∷◌, ◌++◌}
use native.Mathlib.Numerals.{add-one}
use lib.ListN.{length, get_or, set, take}
use lib.Seq.{take-suc, take-suc-set}

pub taken_more : (l m : List ℕ) (i v : ℕ) → i < length l → i < length m → v ≡ get_or m i 0 → take i l ≡ take i m → take (i + 1) (set l i v) ≡ take (i + 1) m
taken_more l m i v h k e t =
    ap (λ (n : ℕ). take n (set l i v)) (add-one i)
    ∙ take-suc-set l i v h
    ∙ ap₂ (λ (xs : List ℕ) (x : ℕ). xs ++ x ∷ []) t e
    ∙ sym (take-suc m i 0 k)
    ∙ ap (λ (n : ℕ). take n m) (sym (add-one i))
