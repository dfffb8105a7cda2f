-- Lists of words that are written to a slice one after the other.
use mathlib.Core.Path.{◌≡◌, refl, sym, ap, ap₂, subst, ◌∙◌}
use mathlib.Core.List.{List, [], ◌∷◌, ◌++◌, append_assoc}
use Prim.Native.Nat.{ℕ, suc, ◌+◌, ◌≤◌, ◌<◌}
use native.Mathlib.Nat.{add-zero, add_assoc}
use native.Mathlib.Omega.{arith}
use lib.ListN.{length, take, drop, length-append}
use lib.Seq.{take-length, drop-drop, paste, paste-zero, take-paste, drop-paste}
use Rattle.overlay.specs.Parts.{some, AppendedTo}

-- the same words
pub appended-as : {at : ℕ} {v w before after : List ℕ} {end : ℕ} → w ≡ v → AppendedTo at v before after end → AppendedTo at w before after end
appended-as {at} {v} {w} {before} {after} {end} e r = subst (λ (l : List ℕ). AppendedTo at l before after end) (sym e) r

-- no words
pub appended-none : (at : ℕ) (d : List ℕ) → AppendedTo at [] d d at
appended-none at d = record { ends = sym (add-zero at); written = λ h. paste-zero d at [] }

-- one list, then another
paste-paste : (d : List ℕ) (at : ℕ) (v w : List ℕ) → at + length v + length w ≤ length d
    → paste (paste d at v (length v)) (at + length v) w (length w) ≡ paste d at (v ++ w) (length (v ++ w))
paste-paste d at v w h =
    let n = length v in
    let m = length w in
    let p = paste d at v n in
    let front : take (at + n) p ≡ take at d ++ v =
    take-paste d at v n (omega arith) (omega arith) ∙ ap (λ (l : List ℕ). take at d ++ l) (take-length v) in
    let back : drop (at + n + m) p ≡ drop (at + n + m) d =
    sym (drop-drop m (at + n) p) ∙ ap (drop m) (drop-paste d at v n (omega arith) (omega arith)) ∙ drop-drop m (at + n) d in
    ap₂ (λ (x y : List ℕ). x ++ take m w ++ y) front back
    ∙ ap (λ (x : List ℕ). (take at d ++ v) ++ x ++ drop (at + n + m) d) (take-length w)
    ∙ ap₂ (λ (x : List ℕ) (i : ℕ). x ++ drop i d) (append_assoc (take at d) v w ∙ ap (λ (x : List ℕ). take at d ++ x) (sym (take-length (v ++ w))))
    (add_assoc at n m ∙ ap (λ (i : ℕ). at + i) (sym (length-append v w)))

pub appended-on : {at mid end : ℕ} {v w d d' d'' : List ℕ} → length d' ≡ length d → AppendedTo at v d d' mid → AppendedTo mid w d' d'' end
    → AppendedTo at (v ++ w) d d'' end
appended-on {at} {mid} {end} {v} {w} {d} {d'} {d''} l p q =
    record {
      ends = q.ends ∙ ap (λ (i : ℕ). i + length w) p.ends ∙ add_assoc at (length v) (length w) ∙ ap (λ (i : ℕ). at + i) (sym (length-append v w));
      written = λ h.
          let a = p.ends in
          let b = q.ends in
          let one = p.written (omega arith) in
          let two = q.written (omega arith) in
          two ∙ ap₂ (λ (x : List ℕ) (i : ℕ). paste x i w (length w)) one p.ends ∙ paste-paste d at v w (omega arith);
    }

-- how many lists have words
pub some_more : (l : List ℕ) (ls : List (List ℕ)) → 0 < length l → some (l ∷ ls) ≡ suc (some ls)
unfolding some
some_more [] ls h = let n : ⊥ = omega arith in absurd n
some_more (w ∷ l) ls h = refl

pub some-none : (l : List ℕ) (ls : List (List ℕ)) → length l ≤ 0 → some (l ∷ ls) ≡ some ls
unfolding some
some-none [] ls h = refl
some-none (w ∷ l) ls h = let n : ⊥ = omega arith in absurd n
