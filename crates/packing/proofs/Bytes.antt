-- The bytes of a system, written in two parts.
use Prim.Native.Nat.{ℕ, ◌+◌, ◌-◌, ◌*◌, ◌≤◌}
use mathlib.Core.Path.{◌≡◌, sym, ap, ap₂, ◌∙◌}
use mathlib.Core.List.{List, [], ◌∷◌, ◌++◌, append-nil, append_assoc}
use native.Mathlib.Omega.{arith}
use lib.ListN.{length, take, drop, length-append, length-drop, drop_of_length-le}
use lib.Seq.{take_all, take_at, drop_at, drop-drop}
use Rattle.text.specs.Writing.{Wrote}
use Rattle.little_endian.specs.LittleEndian.{bytes_of, whole_words}
use Rattle.little_endian.proofs.Laws.{length-bytes_of, bytes_of-append}
use Rattle.packing.specs.Packing.{packed}

module _ (ρ : ℕ) (ws out mid part : List ℕ) (k n : ℕ) (few : length ws ≤ 256) (room : 1032 ≤ length out) where
  head : List ℕ
  head = length ws ∷ ρ ∷ []

  module _ (c : k ≡ whole_words out (length ws ∷ ρ ∷ [])) (m : mid ≡ bytes_of (take k (length ws ∷ ρ ∷ [])) ++ drop (4 * k) out) where
    starts : mid ≡ bytes_of head ++ drop 8 out
    unfolding head
    starts = let e : k ≡ 2 = omega arith in m ∙ ap (λ (j : ℕ). bytes_of (take j (length ws ∷ ρ ∷ [])) ++ drop (4 * j) out) e

    head-long : length (bytes_of head) ≡ 8
    unfolding head
    head-long = length-bytes_of (length ws ∷ ρ ∷ [])

    first : take 8 mid ≡ bytes_of head
    first = ap (take 8) starts ∙ take_at (bytes_of head) (drop 8 out) 8 head-long

    behind : drop 8 mid ≡ drop 8 out
    behind = ap (drop 8) starts ∙ drop_at (bytes_of head) (drop 8 out) 8 head-long

    all : length mid ≡ length out
    all = ap length starts ∙ length-append (bytes_of head) (drop 8 out) ∙ omega (arith, head-long, length-drop 8 out)

    middle : take (length mid - 8) (drop 8 mid) ≡ drop 8 out
    middle = take_all (length mid - 8) (drop 8 mid) (omega (arith, length-drop 8 mid)) ∙ behind

    none : drop (length mid - 8) (drop 8 mid) ≡ []
    none = drop_of_length-le (drop 8 mid) {i = length mid - 8} (omega (arith, length-drop 8 mid))

    pub packed-put : n ≡ whole_words (take (length mid - 8) (drop 8 mid)) ws → part ≡ bytes_of (take n ws) ++ drop (4 * n) (take (length mid - 8) (drop 8 mid))
        → Wrote out 0 (packed ρ ws) (take 8 mid ++ (part ++ drop (length mid - 8) (drop 8 mid))) (8 + 4 * n)
    unfolding head
    packed-put d p =
        let l : length (take (length mid - 8) (drop 8 mid)) ≡ length out - 8 = ap length middle ∙ length-drop 8 out in
        let e : n ≡ length ws = omega (arith, all) in
        let q : part ≡ bytes_of ws ++ drop (8 + 4 * n) out =
        p ∙ ap₂ (λ (x y : List ℕ). bytes_of x ++ drop (4 * n) y) (take_all n ws (omega arith)) middle ∙ ap (λ (x : List ℕ). bytes_of ws ++ x) (drop-drop (4 * n) 8 out) in
        let t : bytes_of (length ws ∷ ρ ∷ []) ++ bytes_of ws ≡ packed ρ ws = sym (bytes_of-append (length ws ∷ ρ ∷ []) ws) in
        record {
          bytes = ap₂ (λ (x y : List ℕ). x ++ y) first (ap₂ (λ (x y : List ℕ). x ++ y) q none ∙ append-nil (bytes_of ws ++ drop (8 + 4 * n) out))
              ∙ sym (append_assoc (bytes_of (length ws ∷ ρ ∷ [])) (bytes_of ws) (drop (8 + 4 * n) out))
              ∙ ap (λ (x : List ℕ). x ++ drop (8 + 4 * n) out) t;
          ends = omega (arith, length-bytes_of (length ws ∷ ρ ∷ ws));
          fits = omega arith;
        }
