-- The rows of the keywords as the code holds them.
use Prim.Native.Nat.{ℕ, zero, suc, ◌+◌, ◌-◌, ◌*◌, ◌<◌, ◌≤◌}
use mathlib.Core.Path.{◌≡◌, refl, sym, ap, ◌∙◌, subst}
use mathlib.Core.Bool.{Bool}
use mathlib.Core.List.{List, [], ◌∷◌, ◌++◌, map, append_assoc}
use native.Mathlib.Nat.{add-zero, add-sub_of_le}
use native.Mathlib.Omega.{arith}
use native.Mathlib.Decide.{dec_lt}
use lib.Dec.{leb, leb→le}
use lib.ListN.{length, get_or, drop, take, replicate, length-append, length-replicate, get_or-map, get_or-eq_default}
use lib.Seq.{drop-append-add, get_or-drop, take-append_seam, drop-drop}
use Rattle.table.proofs.Constants.{at}
use Rattle.listing.specs.Keywords.{Entry, unused, entries, entry_of, style_letter, packed, packed_all, letters}

-- every keyword has at most 11 letters
sizes : List ℕ
sizes = map (λ e. length e.keyword) entries

short : ℕ → ℕ → Bool
short k n = leb n 11

short-or : (k : ℕ) → Dec (k < 37) → length (entry_of k).keyword ≤ 11
unfolding entry_of entries sizes short
short-or k (yes h) = subst (λ (n : ℕ). n ≤ 11) (get_or-map (λ e. length e.keyword) entries k unused) (leb→le _ 11 (at short sizes tt k h))
short-or k (no n) =
    subst (λ (e : Entry). length e.keyword ≤ 11) (sym (get_or-eq_default entries unused {n = k} (omega arith))) (omega arith)

pub keyword-short : (k : ℕ) → length (entry_of k).keyword ≤ 11
keyword-short k = short-or k (dec_lt k 37)

packed-length : (e : Entry) → length e.keyword ≤ 11 → length (packed e) ≡ 16
unfolding packed
packed-length e h =
    ap (λ (n : ℕ). suc (suc n))
    (length-append e.keyword (replicate (14 - length e.keyword) 46)
    ∙ ap (λ (n : ℕ). length e.keyword + n) (length-replicate (14 - length e.keyword) 46)
    ∙ add-sub_of_le (omega arith))

rows : (es : List Entry) → ((k : ℕ) → length (get_or es k unused).keyword ≤ 11) → (k : ℕ) → k < length es
    → drop (16 * k) (packed_all es) ≡ packed (get_or es k unused) ++ packed_all (drop (suc k) es)
unfolding packed_all
rows [] s k h = absurd (omega arith)
rows (e ∷ es) s zero h = refl
rows (e ∷ es) s (suc k) h =
    let size : length (packed e) ≡ 16 = packed-length e (s 0) in
    let ahead : 16 * suc k ≡ length (packed e) + 16 * k = omega arith in
    ap (λ (n : ℕ). drop n (packed e ++ packed_all es)) ahead
    ∙ drop-append-add (packed e) (packed_all es) (16 * k)
    ∙ rows es (λ i. s (suc i)) k (omega arith)

inside : {k : ℕ} → k ≤ 36 → k < length entries
unfolding entries
inside h = omega arith

module _ (k : ℕ) (h : k ≤ 36) where
  row : drop (16 * k) letters ≡ packed (entry_of k) ++ packed_all (drop (suc k) entries)
  unfolding letters entry_of
  row = rows entries keyword-short k (inside h)

  pub size-at : get_or letters (16 * k) 0 ≡ length (entry_of k).keyword
  unfolding packed
  size-at = ap (λ (n : ℕ). get_or letters n 0) (sym (add-zero (16 * k))) ∙ sym (get_or-drop (16 * k) letters 0 0) ∙ ap (λ (l : List ℕ). get_or l 0 0) row

  pub style-at : get_or letters (16 * k + 1) 0 ≡ style_letter (entry_of k).style
  unfolding packed
  style-at = sym (get_or-drop (16 * k) letters 1 0) ∙ ap (λ (l : List ℕ). get_or l 1 0) row

  pub keyword-at : take (length (entry_of k).keyword) (drop (16 * k + 2) letters) ≡ (entry_of k).keyword
  unfolding packed
  keyword-at =
      ap (take (length (entry_of k).keyword))
      (sym (drop-drop 2 (16 * k) letters)
      ∙ ap (drop 2) row
      ∙ append_assoc (entry_of k).keyword (replicate (14 - length (entry_of k).keyword) 46) (packed_all (drop (suc k) entries)))
      ∙ take-append_seam (entry_of k).keyword _

pub letters-length : length letters ≡ 592
unfolding letters entries packed_all packed style_letter
letters-length = refl

-- the part of the letters that the code takes for a keyword
pub keyword-part : (k n : ℕ) (ls : List ℕ) → k ≤ 36 → ls ≡ letters → n ≡ length (entry_of k).keyword
    → take (16 * k + 2 + n - (16 * k + 2)) (drop (16 * k + 2) ls) ≡ (entry_of k).keyword
keyword-part k n ls h e s =
    let size : 16 * k + 2 + n - (16 * k + 2) ≡ length (entry_of k).keyword = omega arith in
    ap (λ (m : ℕ). take m (drop (16 * k + 2) ls)) size
    ∙ ap (λ (l : List ℕ). take (length (entry_of k).keyword) (drop (16 * k + 2) l)) e
    ∙ keyword-at k h
