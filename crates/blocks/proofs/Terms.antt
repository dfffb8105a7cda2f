-- The words of terms are read alike at every place, with any keys, in any block and under any binders of the same number.
use mathlib.Core.Path.{◌≡◌, refl, sym, ap, ◌∙◌}
use mathlib.Core.List.{List, [], ◌∷◌, ◌++◌, map, append_assoc}
use mathlib.Core.Bool.{Bool, true, false}
use Prim.Native.Nat.{ℕ, suc, ◌+◌}
use native.Mathlib.Nat.{add-zero}
use native.Mathlib.Omega.{arith}
use lib.ListN.{length, take, drop}
use Rattle.table.specs.Words.{parts, arity}
use Rattle.table.specs.Scan.{Task, term, accepted, tests, fault, keep, under, next, scan}
use Rattle.table.specs.Code.{skip}
use Rattle.table.proofs.Stack.{scan-go, scan_step, scan-missing, scan-more, refused-not-accepted, length-term-next}

-- stacks of terms that ask the same of their words: at one depth, under equally many binders
pub data Alike : List Task → List Task → Type 0 where
  none : Alike [] []
  also : {d h h' : ℕ} {s s' : List ℕ} {ts ts' : List Task} → length s ≡ length s' → Alike ts ts'
      → Alike (term d h s ∷ ts) (term d h' s' ∷ ts')

alike-append : (ts ts' us us' : List Task) → Alike ts ts' → Alike us us' → Alike (ts ++ us) (ts' ++ us')
alike-append ts ts' us us' none r = r
alike-append ts ts' us us' (also {ts = t} {ts' = t'} l q) r = also l (alike-append t t' us us' q r)

module _ (at at' h h' : ℕ) (s s' : List ℕ) (l : length s ≡ length s') where
  alike-under : (b : Bool) → length (under b at s) ≡ length (under b at' s')
  unfolding under
  alike-under true = ap suc l
  alike-under false = l

  alike-parts : (d : ℕ) (bs : List Bool) → Alike (map (λ b. term d h (under b at s)) bs) (map (λ b. term d h' (under b at' s')) bs)
  alike-parts d [] = none
  alike-parts d (b ∷ bs) = also (alike-under b) (alike-parts d bs)

  pub alike_next : (w d : ℕ) (ts ts' : List Task) → Alike ts ts' → Alike (next at w (term d h s) ++ ts) (next at' w (term d h' s') ++ ts')
  unfolding next
  alike_next w d ts ts' r =
      alike-append (next at w (term d h s)) (next at' w (term d h' s')) ts ts' (alike-parts (suc d) (parts w)) r

  alike-fault : (names : ℕ) (keys keys' : List ℕ) (w d : ℕ) → fault names keys w (term d h s) ≡ fault names keys' w (term d h' s')
  unfolding fault tests
  alike-fault names keys keys' w d = rw l

module _ (names : ℕ) (keys keys' : List ℕ) (us : List Task) where
  -- what is read to its end alone is read to its end before other words and other tasks
  pub terms-before : (b ws : List ℕ) (at at' : ℕ) (ts ts' : List Task) → Alike ts ts' → scan names b keys at ts ≡ accepted
      → scan names (b ++ ws) keys' at' (ts' ++ us) ≡ scan names ws keys' (at' + length b) us
  unfolding keep
  terms-before [] ws at at' ts ts' none e = ap (λ (n : ℕ). scan names ws keys' n us) (sym (add-zero at'))
  terms-before [] ws at at' ts ts' (also {d} {h} {s} {ts = t} l r) e =
      absurd (refused-not-accepted (sym (scan-missing names keys at (term d h s) t) ∙ e))
  terms-before (w ∷ b) ws at at' ts ts' none e = absurd (refused-not-accepted (sym (scan-more names w b keys at) ∙ e))
  terms-before (w ∷ b) ws at at' ts ts' (also {d} {h} {h'} {s} {s'} {ts = t} {ts' = t'} l r) e =
      let first = scan_step names b keys w at (term d h s) t e in
      scan-go names (b ++ ws) keys' w at' (term d h' s') (t' ++ us) (sym (alike-fault at at' h h' s s' l names keys keys' w d) ∙ first.0)
      ∙ ap (λ (l : List Task). scan names (b ++ ws) keys' (suc at') l) (sym (append_assoc (next at' w (term d h' s')) t' us))
      ∙ terms-before b ws (suc at) (suc at') _ _ (alike_next at at' h h' s s' l w d t t' r) first.1
      ∙ ap (λ (n : ℕ). scan names ws keys' n us) (let k : suc at' + length b ≡ at' + suc (length b) = omega arith in k)

  -- where terms wait and the whole is accepted, their words are read to their end alone, and the rest is accepted
  pub terms-cut : (ws : List ℕ) (at at' : ℕ) (ts ts' : List Task) → Alike ts ts' → scan names ws keys at (ts ++ us) ≡ accepted
      → (scan names (take (skip ws (length ts)) ws) keys' at' ts' ≡ accepted)
      × (scan names (drop (skip ws (length ts)) ws) keys (at + skip ws (length ts)) us ≡ accepted)
  unfolding keep skip scan
  terms-cut [] at at' ts ts' none e = (refl, ap (λ (n : ℕ). scan names [] keys n us) (add-zero at) ∙ e)
  terms-cut [] at at' ts ts' (also {d} {h} {s} {ts = t} l r) e =
      absurd (refused-not-accepted (sym (scan-missing names keys at (term d h s) (t ++ us)) ∙ e))
  terms-cut (w ∷ ws) at at' ts ts' none e = (refl, ap (λ (n : ℕ). scan names (w ∷ ws) keys n us) (add-zero at) ∙ e)
  terms-cut (w ∷ ws) at at' ts ts' (also {d} {h} {h'} {s} {s'} {ts = t} {ts' = t'} l r) e =
      let first = scan_step names ws keys w at (term d h s) (t ++ us) e in
      let n = skip ws (length (next at w (term d h s) ++ t)) in
      let m = skip ws (arity w + length t) in
      let same : n ≡ m = ap (skip ws) (length-term-next at w d h s t) in
      let rest = terms-cut ws (suc at) (suc at') _ _ (alike_next at at' h h' s s' l w d t t' r)
      (ap (λ (l : List Task). scan names ws keys (suc at) l) (append_assoc (next at w (term d h s)) t us) ∙ first.1) in (
        scan-go names (take m ws) keys' w at' (term d h' s') t' (sym (alike-fault at at' h h' s s' l names keys keys' w d) ∙ first.0)
            ∙ ap (λ (k : ℕ). scan names (take k ws) keys' (suc at') (next at' w (term d h' s') ++ t')) (sym same)
            ∙ rest.0,
        ap (λ (k : ℕ). scan names (drop m ws) keys k us) (let k : at + suc m ≡ suc at + m = omega arith in k)
            ∙ ap (λ (k : ℕ). scan names (drop k ws) keys (suc at + k) us) (sym same)
            ∙ rest.1,
      )

-- words that are read to their end as terms are those that `skip` counts
pub terms-length : (names : ℕ) (b ws keys : List ℕ) (at : ℕ) (ts ts' : List Task) → Alike ts ts' → scan names b keys at ts ≡ accepted
    → skip (b ++ ws) (length ts) ≡ length b
unfolding keep skip
terms-length names [] [] keys at ts ts' none e = refl
terms-length names [] (w ∷ ws) keys at ts ts' none e = refl
terms-length names [] ws keys at ts ts' (also {d} {h} {s} {ts = t} l r) e =
    absurd (refused-not-accepted (sym (scan-missing names keys at (term d h s) t) ∙ e))
terms-length names (w ∷ b) ws keys at ts ts' none e = absurd (refused-not-accepted (sym (scan-more names w b keys at) ∙ e))
terms-length names (w ∷ b) ws keys at ts ts' (also {d} {h} {h'} {s} {s'} {ts = t} {ts' = t'} l r) e =
    let first = scan_step names b keys w at (term d h s) t e in
    ap suc
    (ap (skip (b ++ ws)) (sym (length-term-next at w d h s t))
    ∙ terms-length names b ws keys (suc at) _ _ (alike_next at at h h' s s' l w d t t' r) first.1)
