-- The names of a table's words are in range, and words whose names are in range of another number of names are a table of so many.
use mathlib.Core.Path.{◌≡◌, refl, sym, ap, subst, ◌∙◌}
use mathlib.Core.List.{List, [], ◌∷◌, ◌++◌}
use mathlib.Core.Logic.{◌⊎◌, inl, inr, ⊎_elim}
use Prim.Native.Nat.{ℕ, suc, ◌≤◌, ◌<◌}
use native.Mathlib.Omega.{arith}
use lib.ListN.{length, get_or, replicate}
use Rattle.table.specs.Words.{kind, argument, word_of}
use Rattle.table.specs.Scan.{Task, head, name, perms, guard, term, accepted, keep, next, scan, names_at, reading}
use Rattle.table.proofs.Faults.{Stands, stands, faultless}
use Rattle.table.proofs.Stack.{refused-not-accepted, scan-go, scan_step, scan-missing, scan-more, terms-next}
use Rattle.table.proofs.Limits.{Headless, headless-terms, headless-names}
use Rattle.widths.specs.Converters.{rekinded}
use Rattle.widths.proofs.Words.{kind-given, argument-kept}

-- the name of a word, if it has one, is in range
abbrev pub Named : ℕ → ℕ → Type 0
Named names w = (kind w ≡ 2) ⊎ (kind w ≡ 19) → argument w < names

abbrev pub AllNamed : ℕ → List ℕ → Type 0
AllNamed names [] = Unit {0}
AllNamed names (w ∷ ws) = Named names w × AllNamed names ws

pub named_more : (n m : ℕ) → n ≤ m → (ws : List ℕ) → AllNamed n ws → AllNamed m ws
named_more n m h [] a = tt
named_more n m h (w ∷ ws) a = (λ k. let l = a.0 k in omega arith, named_more n m h ws a.1)

-- ---- one word, where no head waits

headless-next : (at w : ℕ) (t : Task) (ts : List Task) → Headless (t ∷ ts) → Headless (next at w t ++ ts)
unfolding next
headless-next at w (head n) ts h = absurd h
headless-next at w name ts h = h
headless-next at w (perms n) ts h = h
headless-next at w guard ts h = h
headless-next at w (term d k s) ts h = headless-terms (next at w (term d k s)) ts (terms-next at w d k s) h

other-kind : (n w : ℕ) → (kind w ≡ 2 → ⊥) → (kind w ≡ 19 → ⊥) → Named n w
other-kind n w f g k = absurd (⊎_elim f g k)

table-kind : (n w : ℕ) → (kind w ≡ 1) ⊎ (kind w ≡ 5) → Named n w
table-kind n w (inl e) = other-kind n w (λ k. omega arith) (λ k. omega arith)
table-kind n w (inr e) = other-kind n w (λ k. omega arith) (λ k. omega arith)

stands-named : (n : ℕ) (keys : List ℕ) (w : ℕ) (t : Task) → Stands n keys w t → Named n w
stands-named n keys w (head m) s = table-kind n w s.0
stands-named n keys w name s = λ k. s.1
stands-named n keys w (perms m) s = other-kind n w (λ e. omega (arith, s.0)) (λ e. omega (arith, s.0))
stands-named n keys w guard s = other-kind n w (λ e. omega arith) (λ e. omega arith)
stands-named n keys w (term d h b) s = ⊎_elim (λ e. let c : ⊥ = omega (arith, s.0) in absurd c) s.5

stands-too : (n m : ℕ) (keys : List ℕ) (w : ℕ) (t : Task) (ts : List Task) → Headless (t ∷ ts) → Named m w → Stands n keys w t → Stands m keys w t
stands-too n m keys w (head k) ts h q s = absurd h
stands-too n m keys w name ts h q s = (s.0, q (inl s.0))
stands-too n m keys w (perms k) ts h q s = s
stands-too n m keys w guard ts h q s = s
stands-too n m keys w (term d k b) ts h q s = (s.0, s.1, s.2, s.3, s.4, λ e. q (inr e))

-- ---- all words

scan-named : (n : ℕ) (ws keys : List ℕ) (at : ℕ) (ts : List Task) → scan n ws keys at ts ≡ accepted → AllNamed n ws
scan-named n [] keys at ts e = tt
scan-named n (w ∷ ws) keys at [] e = absurd (refused-not-accepted (sym (scan-more n w ws keys at) ∙ e))
scan-named n (w ∷ ws) keys at (t ∷ ts) e =
    let s = scan_step n ws keys w at t ts e in
    (stands-named n keys w t (stands n keys w t s.0), scan-named n ws (keep keys w t) (suc at) (next at w t ++ ts) s.1)

scan-too : (n m : ℕ) (ws keys : List ℕ) (at : ℕ) (ts : List Task) → Headless ts → AllNamed m ws → scan n ws keys at ts ≡ accepted
    → scan m ws keys at ts ≡ accepted
unfolding scan
scan-too n m [] keys at [] h q e = refl
scan-too n m [] keys at (t ∷ ts) h q e = absurd (refused-not-accepted (sym (scan-missing n keys at t ts) ∙ e))
scan-too n m (w ∷ ws) keys at [] h q e = absurd (refused-not-accepted (sym (scan-more n w ws keys at) ∙ e))
scan-too n m (w ∷ ws) keys at (t ∷ ts) h q e =
    let s = scan_step n ws keys w at t ts e in
    scan-go m ws keys w at t ts (faultless m keys w t (stands-too n m keys w t ts h q.0 (stands n keys w t s.0)))
    ∙ scan-too n m ws (keep keys w t) (suc at) (next at w t ++ ts) (headless-next at w t ts h) q.1 s.1

-- ---- a table, and its words with word 0 of another kind

pub reading-named : (ws : List ℕ) → reading ws ≡ accepted → AllNamed (names_at ws) ws
unfolding reading
reading-named ws e = scan-named (names_at ws) ws [] 0 (head (length ws) ∷ []) e

module _ (k : ℕ) (o : (k ≡ 1) ⊎ (k ≡ 5)) where
  starts : (w : ℕ) → (kind (word_of k (argument w)) ≡ 1) ⊎ (kind (word_of k (argument w)) ≡ 5)
  starts w = subst (λ (x : ℕ). (x ≡ 1) ⊎ (x ≡ 5)) (sym (kind-given k w)) o

  pub named-kept : (n : ℕ) (ws : List ℕ) → AllNamed n ws → AllNamed n (rekinded k ws)
  unfolding rekinded
  named-kept n [] a = tt
  named-kept n (w ∷ ws) a = (table-kind n _ (starts w), a.1)

  pub reading-kept : (ws : List ℕ) → argument (get_or ws 0 0) ≤ names_at (rekinded k ws) → AllNamed (names_at (rekinded k ws)) ws
      → reading ws ≡ accepted → reading (rekinded k ws) ≡ accepted
  unfolding reading rekinded keep next
  reading-kept [] h q e = e
  reading-kept (w ∷ ws) h q e =
      let v = word_of k (argument w) in
      let n = names_at (w ∷ ws) in
      let m = names_at (v ∷ ws) in
      let t = head (suc (length ws)) in
      let s = scan_step n ws [] w 0 t [] e in
      let a = stands n [] w t s.0 in
      let b = argument-kept k w in
      scan-go m ws [] v 0 t []
      (faultless m [] v t (starts w, a.1, subst (λ (x : ℕ). x ≤ m) (sym b) h))
      ∙ ap (λ (x : ℕ). scan m ws [] 1 (replicate x name ++ [])) b
      ∙ scan-too n m ws [] 1 (replicate (argument w) name ++ []) (headless-names (argument w) [] tt) q.1 s.1
