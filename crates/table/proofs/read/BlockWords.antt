-- The scan of a block's first three words, by what is found at each place.
-- Assumes nothing.
use mathlib.Core.Path.{◌≡◌, refl, sym, ap, ◌∙◌}
use mathlib.Core.Bool.{Bool, true, false, not}
use mathlib.Core.List.{List, [], ◌∷◌}
use Prim.Native.Nat.{ℕ, suc, ◌+◌, ◌<◌, ◌≤◌}
use native.Mathlib.Decide.{dec_lt}
use native.Mathlib.Omega.{arith}
use lib.Dec.{eqb}
use lib.ListN.{length, get_or, drop}
use borrow.Author.Tests.{eq-eqb, ne_eqb, le-leb, lt-leb}
use Rattle.table.specs.Words.{kind, argument}
use Rattle.table.specs.Scan.{Task, name, perms, guard, term, refused, first_of, has, key, tests, fault, missing, keep, next, scan}
use Rattle.table.specs.Rest.{judged}
use Rattle.table.proofs.read.Steps.{hit, miss, none, stops, none_left, goes_on}

module _ (names : ℕ) (ws keys : List ℕ) (at : ℕ) where
  -- no word of the kind k is there
  abbrev pub Lacks : ℕ → Type 0
  Lacks k = at < length ws → kind (get_or ws at 0) ≡ k → ⊥

  abbrev pub Has : ℕ → Type 0
  Has k = (at < length ws) × (kind (get_or ws at 0) ≡ k)

  pub refuses : (t : Task) (ts : List Task) (n : ℕ) → at < length ws → fault names keys (get_or ws at 0) t ≡ suc n → scan names (drop at ws) keys at (t ∷ ts) ≡ refused (suc n) at
  unfolding judged
  refuses t ts n inside e = stops names ws keys at t ts inside (suc n) at (ap (λ (f : ℕ). judged f at) (sym e))

  -- a task whose first test is for the kind k, with number 4
  lacks : (t : Task) (ts : List Task) (k : ℕ) (more : List (Bool × ℕ)) → missing t ≡ 4
      → fault names keys (get_or ws at 0) t ≡ first_of ((not (eqb (kind (get_or ws at 0)) k), 4) ∷ more)
      → Lacks k → Dec (at < length ws) → scan names (drop at ws) keys at (t ∷ ts) ≡ refused 4 at
  lacks t ts k more m f l (yes inside) =
      refuses t ts 3 inside (f ∙ hit _ 4 more (ap not (ne_eqb (kind (get_or ws at 0)) k (l inside))))
  lacks t ts k more m f l (no n) = none_left names ws keys at t ts (omega arith) ∙ ap (λ (k : ℕ). refused k at) m

  found : (k : ℕ) (more : List (Bool × ℕ)) → Has k → first_of ((not (eqb (kind (get_or ws at 0)) k), 4) ∷ more) ≡ first_of more
  found k more h = miss _ 4 more (ap not (eq-eqb (kind (get_or ws at 0)) k h.1))

  module _ (ts : List Task) where
    pub no_name : Lacks 2 → scan names (drop at ws) keys at (name ∷ ts) ≡ refused 4 at
    unfolding missing fault tests
    no_name l = lacks name ts 2 _ refl refl l (dec_lt at (length ws))

    pub no-perms : (n : ℕ) → Lacks 3 → scan names (drop at ws) keys at (perms n ∷ ts) ≡ refused 4 at
    unfolding missing fault tests
    no-perms n l = lacks (perms n) ts 3 _ refl refl l (dec_lt at (length ws))

    pub no-guard : Lacks 4 → scan names (drop at ws) keys at (guard ∷ ts) ≡ refused 4 at
    unfolding missing fault tests
    no-guard l = lacks guard ts 4 [] refl refl l (dec_lt at (length ws))

    pub name-range : Has 2 → names ≤ argument (get_or ws at 0) → scan names (drop at ws) keys at (name ∷ ts) ≡ refused 5 at
    unfolding fault tests
    name-range h a = refuses name ts 4 h.0 (found 2 _ h ∙ hit _ 5 _ (le-leb names (argument (get_or ws at 0)) a))

    pub key-used : (n : ℕ) → Has 3 → has keys (key n (argument (get_or ws at 0))) ≡ true → scan names (drop at ws) keys at (perms n ∷ ts) ≡ refused 6 at
    unfolding fault tests
    key-used n h u = refuses (perms n) ts 5 h.0 (found 3 _ h ∙ hit _ 6 _ u)

    pub after-name : Has 2 → argument (get_or ws at 0) < names
        → scan names (drop at ws) keys at (name ∷ ts)
        ≡ scan names (drop (at + 1) ws) keys (at + 1) (perms (argument (get_or ws at 0)) ∷ guard ∷ term 1 at (at ∷ []) ∷ ts)
    unfolding fault tests keep next
    after-name h a = goes_on names ws keys at name ts h.0 (found 2 _ h ∙ miss _ 5 _ (lt-leb names (argument (get_or ws at 0)) a) ∙ none)

    pub after-perms : (n : ℕ) → Has 3 → has keys (key n (argument (get_or ws at 0))) ≡ false
        → scan names (drop at ws) keys at (perms n ∷ ts) ≡ scan names (drop (at + 1) ws) (key n (argument (get_or ws at 0)) ∷ keys) (at + 1) ts
    unfolding fault tests keep next
    after-perms n h u = goes_on names ws keys at (perms n) ts h.0 (found 3 _ h ∙ miss _ 6 _ u ∙ none)

    pub after-guard : Has 4 → scan names (drop at ws) keys at (guard ∷ ts) ≡ scan names (drop (at + 1) ws) keys (at + 1) ts
    unfolding fault tests keep next
    after-guard h = goes_on names ws keys at guard ts h.0 (found 4 _ h ∙ none)
