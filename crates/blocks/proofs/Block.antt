-- One block: it is read alike wherever it stands, and the words that are read as a block are a good one.
use mathlib.Core.Path.{◌≡◌, refl, sym, ap, ◌∙◌, subst}
use mathlib.Core.List.{List, [], ◌∷◌, ◌++◌}
use mathlib.Core.Bool.{false}
use Prim.Native.Nat.{ℕ, suc, ◌+◌, ◌≤◌, ◌<◌}
use native.Mathlib.Omega.{arith}
use lib.ListN.{length, take, drop}
use Rattle.table.specs.Words.{kind, argument}
use Rattle.table.specs.Scan.{Task, name, perms, guard, term, accepted, has, key, keep, next, scan}
use Rattle.table.specs.Code.{skip}
use Rattle.table.proofs.Faults.{stands, faultless}
use Rattle.table.proofs.Stack.{scan-go, scan_step, scan-missing, refused-not-accepted}
use Rattle.table.proofs.Parts.{skip-le}
use Rattle.blocks.specs.Blocks.{block_length, name_of, key_of, Good}
use Rattle.blocks.proofs.Terms.{Alike, none, also, terms-before, terms-cut, terms-length}

-- what is asked of a block's three words, and the body's task
pub record Fronted (names n p g : ℕ) (keys : List ℕ) : Type 0 where
  pub named : (kind n ≡ 2) × (argument n < names)
  pub permitted : (kind p ≡ 3) × (has keys (key (argument n) (argument p)) ≡ false)
  pub guarded : kind g ≡ 4

abbrev pub body-task : ℕ → List Task → List Task
body-task at ts = term 1 at (at ∷ []) ∷ ts

module _ (names n p g : ℕ) (keys : List ℕ) (at : ℕ) (ts : List Task) where
  -- three words that may stand
  front-on : (ws : List ℕ) → Fronted names n p g keys
      → scan names (n ∷ p ∷ g ∷ ws) keys at (name ∷ ts) ≡ scan names ws (key (argument n) (argument p) ∷ keys) (suc (suc (suc at))) (body-task at ts)
  unfolding keep next
  front-on ws f =
      let k = key (argument n) (argument p) ∷ keys in
      scan-go names (p ∷ g ∷ ws) keys n at name ts (faultless names keys n name f.named)
      ∙ scan-go names (g ∷ ws) keys p (suc at) (perms (argument n)) (guard ∷ body-task at ts) (faultless names keys p (perms (argument n)) f.permitted)
      ∙ scan-go names ws k g (suc (suc at)) guard (body-task at ts) (faultless names k g guard f.guarded)

-- an accepted list of words where a block waits: three words that may stand, and the rest
pub record Front (names : ℕ) (ws keys : List ℕ) (at : ℕ) (ts : List Task) : Type 0 where
  pub first : ℕ
  pub second : ℕ
  pub third : ℕ
  pub rest : List ℕ
  pub whole : ws ≡ first ∷ second ∷ third ∷ rest
  pub fronted : Fronted names first second third keys
  pub after : scan names rest (key (argument first) (argument second) ∷ keys) (suc (suc (suc at))) (body-task at ts) ≡ accepted

pub front : (names : ℕ) (ws keys : List ℕ) (at : ℕ) (ts : List Task) → scan names ws keys at (name ∷ ts) ≡ accepted → Front names ws keys at ts
unfolding keep next
front names [] keys at ts e = absurd (refused-not-accepted (sym (scan-missing names keys at name ts) ∙ e))
front names (n ∷ []) keys at ts e =
    let a = scan_step names [] keys n at name ts e in
    absurd (refused-not-accepted (sym (scan-missing names keys (suc at) (perms (argument n)) (guard ∷ body-task at ts)) ∙ a.1))
front names (n ∷ p ∷ []) keys at ts e =
    let a = scan_step names (p ∷ []) keys n at name ts e in
    let b = scan_step names [] keys p (suc at) (perms (argument n)) (guard ∷ body-task at ts) a.1 in
    absurd (refused-not-accepted (sym (scan-missing names _ (suc (suc at)) guard (body-task at ts)) ∙ b.1))
front names (n ∷ p ∷ g ∷ ws) keys at ts e =
    let a = scan_step names (p ∷ g ∷ ws) keys n at name ts e in
    let b = scan_step names (g ∷ ws) keys p (suc at) (perms (argument n)) (guard ∷ body-task at ts) a.1 in
    let c = scan_step names ws _ g (suc (suc at)) guard (body-task at ts) b.1 in
    record {
      first = n;
      second = p;
      third = g;
      rest = ws;
      whole = refl;
      fronted =
          record {
            named = stands names keys n name a.0;
            permitted = stands names keys p (perms (argument n)) b.0;
            guarded = stands names _ g guard c.0;
          };
      after = c.1;
    }

-- bodies in two blocks
pub bodies : (at at' : ℕ) → Alike (body-task at []) (body-task at' [])
bodies at at' = also refl none

-- ---- a good block anywhere

module _ (names : ℕ) (b : List ℕ) (good : Good names b) where
  alone : Front names b [] 0 []
  unfolding Good
  alone = front names b [] 0 [] good

  -- at any place, before any words and tasks, with any keys that lack its own
  pub good-anywhere : (ws keys : List ℕ) (at : ℕ) (ts : List Task) → has keys (key_of b) ≡ false
      → scan names (b ++ ws) keys at (name ∷ ts) ≡ scan names ws (key_of b ∷ keys) (at + length b) ts
  good-anywhere ws keys at ts h =
      let f = alone in
      let body = f.rest in
      let k : key_of b ≡ key (argument f.first) (argument f.second) = ap key_of f.whole in
      let fits : Fronted names f.first f.second f.third keys =
      record {
        named = f.fronted.named;
        permitted = (f.fronted.permitted.0, sym (ap (has keys) k) ∙ h);
        guarded = f.fronted.guarded;
      } in
      ap (λ (v : List ℕ). scan names (v ++ ws) keys at (name ∷ ts)) f.whole
      ∙ front-on names f.first f.second f.third keys at ts (body ++ ws) fits
      ∙ terms-before names _ _ ts body ws 3 (suc (suc (suc at))) (body-task 0 []) (body-task at []) (bodies 0 at) f.after
      ∙ ap (λ (v : List ℕ). scan names ws v (suc (suc (suc at)) + length body) ts) (ap (λ (x : ℕ). x ∷ keys) (sym k))
      ∙ ap (λ (m : ℕ). scan names ws (key_of b ∷ keys) m ts) (let l = ap length f.whole in let e : suc (suc (suc at)) + length body ≡ at + length b = omega arith in e)

  -- its length is read off its words
  pub good_length : (ws : List ℕ) → block_length (b ++ ws) ≡ length b
  unfolding block_length
  good_length ws =
      let f = alone in
      ap (λ (v : List ℕ). block_length (v ++ ws)) f.whole
      ∙ ap (λ (m : ℕ). suc (suc (suc m))) (terms-length names f.rest ws _ 3 (body-task 0 []) (body-task 0 []) (bodies 0 0) f.after)
      ∙ sym (ap length f.whole)

  pub good-name : name_of b < names
  good-name = subst (λ (n : ℕ). n < names) (sym (ap name_of alone.whole)) alone.fronted.named.1

  pub good-long : 3 ≤ length b
  good-long = let l = ap length alone.whole in omega arith

-- ---- the block at the front names of an accepted list of words

pub record Cut (names : ℕ) (ws keys : List ℕ) (at : ℕ) (ts : List Task) : Type 0 where
  pub inside : block_length ws ≤ length ws
  pub good : Good names (take (block_length ws) ws)
  pub unused : has keys (key_of (take (block_length ws) ws)) ≡ false
  pub after : scan names (drop (block_length ws) ws) (key_of (take (block_length ws) ws) ∷ keys) (at + block_length ws) ts ≡ accepted

no_keys : (k : ℕ) → has [] k ≡ false
unfolding has
no_keys k = refl

module _ (names : ℕ) (ws keys : List ℕ) (at : ℕ) (ts : List Task) where
  cut-front : (f : Front names ws keys at ts) → Cut names (f.first ∷ f.second ∷ f.third ∷ f.rest) keys at ts
  unfolding block_length Good
  cut-front f =
      let n = f.first in
      let p = f.second in
      let g = f.third in
      let m = skip f.rest 1 in
      let k = key (argument n) (argument p) in
      let body = terms-cut names (k ∷ keys) (k ∷ []) ts f.rest (suc (suc (suc at))) 3 (body-task at []) (body-task 0 []) (bodies at 0) f.after in
      record {
        inside = omega (arith, skip-le f.rest 1);
        good =
            front-on names n p g [] 0 [] (take m f.rest)
            (record { named = f.fronted.named; permitted = (f.fronted.permitted.0, no_keys k); guarded = f.fronted.guarded })
            ∙ body.0;
        unused = f.fronted.permitted.1;
        after =
            ap (λ (x : ℕ). scan names (drop m f.rest) (k ∷ keys) x ts) (let q : at + suc (suc (suc m)) ≡ suc (suc (suc at)) + m = omega arith in q)
            ∙ body.1;
      }

  pub block-cut : scan names ws keys at (name ∷ ts) ≡ accepted → Cut names ws keys at ts
  block-cut e = let f = front names ws keys at ts e in subst (λ (v : List ℕ). Cut names v keys at ts) (sym f.whole) (cut-front f)
