-- `table::read::block` meets its contract: at each place the scan goes on, or stops, by what is found there.
-- Assumes nothing.
use mathlib.Core.Path.{◌≡◌, refl, sym, ap, ap₂, subst, ◌∙◌}
use mathlib.Core.Bool.{Bool, true, false, ◌||◌}
use mathlib.Core.List.{List, [], ◌∷◌}
use Prim.Native.Nat.{ℕ, ◌+◌, ◌<◌}
use native.Mathlib.Nat.{add_assoc}
use native.Mathlib.Omega.{arith}
use lib.Dec.{eqb}
use lib.ListN.{get_or, drop}
use Rattle.std.specs.Prelude.{Ok}
use Rattle.std.specs.List.{list_any}
use Rattle.std.proofs.lemmas.Result.{err_from_is_err_and}
use Rattle.table.specs.Words.{argument}
use Rattle.table.specs.Scan.{Task, Outcome, name, perms, guard, term, has, key, scan}
use Rattle.table.specs.Answer.{number, place}
use Rattle.table.specs.Rest.{FoundAt, after_step, after_block}
use Rattle.table.proofs.read.BlockWords.{no_name, no-perms, no-guard, name-range, key-used, after-name, after-perms, after-guard}
use Rattle.table.proofs.read.block.Goals as goal

-- what is given: the names, the words, the place, and the keys of the blocks before
module _ (ns : ℕ) (ws : List ℕ) (at : ℕ) (ks : List ℕ) where
  -- the scan of the whole block, and what comes after its first word
  abbrev whole : List Task → Outcome
  whole ts = scan ns (drop at ws) ks at (name ∷ ts)

  abbrev body : List Task → List Task
  body ts = guard ∷ term 1 at (at ∷ []) ∷ ts

  -- what is left after the name's word
  after-first : {n : ℕ} → FoundAt ws at 2 (Ok n) → n < ns → (ts : List Task)
      → whole ts ≡ scan ns (drop (at + 1) ws) ks (at + 1) (perms n ∷ body ts)
  after-first f l ts =
      after-name ns ws ks at ts (f.0, f.1) (subst (λ (a : ℕ). a < ns) f.2 l)
      ∙ ap (λ (a : ℕ). scan ns (drop (at + 1) ws) ks (at + 1) (perms a ∷ body ts)) (sym f.2)

  -- what is left after the permissions' word
  after-second : {n p : ℕ} → FoundAt ws at 2 (Ok n) → n < ns → FoundAt ws (at + 1) 3 (Ok p) → has ks (key n p) ≡ false
      → (ts : List Task) → whole ts ≡ scan ns (drop (at + 2) ws) (key n p ∷ ks) (at + 2) (body ts)
  after-second {n = n} f l g free ts =
      let e : has ks (key n (argument (get_or ws (at + 1) 0))) ≡ false = ap (λ (a : ℕ). has ks (key n a)) (sym g.2) ∙ free in
      after-first f l ts
      ∙ after-perms ns ws ks (at + 1) (body ts) n (g.0, g.1) e
      ∙ ap₂ (λ (a p : ℕ). scan ns (drop p ws) (key n a ∷ ks) p (body ts)) (sym g.2) (add_assoc at 1 1)

  -- what is left after the guard's word
  after-third : {n p w : ℕ} → FoundAt ws at 2 (Ok n) → n < ns → FoundAt ws (at + 1) 3 (Ok p) → has ks (key n p) ≡ false
      → FoundAt ws (at + 2) 4 (Ok w)
      → (ts : List Task) → whole ts ≡ scan ns (drop (at + 3) ws) (key n p ∷ ks) (at + 3) (term 1 at (at ∷ []) ∷ ts)
  after-third {n = n} {p = p} f l g free h ts =
      let keys = key n p ∷ ks in
      let rest = term 1 at (at ∷ []) ∷ ts in
      after-second f l g free ts
      ∙ after-guard ns ws keys (at + 2) rest (h.0, h.1)
      ∙ ap (λ (p : ℕ). scan ns (drop p ws) keys p rest) (add_assoc at 2 1)

pub returns-in_err-name : goal.returns-in_err-name
unfolding after_block number place
returns-in_err-name c =
    let a = c.args in
    let p = err_from_is_err_and c.from_residual.result c.from_residual.ensures.1 in
    rw (p.1, p.2, c.in_err-name.ensures.0)
    (λ ts. no_name a.names a.words.now a.keys.now a.at ts c.in_err-name.ensures.1)

pub returns-then-names-name : goal.returns-then-names-name
unfolding after_block number place
returns-then-names-name c = λ ts.
    let a = c.args in
    let f = c.in_ok-name.ensures in
    name-range a.names a.words.now a.keys.now a.at ts (f.0, f.1) (omega arith)

pub returns-in_err-perms : goal.returns-in_err-perms
unfolding after_block number place
returns-in_err-perms c =
    let a = c.args in
    let k = a.keys.now in
    let f = c.in_ok-name.ensures in
    let p = err_from_is_err_and c.from_residual-in_err-perms.result c.from_residual-in_err-perms.ensures.1 in
    rw (p.1, p.2, c.in_err-perms.ensures.0)
    (λ ts. after-first a.names a.words.now a.at k f (omega arith) ts
    ∙ no-perms a.names a.words.now k (a.at + 1) (body a.names a.words.now a.at k ts) _ c.in_err-perms.ensures.1)

-- a slice has a key exactly if it is one of the keys
has-any : (ks : List ℕ) (n : ℕ) → list_any (λ k. eqb k n) ks ≡ has ks n
unfolding has
has-any [] n = refl
has-any (k ∷ ks) n = ap (λ (b : Bool). eqb k n || b) (has-any ks n)

pub returns-then-contains : goal.returns-then-contains
unfolding after_block number place
returns-then-contains c = λ ts.
    let a = c.args in
    let k = a.keys.now in
    let n = c.in_ok-name.name in
    let f = c.in_ok-name.ensures in
    let g = c.in_ok-perms.ensures in
    let taken : has k (key n (argument (get_or a.words.now (a.at + 1) 0))) ≡ true =
    ap (λ (x : ℕ). has k (key n x)) (sym g.2) ∙ sym (c.contains.ensures.value ∙ has-any k _) ∙ c.if-contains.true in
    after-first a.names a.words.now a.at k f (omega arith) ts
    ∙ key-used a.names a.words.now k (a.at + 1) (body a.names a.words.now a.at k ts) n (g.0, g.1) taken

pub returns-in_err-block_word : goal.returns-in_err-block_word
unfolding after_block number place
returns-in_err-block_word c =
    let a = c.args in
    let k = a.keys.now in
    let f = c.in_ok-name.ensures in
    let g = c.in_ok-perms.ensures in
    let free = sym (c.contains.ensures.value ∙ has-any k _) ∙ c.if-contains.false in
    let p = err_from_is_err_and c.from_residual-in_err-block_word.result c.from_residual-in_err-block_word.ensures.1 in
    rw (p.1, p.2, c.in_err-block_word.ensures.0)
    (λ ts. after-second a.names a.words.now a.at k f (omega arith) g free ts
    ∙ no-guard a.names a.words.now _ (a.at + 2) _ c.in_err-block_word.ensures.1)

pub returns-in_err-next : goal.returns-in_err-next
unfolding after_step after_block
returns-in_err-next c =
    let a = c.args in
    let k = a.keys.now in
    let free = sym (c.contains.ensures.value ∙ has-any k _) ∙ c.if-contains.false in
    let keys = key c.in_ok-name.name c.in_ok-perms.perms ∷ k in
    let p = err_from_is_err_and c.from_residual-in_err-next.result c.from_residual-in_err-next.ensures.1 in
    rw (p.1, p.2)
    (λ ts. after-third a.names a.words.now a.at k c.in_ok-name.ensures (omega arith) c.in_ok-perms.ensures free c.in_ok-block_word.ensures ts
    ∙ c.in_err-next.ensures keys a.at (a.at ∷ []) ts refl)

pub returns : goal.returns
unfolding after_step after_block
returns c = λ ts.
    let a = c.args in
    let k = a.keys.now in
    let free = sym (c.contains.ensures.value ∙ has-any k _) ∙ c.if-contains.false in
    let keys = key c.in_ok-name.name c.in_ok-perms.perms ∷ k in
    after-third a.names a.words.now a.at k c.in_ok-name.ensures (omega arith) c.in_ok-perms.ensures free c.in_ok-block_word.ensures ts
    ∙ c.in_ok-next.ensures keys a.at (a.at ∷ []) ts refl
