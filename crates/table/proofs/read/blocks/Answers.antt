use mathlib.Core.Path.{◌≡◌, sym, ap, subst, ◌∙◌}
use mathlib.Core.List.{List, ◌∷◌}
use Prim.Native.Nat.{ℕ, suc, ◌+◌, ◌-◌, ◌<◌, ◌≤◌}
use native.Mathlib.Nat.{le_refl}
use native.Mathlib.Omega.{arith}
use lib.ListN.{length, take, drop, set, replicate, length-set, drop_of_length-le}
use lib.Seq.{drop-cons, get_or-set_same, drop-set-lt}
use Rattle.std.specs.Prelude.{Result, Ok, Err}
use Rattle.std.proofs.lemmas.List.{take_rest}
use Rattle.std.proofs.lemmas.Result.{err_from_is_err_and}
use Rattle.table.specs.declared.Refusal.{Refusal}
use Rattle.table.specs.Scan.{Task, accepted, refused, name, scan}
use Rattle.table.specs.Answer.{number, place, outcome}
use Rattle.table.specs.Rest.{after_block}
use Rattle.table.proofs.read.blocks.Goals as goal

-- one more block comes first
one_more : (n i : ℕ) → i < n → replicate (n - i) name ≡ name ∷ replicate (n - (i + 1)) name
one_more n i h = let e : n - i ≡ suc (n - (i + 1)) = omega arith in rw e

-- one more key comes first
one_key : (keys : List ℕ) (i n key : ℕ) → length keys ≡ 64 → 64 - i ≡ suc n → drop (64 - (i + 1)) (set keys n key) ≡ key ∷ drop (64 - i) keys
one_key keys i n key e there =
    let here : 64 - (i + 1) ≡ n = omega arith in
    let inside : n < length (set keys n key) = simp length-set (omega arith) in
    let room : n < length keys = omega arith in
    rw (here, there, drop-cons (set keys n key) n 0, get_or-set_same keys n key 0, drop-set-lt (suc n) keys n key (le_refl (suc n)))

module _ (names : ℕ) (words keys : List ℕ) (at n i : ℕ) where
  -- what is left where a block ended in r
  after-block : (r : Result (ℕ × ℕ) Refusal) → i < n → length keys ≡ 64
      → ((ts : List Task) → scan names (drop at words) (take (64 - (64 - i)) (drop (64 - i) keys)) at (name ∷ ts)
      ≡ after_block r names words (take (64 - (64 - i)) (drop (64 - i) keys)) ts)
      → scan names (drop at words) (drop (64 - i) keys) at (replicate (n - i) name)
      ≡ after_block r names words (drop (64 - i) keys) (replicate (n - (i + 1)) name)
  after-block r h e post =
      let kept : take (64 - (64 - i)) (drop (64 - i) keys) ≡ drop (64 - i) keys =
      ap (λ (m : ℕ). take (m - (64 - i)) (drop (64 - i) keys)) (sym e) ∙ take_rest keys (64 - i) in
      let P : List ℕ → Type 0 = λ ks. (ts : List Task) → scan names (drop at words) ks at (name ∷ ts) ≡ after_block r names words ks ts in
      ap (λ (ts : List Task). scan names (drop at words) (drop (64 - i) keys) at ts) (one_more n i h)
      ∙ subst P kept post (replicate (n - (i + 1)) name)

  -- no block is left
  trailing : n ≤ i → at < length words → scan names (drop at words) keys at (replicate (n - i) name) ≡ refused 12 at
  unfolding scan
  trailing l h = let e : n - i ≡ 0 = omega arith in rw (e, drop-cons words at 0)

  all_read : n ≤ i → length words ≤ at → scan names (drop at words) keys at (replicate (n - i) name) ≡ accepted
  unfolding scan
  all_read l h = let e : n - i ≡ 0 = omega arith in rw (e, drop_of_length-le words h)

pub returns-in_err-next : goal.returns-in_err-next
unfolding outcome after_block
returns-in_err-next c =
    let l = c.loop-done in
    let p = err_from_is_err_and c.from_residual.result c.from_residual.ensures.1 in
    rw (p.1, p.2)
    (sym (l.invariant ∙ after-block _ _ l.keys l.at c.args.count l.done (Err c.in_err-next.field-0.0) (omega arith) c.loop-done-test.array_long c.in_err-next.ensures))

pub loop-done-preserved : goal.loop-done-preserved
unfolding after_block
loop-done-preserved c =
    let l = c.loop-done in
    let next = c.in_ok-next.next in
    l.invariant
    ∙ after-block _ _ l.keys l.at c.args.count l.done (Ok (next, c.in_ok-next.key)) (omega arith) c.loop-done-test.array_long c.in_ok-next.ensures
    ∙ ap (λ (ks : List ℕ). scan c.args.names (drop next c.args.words.now) ks next (replicate (c.args.count - (l.done + 1)) name))
    (sym (one_key l.keys l.done _ _ c.loop-done-test.array_long (let e : 64 - l.done ≡ suc (64 - l.done - 1) = omega arith in e)))

pub returns-then-at-words : goal.returns-then-at-words
unfolding outcome number place
returns-then-at-words c =
    let l = c.loop-done in
    sym (l.invariant ∙ trailing _ c.args.words.now _ l.at c.args.count l.done (omega arith) (omega arith))

pub returns : goal.returns
unfolding outcome
returns c =
    let l = c.loop-done in
    sym (l.invariant ∙ all_read _ c.args.words.now _ l.at c.args.count l.done (omega arith) (omega arith))
