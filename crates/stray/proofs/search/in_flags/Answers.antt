use mathlib.Core.Path.{◌≡◌, ap, ◌∙◌}
use mathlib.Core.Bool.{Bool, true}
use Prim.Native.Nat.{ℕ, ◌+◌, ◌≤◌, ◌<◌}
use native.Mathlib.Decide.{ℕ_discrete}
use native.Mathlib.Omega.{arith}
use Rattle.table.specs.Code.{code}
use Rattle.stray.specs.Allowed.{clean}
use Rattle.stray.proofs.Sliced.{most-words, most-rows, words_long, flags-pass, flags-fail}
use Rattle.stray.proofs.search.in_flags.Goals as goal

next : (q : ℕ → Bool) (a k : ℕ) → ((i : ℕ) → a ≤ i → i < k → q i ≡ true) → q k ≡ true → (i : ℕ) → a ≤ i → i < k + 1 → q i ≡ true
next q a k f g i h j = go (ℕ_discrete i k)
  where
    go : Dec (i ≡ k) → q i ≡ true
    go (yes e) = ap q e ∙ g
    go (no e) = f i h (omega arith)

pub flags-k-requires : goal.flags-k-requires
flags-k-requires c =
    let a = c.args in
    (most-words a.words.now a.est.now a.l c.requires, most-rows a.words.now a.est.now a.l c.requires, omega arith)

pub returns-then-est-k-ge-FLAGS_END : goal.returns-then-est-k-ge-FLAGS_END
returns-then-est-k-ge-FLAGS_END c =
    let a = c.args in let l = c.loop-k in
    record {
      low = omega (arith, c.flags-k.ensures);
      most = omega arith;
      before = λ i h j. l.invariant i (omega (arith, c.flags-k.ensures)) j;
      fails = λ h. flags-fail a.words.now a.est.now a.l c.requires (λ k. omega (arith, c.type_inv.est k)) l.k (omega (arith, c.flags-k.ensures)) c.if-est-k-ge-FLAGS_END.true;
    }

pub loop-k-preserved : goal.loop-k-preserved
loop-k-preserved c =
    let a = c.args in let l = c.loop-k in
    next (clean (code a.words.now) a.est.now) _ l.k l.invariant
    (flags-pass a.words.now a.est.now a.l c.requires (λ k. omega (arith, c.type_inv.est k)) l.k (omega (arith, c.flags-k.ensures)) c.if-est-k-ge-FLAGS_END.false)

pub returns : goal.returns
returns c =
    let a = c.args in let l = c.loop-k in
    record {
      low = omega (arith, words_long a.words.now a.est.now a.l c.requires, c.flags-k.ensures);
      most = omega arith;
      before = λ i h j. l.invariant i (omega (arith, c.flags-k.ensures)) (omega (arith, words_long a.words.now a.est.now a.l c.requires));
      fails = λ h. absurd (omega arith);
    }
