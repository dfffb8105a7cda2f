-- No word has a stray digit exactly if every digit that is set may be.
use Prim.Native.Nat.{ℕ, suc, ◌+◌, ◌*◌, ◌/◌, ◌%◌, ◌≤◌, ◌<◌}
use mathlib.Core.Path.{◌≡◌, sym, subst}
use mathlib.Core.Bool.{Bool, true, false, not, ◌&&◌}
use mathlib.Core.List.{List, [], ◌∷◌}
use native.Mathlib.Omega.{arith}
use lib.Dec.{T}
use lib.ListN.{length, get_or}
use Rattle.permset.specs.Sets.{member}
use Rattle.table.specs.Code.{Code}
use Rattle.calculus.specs.Layout.{bit, used, Words}
use Rattle.calculus.specs.Estimate.{any_from}
use Rattle.calculus.proofs.Digits.{T_and, T-fst, T-snd, T_true, member-lt}
use Rattle.calculus.proofs.Slices.{bit_at, bit-short}
use Rattle.calculus.proofs.Firing.{any-has, any_found}
use Rattle.stray.specs.Stray.{proper, stray, stray_from, first_stray}
use Rattle.stray.specs.Allowed.{clean}
use Rattle.stray.proofs.Firsts.{all_pass, first-is, none-stray}
use Rattle.stray.proofs.Words.{not-both, is-not, has}

-- every digit that is set may be
abbrev pub Proper : Code → List ℕ → Type 0
Proper c ws = (n : ℕ) → T (bit ws n) → T (proper c n)

module _ (c : Code) where
  most-from : (ws : List ℕ) (k : ℕ) → stray_from c k ws ≤ k + length ws
  unfolding stray_from
  most-from [] k = omega arith
  most-from (w ∷ ws) k = go (stray c k w) (most-from ws (suc k))
    where
      go : (b : Bool) → stray_from c (suc k) ws ≤ suc k + length ws → elim b [ true ↦ k | false ↦ stray_from c (suc k) ws ] ≤ k + suc (length ws)
      go true h = omega arith
      go false h = omega arith

  pub stray-most : (ws : List ℕ) → first_stray c ws ≤ length ws
  unfolding first_stray
  stray-most ws = omega (arith, most-from ws 0)

  module _ (ws : List ℕ) where
    outside : ℕ → ℕ → Bool
    outside k d = member (get_or ws k 0) d && not (proper c (32 * k + d))

    word-proper : (k d : ℕ) → d < 32 → clean c ws k ≡ true → T (member (get_or ws k 0) d) → T (proper c (32 * k + d))
    unfolding stray outside
    word-proper k d h e t =
        has (proper c (32 * k + d)) (λ n.
        not-both (any_from 32 0 (outside k)) (subst T (sym e) tt)
        (any-has 32 0 (outside k) d (omega arith) (omega arith) (T_and (member (get_or ws k 0) d) (not (proper c (32 * k + d))) t n)))

    pub unstray-proper : first_stray c ws ≡ length ws → Proper c ws
    unfolding bit
    unstray-proper e n t =
        let z : 32 * (n / 32) + n % 32 ≡ n = omega arith in
        subst (λ (m : ℕ). T (proper c m)) z
        (word-proper (n / 32) (n % 32) (omega arith) (none-stray c ws e (n / 32) (omega (arith, bit-short ws n t))) t)

    pub proper-unstray : Words ws → Proper c ws → first_stray c ws ≡ length ws
    unfolding stray outside
    proper-unstray w f = sym (first-is c ws (length ws) (all_pass (λ k h. T_true (clean c ws k) (is-not (stray c k (get_or ws k 0)) (λ t.
        let x = any_found 32 0 (outside k) t in
        let m : T (member (get_or ws k 0) x.0) = T-fst (member (get_or ws k 0) x.0) (not (proper c (32 * k + x.0))) x.1 in
        let l : x.0 < 32 = member-lt 32 (get_or ws k 0) x.0 (w k) m in
        not-both (proper c (32 * k + x.0)) (T-snd (member (get_or ws k 0) x.0) (not (proper c (32 * k + x.0))) x.1)
        (f (32 * k + x.0) (subst T (sym (bit_at ws k x.0 l)) m)))))))

-- a digit that may be set is that of an element
pub proper-used : (c : Code) (n : ℕ) → T (proper c n) → T (used c n)
unfolding proper
proper-used c n t = T-fst (used c n) _ t
