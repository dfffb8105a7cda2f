-- A number that tests lower: no test, one after the other, what is asked in other words, and that there is one such number.
use Prim.Native.Nat.{ℕ, ◌<◌}
use mathlib.Core.Path.{◌≡◌, subst}
use native.Mathlib.Decide.{dec_lt}
use native.Mathlib.Omega.{arith}
use Rattle.checker.specs.Lowered.{Lowered}

pub lowered_none : {asked : ℕ → Type 0} {below : ℕ} → ((q : ℕ) → q < below → asked q) → Lowered asked below below
lowered_none a = record { most = omega arith; obeyed = a; broken = λ h. absurd (omega arith) }

module _ {A B : ℕ → Type 0} where
  pub lowered-same : {below r : ℕ} → ((q : ℕ) → q < below → A q → B q) → ((q : ℕ) → q < below → B q → A q) → Lowered A below r → Lowered B below r
  lowered-same {below} {r} f g x =
      record { most = x.most; obeyed = λ q h. f q (omega (arith, x.most)) (x.obeyed q h); broken = λ h b. x.broken h (g r h b) }

  pub lowered-then : {below m r : ℕ} → Lowered A below m → Lowered B m r → Lowered (λ q. A q × B q) below r
  lowered-then {below} {m} {r} x y =
      record {
        most = omega (arith, x.most, y.most);
        obeyed = λ q h. (x.obeyed q (omega (arith, y.most)), y.obeyed q h);
        broken = λ h. go (dec_lt r m) h;
      }
    where
      go : Dec (r < m) → r < below → A r × B r → ⊥
      go (yes i) h a = y.broken i a.1
      go (no i) h a =
          let z : r ≡ m = omega (arith, y.most) in
          x.broken (omega arith) (subst A z a.0)

pub lowered-one : {A : ℕ → Type 0} {m n r s : ℕ} → m ≡ n → Lowered A m r → Lowered A n s → r ≡ s
lowered-one {r = r} {s = s} z x y = go (dec_lt r s) (dec_lt s r)
  where
    go : Dec (r < s) → Dec (s < r) → r ≡ s
    go (yes h) j = absurd (x.broken (omega (arith, y.most)) (y.obeyed r h))
    go (no h) (yes j) = absurd (y.broken (omega (arith, x.most)) (x.obeyed s j))
    go (no h) (no j) = omega arith
