-- What the answer to a call is, by what is wrong with it.
use Prim.Native.Nat.{ℕ, suc, ◌^◌, ◌<◌, ◌≤◌}
use mathlib.Core.Path.{◌≡◌, refl, sym}
use mathlib.Core.Bool.{Bool, true, false}
use mathlib.Core.List.{List, [], ◌∷◌, ◌++◌}
use borrow.Author.Tests.{le-leb, lt-leb, lt-ltb, le-ltb}
use lib.Dec.{leb, ltb}
use lib.ListN.{length, drop, replicate}
use Rattle.permset.specs.Sets.{width}
use Rattle.table.specs.Scan.{accepted, refused as unreadable, first_of, reading}
use Rattle.table.specs.Code.{code}
use Rattle.calculus.specs.Layout.{estimate_words}
use Rattle.calculus.specs.Estimate.{estimate}
use Rattle.calculus.specs.Answer.{Verdict, refused, verdict, work_words, caller_tests, judge, analysis, answer, estimate_after, work_after}
use Rattle.calculus.proofs.Firing.{whole_is}
use Rattle.calls.specs.Calls.{stray_bound, Fits}

-- four tests with their numbers
abbrev tests : Bool → Bool → Bool → Bool → List (Bool × ℕ)
tests a b d e = (a, 20) ∷ (b, 20) ∷ (d, 21) ∷ (e, 22) ∷ []

module _ (ws : List ℕ) (ρ bound est work : ℕ) where
  pub answer-table : (n at : ℕ) → reading ws ≡ unreadable n at → answer ws ρ bound est work ≡ refused n at
  unfolding answer
  answer-table n at e = rw (e, answer)

  module _ (r : reading ws ≡ accepted) where
    -- the caller's tests by their results
    found : {a b d e : Bool} → leb (2 ^ width) ρ ≡ a → stray_bound bound ≡ b → ltb est (estimate_words (code ws)) ≡ d
        → ltb work (work_words (length ws)) ≡ e → first_of (caller_tests (code ws) ρ bound est work) ≡ first_of (tests a b d e)
    unfolding caller_tests code
    found p q s t = λ i. first_of (tests (p i) (q i) (s i) (t i))

    call-refused : (n : ℕ) → first_of (caller_tests (code ws) ρ bound est work) ≡ suc n → answer ws ρ bound est work ≡ refused (suc n) 0
    unfolding answer analysis
    call-refused n e = rw (r, answer, e, analysis)

    pub rho-wrong : 2 ^ width ≤ ρ → answer ws ρ bound est work ≡ refused 20 0
    unfolding first_of
    rho-wrong h = call-refused 19 (found (le-leb (2 ^ width) ρ h) refl refl refl)

    module _ (h : ρ < 2 ^ width) where
      pub bound-wrong : stray_bound bound ≡ true → answer ws ρ bound est work ≡ refused 20 0
      unfolding first_of
      bound-wrong b = call-refused 19 (found (lt-leb (2 ^ width) ρ h) b refl refl)

      module _ (b : stray_bound bound ≡ false) where
        pub estimate-short : est < estimate_words (code ws) → answer ws ρ bound est work ≡ refused 21 0
        unfolding first_of
        estimate-short l = call-refused 20 (found (lt-leb (2 ^ width) ρ h) b (lt-ltb est (estimate_words (code ws)) l) refl)

        module _ (l : estimate_words (code ws) ≤ est) where
          pub work-short : work < work_words (length ws) → answer ws ρ bound est work ≡ refused 22 0
          unfolding first_of
          work-short k =
              call-refused 21
              (found (lt-leb (2 ^ width) ρ h) b (le-ltb est (estimate_words (code ws)) l) (lt-ltb work (work_words (length ws)) k))

          pub call_fits : work_words (length ws) ≤ work → Fits ws ρ bound est work
          unfolding first_of answer analysis
          call_fits k =
              let z : first_of (caller_tests (code ws) ρ bound est work) ≡ 0 =
              found (lt-leb (2 ^ width) ρ h) b (le-ltb est (estimate_words (code ws)) l) (le-ltb work (work_words (length ws)) k)
              in
              record {
                fit = record { readable = r; long = l; room = k };
                small = h;
                judged = rw (r, answer, z, analysis) (whole_is (estimate (code ws) ρ) (λ us. verdict (judge (code ws) ρ bound us)));
              }

-- ---- the slices after the call

module _ (ws : List ℕ) (ρ bound : ℕ) (est work : List ℕ) where
  pub after-refused : (n at : ℕ) → answer ws ρ bound (length est) (length work) ≡ refused n at
      → (est ≡ estimate_after ws ρ bound est work) × (work ≡ work_after ws ρ bound est work)
  unfolding estimate_after work_after
  after-refused n at e = (sym (rw (e, estimate_after)), sym (rw (e, work_after)))

  pub after-solved : (v : Verdict) → answer ws ρ bound (length est) (length work) ≡ verdict v
      → (estimate (code ws) ρ ++ drop (estimate_words (code ws)) est ≡ estimate_after ws ρ bound est work)
      × (replicate (work_words (length ws)) 0 ++ drop (work_words (length ws)) work ≡ work_after ws ρ bound est work)
  unfolding estimate_after work_after
  after-solved v e = (sym (rw (e, estimate_after)), sym (rw (e, work_after)))
