-- What 56 asks: no word is refused exactly if all names are those of a narrow table.
use mathlib.Core.Path.{◌≡◌, refl, sym, ◌∙◌}
use mathlib.Core.Bool.{Bool, true, false, ◌||◌, false≢true}
use mathlib.Core.List.{List, [], ◌∷◌}
use mathlib.Core.Logic.{◌⊎◌, inl, inr}
use Prim.Native.Nat.{ℕ, suc, ◌<◌}
use native.Mathlib.Decide.{dec_lt}
use native.Mathlib.Omega.{arith}
use borrow.Author.Tests.{eqb-true}
use lib.Dec.{eqb}
use Rattle.table.specs.Words.{kind, argument, narrow}
use Rattle.table.specs.Scan.{accepted, refused}
use Rattle.table.proofs.Stack.{refused-not-accepted}
use Rattle.widths.specs.Converters.{wide_name, names_fit}
use Rattle.widths.proofs.Refusals.{low-name, high-name}
use Rattle.widths.proofs.Scans.{Named, AllNamed}

module _ (w : ℕ) where
  low-named : wide_name w ≡ false → Named narrow w
  low-named e k = go (dec_lt (argument w) narrow)
    where
      named : (a : ℕ) → (a ≡ 2) ⊎ (a ≡ 19) → (eqb a 2 || eqb a 19) ≡ true
      named a (inl h) = rw h
      named a (inr h) = rw h

      go : Dec (argument w < narrow) → argument w < narrow
      go (yes l) = l
      go (no l) = absurd (false≢true (sym e ∙ high-name w (omega (arith, l)) ∙ named (kind w) k))

  named-low : Named narrow w → wide_name w ≡ false
  named-low h = go (dec_lt (argument w) narrow)
    where
      either : (a b : Bool) → (a ≡ true → ⊥) → (b ≡ true → ⊥) → (a || b) ≡ false
      either true b f g = absurd (f refl)
      either false true f g = absurd (g refl)
      either false false f g = refl

      go : Dec (argument w < narrow) → wide_name w ≡ false
      go (yes l) = low-name w l
      go (no l) =
          high-name w (omega (arith, l))
          ∙ either (eqb (kind w) 2) (eqb (kind w) 19) (λ e. l (h (inl (eqb-true (kind w) 2 e)))) (λ e. l (h (inr (eqb-true (kind w) 19 e))))

pub fit-named : (ws : List ℕ) (at : ℕ) → names_fit ws at ≡ accepted → AllNamed narrow ws
unfolding names_fit
fit-named [] at e = tt
fit-named (w ∷ ws) at e = go (wide_name w) refl e (fit-named ws (suc at))
  where
    go : (b : Bool) → wide_name w ≡ b → elim b [ true ↦ refused 56 at | false ↦ names_fit ws (suc at) ] ≡ accepted
        → (names_fit ws (suc at) ≡ accepted → AllNamed narrow ws) → AllNamed narrow (w ∷ ws)
    go true k f r = absurd (refused-not-accepted f)
    go false k f r = (low-named w k, r f)

pub named-fit : (ws : List ℕ) (at : ℕ) → AllNamed narrow ws → names_fit ws at ≡ accepted
unfolding names_fit
named-fit [] at a = refl
named-fit (w ∷ ws) at a = rw (named-low w a.0, names_fit) (named-fit ws (suc at) a.1)
