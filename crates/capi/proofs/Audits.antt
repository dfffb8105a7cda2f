-- The place of a refused estimate of a table that is short enough has 16 digits.
use Prim.Native.Nat.{ℕ, ◌+◌, ◌≤◌, ◌<◌}
use mathlib.Core.Path.{◌≡◌, refl, ap}
use mathlib.Core.List.{List}
use native.Mathlib.Omega.{arith}
use lib.ListN.{length}
use Rattle.table.specs.Scan.{Outcome, accepted, refused as unreadable, reading}
use Rattle.table.specs.Code.{code}
use Rattle.table.proofs.Refusals.{reading-bounded, bounded-place}
use Rattle.audit.specs.Audited.{Answer, refused, place_of, judged, audited}
use Rattle.audit.proofs.Places.{judged-place}

place-within : (ws : List ℕ) (ρ : ℕ) (est : List ℕ) → place_of (audited ws ρ est) ≤ length ws + length est
unfolding audited place_of code
place-within ws ρ est = go (reading ws) refl
  where
    go : (o : Outcome) → reading ws ≡ o → place_of (elim o [ accepted ↦ judged (code ws) ρ est | unreadable n at ↦ refused n at ]) ≤ length ws + length est
    go accepted e = judged-place (code ws) ρ est
    go (unreadable n at) e = omega (arith, bounded-place (length ws) (reading ws) n at (reading-bounded ws) e)

pub place-fits : (ws : List ℕ) (ρ : ℕ) (est : List ℕ) (a : Answer) → a ≡ audited ws ρ est → length ws ≤ 256 → length est ≤ 5888 → place_of a < 65536
place-fits ws ρ est a e h l = omega (arith, ap place_of e, place-within ws ρ est)
