-- A code has the same leak with any number of names that its words allow, whatever the opponent's permissions.
use Prim.Native.Nat.{ℕ}
use mathlib.Core.Path.{◌≡◌}
use lib.Dec.{T}
use Rattle.permset.specs.Sets.{within}
use Rattle.permset.proofs.Laws.{member-within, within-antisym}
use Rattle.table.specs.Code.{Code, Linked}
use Rattle.widths.specs.Converters.{with_names}
use Rattle.calculus.specs.Rules.{leak_of}
use Rattle.calculus.specs.Layout.{sets}
use Rattle.calculus.specs.Estimate.{estimate, leak}
use Rattle.calculus.proofs.Least.{estimate-well, estimate-obeys}
use Rattle.calculus.proofs.Leak.{leak-has, leak-least}
use Rattle.width_change.specs.Transfer.{transfer}
use Rattle.width_change.proofs.Transferred.{transferred, same-permissions}

abbrev leak_at : Code → ℕ → ℕ
leak_at c ρ = leak c ρ (estimate c ρ)

module _ (c : Code) (n : ℕ) (k : Linked c) (l : Linked (with_names n c)) (ρ : ℕ) where
  abbrev d : Code
  d = with_names n c

  inside : T (within (leak_at d ρ) (leak_at c ρ))
  inside =
      let e = sets c (estimate c ρ) in
      member-within (leak_at d ρ) (leak_at c ρ)
      (λ x t.
      let m : leak_of d ρ (transfer c d e) x = leak-least d l ρ (transfer c d e) (transferred c n k l e ρ (estimate-obeys c k ρ)) x t in
      leak-has c ρ (estimate c ρ) (estimate-well c k ρ) x (m.0, m.1, m.2, same-permissions c n k l e m.0 x m.3))

pub leak-same : (c : Code) (n : ℕ) → Linked c → Linked (with_names n c) → (ρ : ℕ)
    → leak (with_names n c) ρ (estimate (with_names n c) ρ) ≡ leak c ρ (estimate c ρ)
leak-same c n k l ρ =
    within-antisym (leak_at (with_names n c) ρ) (leak_at c ρ) (inside c n k l ρ) (inside (with_names n c) c.names l k ρ)
