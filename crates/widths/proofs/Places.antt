-- A refusal has a number up to 57, and its place is at most the number of words.
use mathlib.Core.Path.{◌≡◌}
use mathlib.Core.Bool.{Bool, true, false}
use mathlib.Core.List.{List, [], ◌∷◌}
use Prim.Native.Nat.{ℕ, suc, ◌+◌, ◌≤◌}
use native.Mathlib.Omega.{arith}
use lib.Dec.{eqb, ltb}
use lib.ListN.{length, get_or}
use Rattle.table.specs.Words.{kind, argument, narrow}
use Rattle.table.specs.Scan.{Outcome, accepted, refused, reading}
use Rattle.table.proofs.Refusals.{Bounded, reading-bounded}
use Rattle.widths.specs.Converters.{read_as, wide_name, names_fit, fits_narrow, narrowable, convertible, written, refusal, answer, convert_answer}

-- a refusal has a number up to 57 and a place up to m
abbrev Up : ℕ → Outcome → Type 0
Up m accepted = Unit {0}
Up m (refused n p) = (n ≤ 57) × (p ≤ m)

up_more : (a b : ℕ) → a ≤ b → (o : Outcome) → Up a o → Up b o
up_more a b h accepted u = tt
up_more a b h (refused n p) u = (u.0, omega (arith, u.1))

bounded-up : (m : ℕ) (o : Outcome) → Bounded m o → Up m o
bounded-up m accepted u = tt
bounded-up m (refused n p) u = (omega (arith, u.0), u.1)

names-place : (ws : List ℕ) (at : ℕ) → Up (at + length ws) (names_fit ws at)
unfolding names_fit
names-place [] at = tt
names-place (w ∷ ws) at = go (wide_name w) (names-place ws (suc at))
  where
    go : (b : Bool) → Up (suc at + length ws) (names_fit ws (suc at))
        → Up (at + suc (length ws)) (elim b [ true ↦ refused 56 at | false ↦ names_fit ws (suc at) ])
    go true u = (omega arith, omega arith)
    go false u = up_more (suc at + length ws) (at + suc (length ws)) (omega arith) (names_fit ws (suc at)) u

module _ (ws : List ℕ) where
  read-place : (k : ℕ) → Up (length ws) (read_as k ws)
  unfolding read_as
  read-place k = go (eqb (kind (get_or ws 0 0)) k)
    where
      go : (b : Bool) → Up (length ws) (elim b [ true ↦ reading ws | false ↦ refused 1 0 ])
      go true = bounded-up (length ws) (reading ws) (reading-bounded ws)
      go false = (omega arith, omega arith)

  fits-place : Up (length ws) (fits_narrow ws)
  unfolding fits_narrow
  fits-place = go (ltb narrow (argument (get_or ws 0 0)))
    where
      go : (b : Bool) → Up (length ws) (elim b [ true ↦ refused 55 0 | false ↦ names_fit ws 0 ])
      go true = (omega arith, omega arith)
      go false = up_more (0 + length ws) (length ws) (omega arith) (names_fit ws 0) (names-place ws 0)

  convertible-place : (wide : Bool) → Up (length ws) (convertible wide ws)
  unfolding convertible narrowable
  convertible-place true = read-place 1
  convertible-place false = go (read_as 5 ws) (read-place 5)
    where
      go : (o : Outcome) → Up (length ws) o → Up (length ws) (elim o [ refused n p ↦ refused n p | accepted ↦ fits_narrow ws ])
      go (refused n p) u = u
      go accepted u = fits-place

  pub convert-bounded : (wide : Bool) (room n p : ℕ) → convert_answer wide ws room ≡ refusal n p → (n ≤ 57) × (p ≤ length ws)
  unfolding convert_answer answer
  convert-bounded wide room n p e = go (convertible wide ws) (convertible-place wide) e
    where
      short : (b : Bool) → elim b [ true ↦ refusal 57 0 | false ↦ written (length ws) ] ≡ refusal n p → (n ≤ 57) × (p ≤ length ws)
      short true e = let m : 57 ≡ n = cc in let q : 0 ≡ p = cc in (omega arith, omega arith)
      short false e = let z : ◌≡◌ {A = ℕ} 0 1 = cc in absurd (omega arith)

      go : (o : Outcome) → Up (length ws) o → answer o (length ws) room ≡ refusal n p → (n ≤ 57) × (p ≤ length ws)
      go (refused k q) u e = let r : k ≡ n = cc in let s : q ≡ p = cc in (omega (arith, u.0), omega (arith, u.1))
      go accepted u e = short (ltb room (length ws)) e
