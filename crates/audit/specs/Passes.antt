-- Which estimates pass, and what then holds of the leak read from one: nothing here depends on how they are checked.
use Rattle.std.specs.Prelude.{ℕ, ◌^◌, ◌<◌, ◌≡◌, List, T, length}
use Rattle.permset.specs.Sets.{width, member}
use Rattle.table.specs.Scan.{accepted, reading}
use Rattle.table.specs.Code.{code}
use Rattle.calculus.specs.Rules.{Estimate, leak_of}
use Rattle.calculus.specs.Layout.{bit, estimate_words, sets}
use Rattle.calculus.specs.Estimate.{estimate, leak}
use Rattle.calculus.specs.Guarantee.{Covers}
use Rattle.stray.specs.Stray.{proper}
use Rattle.audit.specs.Audited.{Answer, refused, obeys}

-- an accepted table and a ρ that is a set of permissions; so many words as an estimate has, no stray bit, and every rule of every word is obeyed
pub record Passes (ws : List ℕ) (ρ : ℕ) (est : List ℕ) : Type 0 where
  pub readable : reading ws ≡ accepted
  pub small : ρ < 2 ^ width
  pub long : length est ≡ estimate_words (code ws)
  pub clean : (n : ℕ) → T (bit est n) → T (proper (code ws) n)
  pub obeyed : Estimate (code ws) ρ (sets (code ws) est)

-- s is a set whose members are the leak read from the estimate; it covers every run (demand 3), and has the leak of the least estimate in it
pub record Sound (ws : List ℕ) (ρ : ℕ) (est : List ℕ) (s : ℕ) : Type 0 where
  pub small : s < 2 ^ width
  pub leaks : (x : ℕ) → leak_of (code ws) ρ (sets (code ws) est) x → T (member s x)
  pub only : (x : ℕ) → T (member s x) → leak_of (code ws) ρ (sets (code ws) est) x
  pub covers : Covers (code ws) ρ s
  pub contains : (x : ℕ) → T (member (leak (code ws) ρ (estimate (code ws) ρ)) x) → T (member s x)

-- yes exactly where the estimate passes
unfoldable pub Exact : (ws : List ℕ) (ρ : ℕ) (est : List ℕ) → Answer → Type 0
Exact ws ρ est (refused number place) = Passes ws ρ est → ⊥
Exact ws ρ est (obeys s) = Passes ws ρ est × Sound ws ρ est s
