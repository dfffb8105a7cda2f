-- What all words ask of a word is its rule; the lowest word that does not obey it is the lowest broken one.
use Prim.Native.Nat.{ℕ, ◌+◌, ◌<◌}
use mathlib.Core.Path.{◌≡◌, refl, subst}
use mathlib.Core.List.{List}
use native.Mathlib.Omega.{arith}
use borrow.Author.Count.{below_more}
use Rattle.table.specs.Code.{Code, Linked}
use Rattle.calculus.specs.Constraint.{Sets, Obeys}
use Rattle.calculus.specs.Rules.{senders, rule}
use Rattle.calculus.specs.Layout.{sets}
use Rattle.calculus.proofs.Makers.{is_block_lem}
use Rattle.calculus.proofs.Ranges.{below_in, in-below}
use Rattle.calculus.proofs.Senders.{listed-node}
use Rattle.checker.specs.Lowered.{Lowered}
use Rattle.checker.specs.Obeyed.{first_broken}
use Rattle.checker.specs.Words.{own_rule, AskedBy}
use Rattle.checker.proofs.Laws.{first-broken}
use Rattle.checker.proofs.Lowered.{lowered-same, lowered-then, lowered-one}

-- what the words below p ask of the word q
abbrev pub AskedBelow : Code → Sets → (ρ p q : ℕ) → Type 0
AskedBelow c e ρ p q = (x : ℕ) → x < p → AskedBy c e ρ x q

module _ (c : Code) (e : Sets) (ρ : ℕ) where
  pub asked-next : (p : ℕ) {below m r : ℕ} → Lowered (AskedBelow c e ρ p) below m → Lowered (AskedBy c e ρ p) m r
      → Lowered (AskedBelow c e ρ (p + 1)) below r
  asked-next p x y =
      lowered-same (λ q h a. below_more (λ z. AskedBy c e ρ z q) p a.0 a.1) (λ q h a. (λ z i. a z (omega arith), a p (omega arith))) (lowered-then x y)

-- where the words below p are all
pub lowest-broken : (c : Code) → Linked c → (ρ : ℕ) (est : List ℕ) {n p r : ℕ} → n ≡ c.size → p ≡ n
    → Lowered (AskedBelow c (sets c est) ρ p) n r → r ≡ first_broken c ρ est
unfolding rule senders
lowest-broken c l ρ est z y x =
    lowered-one z
    (lowered-same
    (λ q h a. let o = (a q (omega arith)).0 refl in
    ((o.0, λ t v m. (a v (omega (arith, in-below m))).1 (listed-node c q (c.node q) (l.nodes q (omega arith)) t)), o.1))
    (λ q h o v i. (
      λ s. subst (λ (u : ℕ). Obeys (sets c est) (own_rule c ρ u)) s (o.0.0, o.1),
      λ m. o.0.1 (is_block_lem (c.node q) (l.listed q m).1) v (below_in (omega arith)),
    ))
    x)
    (first-broken c ρ est)
