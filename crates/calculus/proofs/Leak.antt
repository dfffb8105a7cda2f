-- The leak as a number: its members are the permissions that are in the leak read from the sets of the estimate, it lies inside the
-- leak of every estimate that obeys the rules, and a bound fails precisely where it has a member outside.
use Prim.Native.Nat.{ℕ, ◌<◌, ◌^◌, ◌%◌}
use mathlib.Core.Path.{◌≡◌, refl, sym, subst}
use mathlib.Core.Logic.{⊎_elim}
use mathlib.Core.Bool.{Bool, true, false}
use mathlib.Core.List.{List, [], ◌∷◌, Memᴰ}
use native.Mathlib.Nat.{mod-lt}
use native.Mathlib.Omega.{arith}
use lib.Dec.{T, T_not, not_T, lit≤}
use lib.ListN.{get_or}
use lib.Pow.{pow_pos}
use Rattle.permset.specs.Sets.{width, member, union, difference, within, lowest}
use Rattle.permset.proofs.Laws.{union-cases, in-union-left, in-union-right, member-empty, union-lt, within-member, difference-first}
use Rattle.permset.proofs.Laws.{difference-second, in-difference}
use Rattle.permset.proofs.Laws.{difference-lt, empty-difference, lowest-member, lowest-below, lowest-lt}
use Rattle.table.specs.Code.{Code, Linked}
use Rattle.calculus.specs.Constraint.{P, Sets}
use Rattle.calculus.specs.Rules.{guarded, Estimate, leak_of}
use Rattle.calculus.specs.Layout.{base, shift, span, owner, sets, content, WellFormed}
use Rattle.calculus.specs.Estimate.{permissions_at, leak_among, leak, estimate}
use Rattle.calculus.specs.Answer.{bound_used, judge}
use Rattle.calculus.specs.Correct.{Outside}
use Rattle.calculus.proofs.Digits.{member-lt}
use Rattle.calculus.proofs.Slices.{bit_word}
use Rattle.calculus.proofs.Places.{span-lt}
use Rattle.calculus.proofs.Rows.{sets-allowed, content-complete, content-sound}
use Rattle.calculus.proofs.Least.{estimate-well, estimate-least}

module _ (c : Code) (ρ : ℕ) (ws : List ℕ) (w : WellFormed c ws) where
  -- the word of P(b), without the flag
  abbrev word : ℕ → ℕ
  word b = get_or ws (base c (P b)) 0 % 2 ^ width

  at_has : (b x : ℕ) → T (sets c ws (P b) x) → T (member (permissions_at c ρ ws b) x)
  unfolding permissions_at content shift span
  at_has b x t =
      let l : x < width = span-lt c (P b) x (sets-allowed c ws (P b) x t) in
      subst T (bit_word (word b) x (omega arith)) (content-complete c ws w (P b) x refl t)

  at_only : (b x : ℕ) → b < c.size → T (member (permissions_at c ρ ws b) x) → T (sets c ws (P b) x)
  unfolding permissions_at content owner
  at_only b x i t =
      let l : x < width = member-lt width (word b) x (mod-lt (get_or ws (base c (P b)) 0) (pow_pos width)) t in
      content-sound c ws w (P b) x i (subst T (sym (bit_word (word b) x (omega arith))) t)

  -- ---- over a list of blocks

  among-has : (bs : List ℕ) (b x : ℕ) → Memᴰ b bs → T (guarded (c.node b) ρ) → T (sets c ws (P b) x)
      → T (member (leak_among c ρ ws bs) x)
  unfolding leak_among
  among-has (q ∷ bs) b x (Memᴰ.head e) g t =
      go (guarded (c.node q) ρ) (subst (λ (a : ℕ). T (guarded (c.node a) ρ)) e g)
    where
      go : (u : Bool) → T u
          → T (member (elim u [ true ↦ union (permissions_at c ρ ws q) (leak_among c ρ ws bs) | false ↦ leak_among c ρ ws bs ]) x)
      go true k =
          in-union-left (permissions_at c ρ ws q) (leak_among c ρ ws bs) x
          (at_has q x (subst (λ (a : ℕ). T (sets c ws (P a) x)) e t))
      go false k = absurd k
  among-has (q ∷ bs) b x (Memᴰ.tail m) g t = go (guarded (c.node q) ρ) (among-has bs b x m g t)
    where
      go : (u : Bool) → T (member (leak_among c ρ ws bs) x)
          → T (member (elim u [ true ↦ union (permissions_at c ρ ws q) (leak_among c ρ ws bs) | false ↦ leak_among c ρ ws bs ]) x)
      go true k = in-union-right (permissions_at c ρ ws q) (leak_among c ρ ws bs) x k
      go false k = k
  among-has [] b x x5 g t = elim x5 [ ]

  -- the permission x of one of the blocks bs that the opponent may enter
  abbrev Among : List ℕ → ℕ → Type 0
  Among bs x = (b : ℕ) × Memᴰ b bs × T (guarded (c.node b) ρ) × T (sets c ws (P b) x)

  later : (q : ℕ) (bs : List ℕ) (x : ℕ) → Among bs x → Among (q ∷ bs) x
  later q bs x a = (a.0, Memᴰ.tail a.1, a.2, a.3)

  among-only : (bs : List ℕ) → ((b : ℕ) → Memᴰ b bs → b < c.size) → (x : ℕ) → T (member (leak_among c ρ ws bs) x) → Among bs x
  unfolding leak_among
  among-only [] i x t = absurd (subst T (member-empty x) t)
  among-only (q ∷ bs) i x t = go (guarded (c.node q) ρ) refl (among-only bs (λ b m. i b (Memᴰ.tail m)) x) t
    where
      go : (u : Bool) → guarded (c.node q) ρ ≡ u → (T (member (leak_among c ρ ws bs) x) → Among bs x)
          → T (member (elim u [ true ↦ union (permissions_at c ρ ws q) (leak_among c ρ ws bs) | false ↦ leak_among c ρ ws bs ]) x)
          → Among (q ∷ bs) x
      go true e r k =
          ⊎_elim (λ a. (q, Memᴰ.head refl, subst T (sym e) tt, at_only q x (i q (Memᴰ.head refl)) a)) (λ a. later q bs x (r a))
          (union-cases (permissions_at c ρ ws q) (leak_among c ρ ws bs) x k)
      go false e r k = later q bs x (r k)

  pub leak-has : (x : ℕ) → leak_of c ρ (sets c ws) x → T (member (leak c ρ ws) x)
  unfolding leak
  leak-has x a = among-has c.blocks a.0 x a.1 a.2 a.3

  pub leak-only : Linked c → (x : ℕ) → T (member (leak c ρ ws) x) → leak_of c ρ (sets c ws) x
  unfolding leak
  leak-only k x t = among-only c.blocks (λ b m. (k.listed b m).0) x t

-- ---- the reported leak, and a bound

-- it lies inside the leak read from every estimate that obeys the rules
pub leak-least : (c : Code) (k : Linked c) (ρ : ℕ) (e : Sets) → Estimate c ρ e → (x : ℕ) → T (member (leak c ρ (estimate c ρ)) x)
    → leak_of c ρ e x
leak-least c k ρ e o x h =
    let l : leak_of c ρ (sets c (estimate c ρ)) x = leak-only c ρ (estimate c ρ) (estimate-well c k ρ) k x h in
    (l.0, l.1, l.2, estimate-least c k ρ e o (P l.0) x l.3)

among-lt : (c : Code) (ρ : ℕ) (ws bs : List ℕ) → leak_among c ρ ws bs < 2 ^ width
unfolding leak_among permissions_at
among-lt c ρ ws [] = pow_pos width
among-lt c ρ ws (b ∷ bs) = go (guarded (c.node b) ρ) (among-lt c ρ ws bs)
  where
    go : (u : Bool) → leak_among c ρ ws bs < 2 ^ width
        → elim u [ true ↦ union (permissions_at c ρ ws b) (leak_among c ρ ws bs) | false ↦ leak_among c ρ ws bs ] < 2 ^ width
    go true h = union-lt width (permissions_at c ρ ws b) (leak_among c ρ ws bs) (mod-lt (get_or ws (base c (P b)) 0) (pow_pos width)) h
    go false h = h

pub leak-lt : (c : Code) (ρ : ℕ) (ws : List ℕ) → leak c ρ ws < 2 ^ width
unfolding leak
leak-lt c ρ ws = among-lt c ρ ws c.blocks

module _ (c : Code) (ρ bound : ℕ) (ws : List ℕ) where
  abbrev excess : ℕ
  excess = difference (leak c ρ ws) (bound_used bound)

  outside : (x : ℕ) → T (member excess x) → Outside (leak c ρ ws) (bound_used bound) x
  outside x t =
      record {
        leaks = difference-first (leak c ρ ws) (bound_used bound) x t;
        absent = difference-second (leak c ρ ws) (bound_used bound) x t;
      }

  -- a bound fails precisely where the leak has a member outside it, and the first one reported is the lowest of them
  pub over_first : T (judge c ρ bound ws).over → Outside (leak c ρ ws) (bound_used bound) (judge c ρ bound ws).first
  unfolding judge
  over_first h =
      outside (lowest excess)
      (lowest-member excess
      (lowest-lt 32 excess (lit≤ tt) (difference-lt 32 (leak c ρ ws) (bound_used bound) (omega (arith, leak-lt c ρ ws)))
      (λ e. T_not (within (leak c ρ ws) (bound_used bound)) h (empty-difference (leak c ρ ws) (bound_used bound) e))))

  pub outside-over : (x : ℕ) → Outside (leak c ρ ws) (bound_used bound) x → T (judge c ρ bound ws).over
  unfolding judge
  outside-over x o =
      not_T (within (leak c ρ ws) (bound_used bound))
      (λ h. o.absent (within-member (leak c ρ ws) (bound_used bound) x h o.leaks))

  pub first-lowest : (x : ℕ) → x < (judge c ρ bound ws).first → Outside (leak c ρ ws) (bound_used bound) x → ⊥
  unfolding judge
  first-lowest x l o =
      subst T (lowest-below excess x l) (in-difference (leak c ρ ws) (bound_used bound) x o.leaks o.absent)
