-- The leak of an estimate, read a block at a time.
use Prim.Native.Nat.{ℕ, ◌+◌, ◌%◌, ◌^◌, ◌<◌, ◌≤◌}
use mathlib.Core.Path.{◌≡◌, sym, ap, ◌∙◌, subst}
use mathlib.Core.Logic.{⊎_elim}
use mathlib.Core.Bool.{Bool, true, false}
use mathlib.Core.List.{List, [], ◌∷◌}
use native.Mathlib.Omega.{arith}
use lib.Bits.{bit_or, or_zero_l, or_zero_r}
use lib.ListN.{length, get_or}
use Rattle.permset.specs.Sets.{width, union}
use Rattle.permset.proofs.Laws.{within-refl, within-trans, within-antisym, within-union-left, within-union-right, union-within, union-mono}
use Rattle.table.specs.declared.Item.{Item}
use Rattle.table.specs.Item.{handler_at, item_at}
use Rattle.table.specs.Scan.{names_at, Task, name, accepted, reading}
use Rattle.table.specs.Code.{Code, Node, code, task_at, node_for, end_of}
use Rattle.table.proofs.Faults.{Stands}
use Rattle.table.proofs.Items.{item-block}
use Rattle.table.proofs.Stack.{reach}
use Rattle.table.proofs.Parts.{place-stands}
use Rattle.table.proofs.Blocks.{Follows, blocks-first, blocks-next, blocks_end}
use Rattle.calculus.specs.Constraint.{P}
use Rattle.calculus.specs.Rules.{guarded}
use Rattle.calculus.specs.Layout.{base, content}
use Rattle.calculus.specs.Estimate.{permissions_at, leak_among, leak}
use Rattle.table.proofs.BlockLoop.{blocks_on}
use Rattle.readers.specs.Reading.{item_guarded}

-- ---- the leak

union_assoc : (a b c : ℕ) → union (union a b) c ≡ union a (union b c)
union_assoc a b c =
    within-antisym (union (union a b) c) (union a (union b c))
    (union-within (union a b) c (union a (union b c))
    (union-mono a a b (union b c) (within-refl a) (within-union-left b c))
    (within-trans c (union b c) (union a (union b c)) (within-union-right b c) (within-union-right a (union b c))))
    (union-within a (union b c) (union (union a b) c)
    (within-trans a (union a b) (union (union a b) c) (within-union-left a b) (within-union-left (union a b) c))
    (union-mono b (union a b) c c (within-union-right a b) (within-refl c)))

module _ (c : Code) (ρ : ℕ) (est : List ℕ) where
  among-cons : (b : ℕ) (bs : List ℕ) → leak_among c ρ est (b ∷ bs) ≡ union (leak_among c ρ est (b ∷ [])) (leak_among c ρ est bs)
  unfolding leak_among union
  among-cons b bs = go (guarded (c.node b) ρ)
    where
      go : (u : Bool)
          → elim u [ true ↦ union (permissions_at c ρ est b) (leak_among c ρ est bs) | false ↦ leak_among c ρ est bs ]
          ≡ union (elim u [ true ↦ union (permissions_at c ρ est b) 0 | false ↦ 0 ]) (leak_among c ρ est bs)
      go true = ap (λ (x : ℕ). bit_or x (leak_among c ρ est bs)) (sym (or_zero_r (permissions_at c ρ est b)))
      go false = sym (or_zero_l (leak_among c ρ est bs))

  pub among-closed : (b : ℕ) → guarded (c.node b) ρ ≡ false → leak_among c ρ est (b ∷ []) ≡ 0
  unfolding leak_among
  among-closed b g = ap (λ (u : Bool). elim u [ true ↦ union (permissions_at c ρ est b) 0 | false ↦ 0 ]) g

  pub among-open : (b : ℕ) → guarded (c.node b) ρ ≡ true → leak_among c ρ est (b ∷ []) ≡ get_or est (base c (P b)) 0 % 2 ^ width
  unfolding leak_among permissions_at content union
  among-open b g =
      ap (λ (u : Bool). elim u [ true ↦ union (permissions_at c ρ est b) 0 | false ↦ 0 ]) g
      ∙ or_zero_r (permissions_at c ρ est b)

-- a block's guard, as the item that stands there has it
pub guarded-is : (ws : List ℕ) → reading ws ≡ accepted → (b ρ : ℕ) → b < length ws → task_at ws b ≡ name
    → item_guarded (item_at ws b) ρ ≡ guarded ((code ws).node b) ρ
unfolding code node_for item_guarded guarded handler_at
guarded-is ws e b ρ i t =
    let s : Stands (names_at ws) (reach ws e b i).keys (get_or ws b 0) name =
    subst (λ (u : Task). Stands (names_at ws) (reach ws e b i).keys (get_or ws b 0) u) t (place-stands ws e b i)
    in
    ap (λ (x : Item). item_guarded x ρ) (item-block ws b s.0)
    ∙ sym (ap (λ (n : Node). guarded n ρ) (ap (node_for ws b) t))

-- the loop over the blocks: what is found so far, and what the blocks from b on leak
module _ (ws : List ℕ) (e : reading ws ≡ accepted) (ρ : ℕ) (est : List ℕ) where
  abbrev pub leak_on : ℕ → ℕ
  leak_on b = leak_among (code ws) ρ est (blocks_on ws b)

  pub leak-start : bit_or 0 (leak_on 1) ≡ leak (code ws) ρ est
  unfolding leak code
  leak-start = or_zero_l (leak_on 1) ∙ ap (leak_among (code ws) ρ est) (sym (blocks-first ws e))

  pub leak-step : (b : ℕ) → b < length ws → task_at ws b ≡ name → (found : ℕ)
      → bit_or (bit_or found (leak_among (code ws) ρ est (b ∷ []))) (leak_on (end_of ws (b + 3))) ≡ bit_or found (leak_on b)
  unfolding union
  leak-step b i t found =
      union_assoc found (leak_among (code ws) ρ est (b ∷ [])) (leak_on (end_of ws (b + 3)))
      ∙ ap (bit_or found)
      (sym (among-cons (code ws) ρ est b (blocks_on ws (end_of ws (b + 3)))) ∙ ap (leak_among (code ws) ρ est) (sym (blocks-next ws e b i t)))

  pub leak-end : (b : ℕ) → Follows ws b → length ws ≤ b → (found : ℕ) → bit_or found (leak_on b) ≡ found
  unfolding leak_among
  leak-end b f n found =
      let z : b ≡ length ws = ⊎_elim (λ x. x) (λ x. absurd (omega (arith, x.0))) f in
      ap (λ (x : ℕ). bit_or found (leak_on x)) z ∙ ap (λ (bs : List ℕ). bit_or found (leak_among (code ws) ρ est bs)) (blocks_end ws e)
      ∙ or_zero_r found
