-- Block order must not matter (document 02, wish 11): what a system and the one with its blocks rearranged have in common.
use Rattle.std.specs.Prelude.{ℕ, ◌+◌, ◌<◌, ◌≡◌, length, get_or}
use mathlib.Core.List.{List, ◌∷◌, Permᴰ}
use Rattle.table.specs.Words.{kind}
use Rattle.table.specs.Scan.{accepted, reading}
use Rattle.table.specs.Code.{code}
use Rattle.blocks.specs.Blocks.{blocks, table_of}
use Rattle.calculus.specs.Constraint.{Row}
use Rattle.calculus.specs.Layout as layout
use Rattle.calculus.specs.Estimate as least
use Rattle.calculus.specs.Answer as call
use Rattle.verdict.specs.Limits.{answer_under}
use Rattle.renaming.specs.Renaming.{rename_row, rename_element}
use Rattle.block_order.specs.Lines.{reports}

-- a system with the blocks bs in the place of its own
abbrev pub rearranged : List ℕ → List (List ℕ) → List ℕ
rearranged ws bs = table_of (kind (get_or ws 0 0)) bs

-- ---- "words are renumbered with their blocks"

-- the block b stands at p, among blocks the first of which stands at a place
pub data Stands : (at : ℕ) → List (List ℕ) → (p : ℕ) → List ℕ → Type 0 where
  first : {at : ℕ} {b : List ℕ} {bs : List (List ℕ)} → Stands at (b ∷ bs) at b
  later : {at p : ℕ} {a b : List ℕ} {bs : List (List ℕ)} → Stands (at + length a) bs p b → Stands at (a ∷ bs) p b

-- the block b at p goes as a whole to a place where the same block stands among cs
pub record Moved (π : ℕ → ℕ) (at : ℕ) (cs : List (List ℕ)) (p : ℕ) (b : List ℕ) : Type 0 where
  pub to : ℕ
  pub there : Stands at cs to b
  pub whole : (j : ℕ) → j < length b → π (p + j) ≡ to + j

abbrev pub Moves : (ℕ → ℕ) → (at : ℕ) → (bs cs : List (List ℕ)) → Type 0
Moves π at bs cs = (p : ℕ) (b : List ℕ) → Stands at bs p b → Moved π at cs p b

-- Word p of ws is word π p of ds, and word q of ds is word σ q of ws: each word once, word 0 in its place, and each block as a whole.
pub record Renumbers (π σ : ℕ → ℕ) (ws ds : List ℕ) : Type 0 where
  pub there : (p : ℕ) → σ (π p) ≡ p
  pub back : (q : ℕ) → π (σ q) ≡ q
  pub long : length ds ≡ length ws
  pub inside : (p : ℕ) → p < length ws → π p < length ds
  pub head : π 0 ≡ 0
  pub word : (p : ℕ) → get_or ds (π p) 0 ≡ get_or ws p 0
  pub moves : Moves π 1 (blocks ws) (blocks ds)

-- ---- the wish

-- Of an accepted system ws and ds, which has the same blocks in another order.
pub record Independent (ws ds : List ℕ) : Type 0 where
  -- "any rearrangement of an accepted system's blocks is accepted too"
  pub accepts : reading ds ≡ accepted
  pub π : ℕ → ℕ
  pub σ : ℕ → ℕ
  pub renumbers : Renumbers π σ ws ds
  -- "with equal leak and facts"
  pub leak : (ρ : ℕ) → least.leak (code ds) ρ (least.estimate (code ds) ρ) ≡ least.leak (code ws) ρ (least.estimate (code ws) ρ)
  pub facts : (ρ : ℕ) → least.facts (least.estimate (code ds) ρ) ≡ least.facts (least.estimate (code ws) ρ)
  -- "and every set the same once words are renumbered with their blocks. This covers the senders' sets": those are the rows C of blocks
  pub sets : (ρ : ℕ) (r : Row) (v : ℕ)
      → layout.sets (code ds) (least.estimate (code ds) ρ) (rename_row π r) (rename_element π (code ws) (code ds) v)
      ≡ layout.sets (code ws) (least.estimate (code ws) ρ) r v
  -- "under any ceiling both runs are refused or neither": the whole answer is the same, without a ceiling too
  pub answer : (ρ bound est work : ℕ) → call.answer ds ρ bound est work ≡ call.answer ws ρ bound est work
  pub ceiling : (ρ bound n est work : ℕ) → answer_under ds ρ bound n est work ≡ answer_under ws ρ bound n est work
  -- "only the printed handler order .. may differ": the same lines, apart from positions
  pub lines : (ρ : ℕ) → Permᴰ (reports ws ρ) (reports ds ρ)

-- for the list of blocks in any other order
abbrev pub OrderFree : List ℕ → Type 0
OrderFree ws = (bs : List (List ℕ)) → Permᴰ (blocks ws) bs → Independent ws (rearranged ws bs)
