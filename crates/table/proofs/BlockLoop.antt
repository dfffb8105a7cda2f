-- The blocks of an accepted table in turn: each starts where the one before it ends.
use Prim.Native.Nat.{ℕ, ◌+◌, ◌<◌}
use mathlib.Core.Path.{◌≡◌, ap, ◌∙◌}
use mathlib.Core.Logic.{⊎_elim}
use mathlib.Core.List.{List}
use native.Mathlib.Omega.{arith}
use lib.ListN.{length, drop}
use Rattle.table.specs.Scan.{name, accepted, reading}
use Rattle.table.specs.Code.{task_at, tasks, blocks_from, end_of, part}
use Rattle.table.specs.Links.{link_at, LinksOf}
use Rattle.table.proofs.Blocks.{Follows, block as Block-words, head-word}
use Rattle.table.proofs.LinkMeaning.{link-end}

-- the blocks from the place b on
abbrev pub blocks_on : List ℕ → ℕ → List ℕ
blocks_on ws b = blocks_from (drop b (tasks ws)) b

module _ (ws : List ℕ) (e : reading ws ≡ accepted) where
  pub named-there : (b : ℕ) → Follows ws b → b < length ws → task_at ws b ≡ name
  named-there b f i = ⊎_elim (λ z. absurd (omega arith)) (λ x. x.1) f

  pub follows-first : Follows ws 1
  follows-first = (head-word ws e).follows

  module _ (b : ℕ) (i : b < length ws) (t : task_at ws b ≡ name) where
    pub body-inside : b + 3 < length ws
    body-inside = (Block-words ws e b i t).inside

    pub next-is : (links : List ℕ) → LinksOf ws links → (link_at links (b + 3)).end ≡ end_of ws (b + 3)
    next-is links k =
        ap (λ (x : List ℕ). (link_at x (b + 3)).end) k.made ∙ link-end ws e k.slice k.room (b + 3) body-inside

    pub follows_next : Follows ws (end_of ws (b + 3))
    follows_next = (Block-words ws e b i t).follows

    pub next-later : b < end_of ws (b + 3)
    unfolding end_of part
    next-later = omega arith
