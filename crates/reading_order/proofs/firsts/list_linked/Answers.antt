use Prim.Native.Nat.{ℕ, ◌+◌, ◌≤◌, ◌<◌}
use mathlib.Core.Path.{◌≡◌, sym, ap, ◌∙◌, subst}
use mathlib.Core.Logic.{⊎_elim}
use mathlib.Core.List.{List, ◌∷◌}
use native.Mathlib.Omega.{arith}
use lib.ListN.{length}
use Rattle.table.specs.declared.Link.{Link}
use Rattle.table.specs.Scan.{accepted, reading}
use Rattle.table.specs.Links.{LinksOf, link_at}
use Rattle.table.specs.Code.{code, end_of}
use Rattle.table.proofs.Limits.{size-le}
use Rattle.table.proofs.Blocks.{Follows, blocks-first, blocks-next, blocks_end}
use Rattle.table.proofs.BlockLoop.{blocks_on, named-there, follows-first, next-is, follows_next, next-later}
use Rattle.graph.proofs.Writing.{Partly, partly-start, partly-on, partly-end}
use Rattle.reading_order.proofs.firsts.list_linked.Goals as goal

blocks-are : (ws : List ℕ) → reading ws ≡ accepted → (code ws).blocks ≡ blocks_on ws 1
unfolding code
blocks-are ws e = blocks-first ws e

-- the block at b and those behind it
step : (ws : List ℕ) → reading ws ≡ accepted → (b : ℕ) → Follows ws b → b < length ws → blocks_on ws b ≡ b ∷ blocks_on ws (end_of ws (b + 3))
step ws e b f g = blocks-next ws e b g (named-there ws e b f g)

-- the next block by the links
end_is : (ws : List ℕ) → reading ws ≡ accepted → (b : ℕ) → Follows ws b → b < length ws → (ls : List ℕ) → LinksOf ws ls
    → (x : Link) → x ≡ link_at ls (b + 3) → x.end ≡ end_of ws (b + 3)
end_is ws e b f g ls h x l = ap (λ (x : Link). x.end) l ∙ next-is ws e b g (named-there ws e b f g) ls h

-- there is a place left
room : (ws : List ℕ) → reading ws ≡ accepted → (b : ℕ) → Follows ws b → b < length ws → (n : ℕ) → n + length (blocks_on ws b) ≡ length (code ws).blocks
    → (fs : List ℕ) → length (code ws).blocks ≤ length fs → n < length fs
room ws e b f g n s fs r = omega (arith, ap length (step ws e b f g), s, r)

pub loop-b-init : goal.loop-b-init
loop-b-init c =
    let e = blocks-are c.args.words.now c.requires.0 in (
      follows-first c.args.words.now c.requires.0,
      subst (Partly c.args.firsts.now (code c.args.words.now).blocks c.args.firsts.now 0) e (partly-start _ _),
      omega (arith, ap length e),
    )

pub overflow_cast-firsts : goal.overflow_cast-firsts
overflow_cast-firsts c =
    omega (arith, c.loop-b-test.true, size-le c.args.words.now c.requires.0)

pub offset_bounds-firsts-n : goal.offset_bounds-firsts-n
offset_bounds-firsts-n c =
    let i = c.loop-b in
    omega (arith, room _ c.requires.0 i.b i.invariant.0 c.loop-b-test.true i.n i.invariant.2 _ c.requires.2)

pub bounds-firsts-n : goal.bounds-firsts-n
bounds-firsts-n c =
    let i = c.loop-b in
    omega (arith, room _ c.requires.0 i.b i.invariant.0 c.loop-b-test.true i.n i.invariant.2 _ c.requires.2, i.invariant.1.size)

pub overflow_add-n : goal.overflow_add-n
overflow_add-n c =
    let i = c.loop-b in
    omega (arith, room _ c.requires.0 i.b i.invariant.0 c.loop-b-test.true i.n i.invariant.2 _ c.requires.2)

pub overflow_add-b : goal.overflow_add-b
overflow_add-b c =
    omega (arith, c.loop-b-test.true, size-le c.args.words.now c.requires.0)

pub loop-b-smaller : goal.loop-b-smaller
loop-b-smaller c =
    let i = c.loop-b in
    let g = c.loop-b-test.true in
    omega (arith, end_is _ c.requires.0 i.b i.invariant.0 g _ c.requires.1 _ c.link_at-b.ensures, next-later c.args.words.now c.requires.0 i.b g (named-there c.args.words.now c.requires.0 i.b i.invariant.0 g), g)

pub loop-b-preserved : goal.loop-b-preserved
loop-b-preserved c =
    let i = c.loop-b in
    let g = c.loop-b-test.true in
    let t = named-there c.args.words.now c.requires.0 i.b i.invariant.0 g in
    let z = end_is c.args.words.now c.requires.0 i.b i.invariant.0 g c.args.links.now c.requires.1 c.link_at-b.result c.link_at-b.ensures in
    let e = step c.args.words.now c.requires.0 i.b i.invariant.0 g ∙ ap (λ (k : ℕ). i.b ∷ blocks_on c.args.words.now k) (sym z) in (
      subst (Follows c.args.words.now) (sym z) (follows_next c.args.words.now c.requires.0 i.b g t),
      partly-on _ _ i.firsts i.n i.b _ _ e i.invariant.1,
      omega (arith, ap length e, i.invariant.2),
    )

pub shape_of-firsts : goal.shape_of-firsts
shape_of-firsts c = c.loop-b.invariant.1.size

pub returns : goal.returns
returns c =
    let i = c.loop-b in
    let ws = c.args.words.now in
    let z : i.b ≡ length ws = ⊎_elim (λ x. x) (λ x. absurd (omega (arith, x.0, c.loop-b-test.false))) i.invariant.0 in
    let none = ap (blocks_on ws) z ∙ blocks_end ws c.requires.0 in (
      omega (arith, ap length none, i.invariant.2),
      partly-end _ _ i.firsts i.n _ none c.requires.2 i.invariant.1,
    )
