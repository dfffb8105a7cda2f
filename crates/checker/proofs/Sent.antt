-- What a word asks: a send that is live asks to be known by the blocks that it starts, and no other word asks anything of its receivers.
use Prim.Native.Nat.{ℕ, ◌+◌, ◌*◌}
use mathlib.Core.Path.{◌≡◌, refl, sym, ◌∙◌, subst}
use mathlib.Core.Bool.{Bool, true, false, not}
use mathlib.Core.List.{List, Memᴰ}
use borrow.Author.Tests.{not-true, not-false}
use lib.Dec.{T}
use Rattle.table.specs.declared.Handler.{Handler}
use Rattle.table.specs.declared.Item.TheVariants as items
use Rattle.table.specs.declared.Term.{Term as TableTerm}
use Rattle.table.specs.Item.{item_at}
use Rattle.table.specs.Code.{Code, Node, code, gap, block, leaf, one, two, bind, while, branch, update}
use Rattle.table.specs.Code.{apply, sequence, get, delete, assign, operation, send}
use Rattle.calculus.specs.Elements.{sendable, unit}
use Rattle.calculus.specs.Constraint.{C, L, Sets, Rule, Obeys, put, some, each, ◌and◌}
use Rattle.calculus.specs.Rules.{guarded, part, two_rule, flow, entry, sender, two_sender}
use Rattle.calculus.specs.Layout.{sets}
use Rattle.calculus.proofs.Folds.{found}
use Rattle.rows.specs.declared.layout.Layout.{Layout}
use Rattle.clauses.specs.Asks.{row_at}
use Rattle.queries.specs.Ready.{At}
use Rattle.checker.specs.Decides.{Decides}
use Rattle.checker.specs.Lowered.{Lowered}
use Rattle.checker.specs.Sends.{to_block, to_sender, AskedFor, AskedToSend}
use Rattle.checker.specs.Words.{own_rule, AskedBy}
use Rattle.checker.proofs.Laws.{idle, on_value}
use Rattle.checker.proofs.Blocks.{Among}
use Rattle.checker.proofs.Guards.{gap-node, block-node, term-guard}
use Rattle.checker.proofs.Placed.{accepted-at, Silent, node-here}
use Rattle.checker.proofs.Lowered.{lowered_none, lowered-same, lowered-then}

-- ---- where there is something to send, and where not

module _ (c : Code) (est : List ℕ) (p d r : ℕ) {t : Bool} (f : t ≡ found c est (row_at (2 * d)) (sendable c)) where
  pub nothing-sent : not t ≡ true → {below : ℕ} → Lowered (AskedToSend c (sets c est) p d r) below below
  nothing-sent q = lowered_none (λ w h. (
    λ z. (idle (on_value c est {k = each c.blocks (to_block c p d r)} f) q).yes tt,
    λ m. (idle (on_value c est {k = to_sender c p r w} f) q).yes tt,
  ))

  pub something-sent : not t ≡ false → {below n : ℕ} → Lowered (Among c.blocks (AskedFor c (sets c est) p d r)) below n
      → Lowered (AskedToSend c (sets c est) p d r) below n
  something-sent q x =
      let so : T t = subst T (sym (not-false t q)) tt in
      lowered-same
      (λ w h a. (λ z v t i b m. (a b m).0 z, λ m v t i. (a w m).1 refl))
      (λ w h a b m. (
        λ z. (on_value c est {k = each c.blocks (to_block c p d r)} f).asks (a.0 z) so b m,
        λ z. (on_value c est {k = to_sender c p r b} f).asks (subst (λ (u : ℕ). Obeys (sets c est) (some (C d) (sendable c) (to_sender c p r u))) z (a.1 (subst (λ (u : ℕ). Memᴰ u c.blocks) (sym z) m))) so,
      ))
      x

-- ---- what a word asks of its receivers

-- a word that is not live asks nothing
dull : (c : Code) (e : Sets) (b p : ℕ) → (T (e (L p) 0) → ⊥) → (n : Node) → Obeys e (sender c b p n)
unfolding sender two_sender
dull c e b p f gap = tt
dull c e b p f (block n s g) = tt
dull c e b p f (leaf m) = tt
dull c e b p f (one m a) = tt
dull c e b p f (two apply a d) = tt
dull c e b p f (two sequence a d) = tt
dull c e b p f (two get a d) = tt
dull c e b p f (two delete a d) = tt
dull c e b p f (two assign a d) = tt
dull c e b p f (two (operation o) a d) = tt
dull c e b p f (two (send r) a d) = λ u. absurd (f u)
dull c e b p f (bind a d) = tt
dull c e b p f (while a d) = tt
dull c e b p f (branch a d n) = tt
dull c e b p f (update a d n) = tt

module _ {ws links masks est : List ℕ} {l : Layout} {p : ℕ} (g : At ws links masks est l p) (ρ : ℕ) where
  abbrev c : Code
  c = code ws

  abbrev e : Sets
  e = sets c est

  -- where there is nothing, nothing is asked
  pub gap-silent : {below : ℕ} → item_at ws p ≡ items.Gap → Lowered (AskedBy c e ρ p) below below
  unfolding entry guarded flow sender
  gap-silent i =
      let n : c.node p ≡ gap = gap-node (accepted-at g) p i in
      lowered_none (λ w h. (λ z. rw n ((λ u. absurd u), λ u. tt), λ m. rw n tt))

  -- a block asks nothing of its receivers
  pub block-silent : {k : Handler} {below r : ℕ} → item_at ws p ≡ items.Block k → Lowered (λ q. q ≡ p → Obeys e (own_rule c ρ p)) below r
      → Lowered (AskedBy c e ρ p) below r
  unfolding sender
  block-silent i x =
      lowered-same (λ q h o. (o, λ m. subst (λ (n : Node). Obeys e (sender c q p n)) (sym (block-node (accepted-at g) p i)) tt)) (λ q h o. o.0) x

  module _ {t : TableTerm} (i : item_at ws p ≡ items.Term t) where
    no-entry : Obeys e (entry c ρ p)
    unfolding entry
    no-entry x = absurd (subst T (sym (term-guard (accepted-at g) p i ρ)) x)

    pub term-idle : {live : Bool} → live ≡ e (L p) 0 → not live ≡ true → {below : ℕ} → Lowered (AskedBy c e ρ p) below below
    term-idle {live} s q =
        let off : T (e (L p) 0) → ⊥ = λ x. subst T (sym s ∙ not-true live q) x in
        lowered_none (λ w h. (λ z. (no-entry, λ x. absurd (off x)), λ m. dull c e w p off (c.node p)))

    pub term-live : {live : Bool} → live ≡ e (L p) 0 → not live ≡ false → {u : Bool} → Silent g t × Decides e (flow c p (c.node p)) u
        → {below r : ℕ} → ((k : Rule) → Decides e k u → Lowered (λ q. q ≡ p → Obeys e k) below r) → Lowered (AskedBy c e ρ p) below r
    term-live {live} s q d f =
        let on : T (e (L p) 0) = subst T (sym (sym s ∙ not-false live q)) tt in
        lowered-same
        (λ w h o. (λ z. (no-entry, λ u. o z), λ m. subst (λ (n : Node). Obeys e (sender c w p n)) (sym (node-here g i refl refl refl)) (d.0 w _ _ _)))
        (λ w h o z. (o.0 z).1 on) (f _ d.1)

    -- ---- a send

    pub send-live : {r d : ℕ} → c.node p ≡ two (send r) (p + 1) d → T (e (L p) 0) → {below m n : ℕ} → Lowered (AskedToSend c e p d r) below m
        → Lowered (λ w. w ≡ p → Obeys e ((part p (p + 1) and part p d) and put (C p) unit)) m n → Lowered (AskedBy c e ρ p) below n
    unfolding sender two_sender flow two_rule
    send-live {r} {d} j on x y =
        lowered-same
        (λ w h a. (
          λ z. (no-entry, λ u. let o = a.1 z in subst (λ (n : Node). Obeys e (flow c p n)) (sym j) (o.0.0, (o.0.1, (o.1, a.0.0 z)))),
          λ m. subst (λ (n : Node). Obeys e (sender c w p n)) (sym j) (λ u. a.0.1 m),
        ))
        (λ w h a. let f : w ≡ p → Obeys e (flow c p (two (send r) (p + 1) d)) = λ z. subst (λ (n : Node). Obeys e (flow c p n)) j ((a.0 z).1 on) in (
          (λ z. (f z).1.1.1, λ m. subst (λ (n : Node). Obeys e (sender c w p n)) j (a.1 m) on),
          λ z. (((f z).0, (f z).1.0), (f z).1.1.0),
        ))
        (lowered-then x y)
