-- What a send is compared with, and the lines that are left at each word.
use Prim.Native.Nat.{ℕ, ◌+◌, ◌-◌, ◌≤◌, ◌<◌}
use mathlib.Core.Path.{◌≡◌, refl, ap, ◌∙◌}
use mathlib.Core.Bool.{Bool, true, false}
use mathlib.Core.List.{List, [], ◌++◌}
use native.Mathlib.Numerals.{add-one}
use borrow.Author.Tests.{eq-eqb, ne_eqb}
use lib.Dec.{eqb}
use lib.ListN.{length, get_or, drop}
use lib.Seq.{drop-cons}
use Rattle.permset.specs.declared.PermSet.{PermSet}
use Rattle.delivery.specs.declared.Delivery.{Delivery}
use Rattle.delivery.specs.Delivery.{judged}
use Rattle.table.specs.declared.Handler.{Handler}
use Rattle.table.specs.Item.{handler_at}
use Rattle.table.specs.Links.{block_at}
use Rattle.table.specs.Words.{kind, argument}
use Rattle.deliveries.specs.Positions.{counted}
use Rattle.deliveries.specs.Text.{name_for, line, answer_at, receiver, receivers, lines_of, sends}
use Rattle.deliveries.proofs.Positions.{past_end}

pub answer-is : (ws : List ℕ) (p home q : ℕ) (h g : Handler) (w a v n : ℕ) (r : PermSet) (d : Delivery) → h ≡ handler_at ws q → g ≡ handler_at ws home
    → w ≡ get_or ws p 0 → a ≡ argument w → r ≡ record { bits = a } → v ≡ get_or ws (p + 1) 0 → n ≡ name_for v h.name
    → d ≡ judged n r.bits g.perms.bits h → d ≡ answer_at ws p home q
unfolding answer_at
answer-is ws p home q h g w a v n r d e f i j k l m o =
    o
    ∙ ap (λ (z : ℕ). judged z r.bits g.perms.bits h) (m ∙ ap (λ (z : ℕ). name_for z h.name) l)
    ∙ ap (λ (z : PermSet). judged (name_for (get_or ws (p + 1) 0) h.name) z.bits g.perms.bits h)
    (k ∙ ap (λ (z : ℕ). record { bits = z }) (j ∙ ap argument i))
    ∙ ap (λ (z : Handler). judged (name_for (get_or ws (p + 1) 0) h.name) (argument (get_or ws p 0)) z.perms.bits h) f
    ∙ ap (λ (z : Handler). judged (name_for (get_or ws (p + 1) 0) z.name) (argument (get_or ws p 0)) (handler_at ws home).perms.bits z) e

module _ (ws : List ℕ) where
  pub receiver-block : (p home from q to : ℕ) → kind (get_or ws q 0) ≡ 2 → receiver ws p home from q to (get_or ws q 0) ≡ line p from to (answer_at ws p home q)
  unfolding receiver
  receiver-block p home from q to k = rw (eq-eqb (kind (get_or ws q 0)) 2 k, receiver)

  pub receiver-none : (p home from q to : ℕ) → (kind (get_or ws q 0) ≡ 2 → ⊥) → receiver ws p home from q to (get_or ws q 0) ≡ []
  unfolding receiver
  receiver-none p home from q to k = rw (ne_eqb (kind (get_or ws q 0)) 2 k, receiver)

  pub lines-send : (p home from : ℕ) → kind (get_or ws p 0) ≡ 35 → lines_of ws p home from (get_or ws p 0) ≡ receivers ws p home from
  unfolding lines_of
  lines-send p home from k = rw (eq-eqb (kind (get_or ws p 0)) 35 k, lines_of)

  pub lines_none : (p home from : ℕ) → (kind (get_or ws p 0) ≡ 35 → ⊥) → lines_of ws p home from (get_or ws p 0) ≡ []
  unfolding lines_of
  lines_none p home from k = rw (ne_eqb (kind (get_or ws p 0)) 35 k, lines_of)

  -- the lines that are left of all words
  abbrev pub sent : (p home count : ℕ) → List ℕ
  sent p home count = sends ws p home count (drop p ws)

  pub sent-end : (p home count : ℕ) → length ws ≤ p → sent p home count ≡ []
  unfolding sends
  sent-end p home count h = ap (sends ws p home count) (past_end ws p h)

  pub sent-here : (p home count : ℕ) → p < length ws
      → sent p home count ≡ lines_of ws p home (count - 1) (get_or ws p 0) ++ sent (p + 1) (block_at (get_or ws p 0) p home) (counted (get_or ws p 0) count)
  unfolding sends
  sent-here p home count h = ap (sends ws p home count) (drop-cons ws p 0 h) ∙ rw add-one refl

pub block_in : (w p home n : ℕ) → p < n → home < n → block_at w p home < n
unfolding block_at
block_in w p home n h i = go (eqb (kind w) 2)
  where
    go : (b : Bool) → elim b [ true ↦ p | false ↦ home ] < n
    go true = h
    go false = i
