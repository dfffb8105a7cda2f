-- Who may have sent: the senders' rules of all receivers ask what the sends ask of all their receivers; and the sets of relay, computed.
use Prim.Native.Nat.{ℕ, zero, suc, ◌<◌}
use mathlib.Core.Path.{◌≡◌, refl}
use mathlib.Core.Bool.{Bool, true, false}
use mathlib.Core.List.{List, [], ◌∷◌, map, Memᴰ}
use lib.Dec.{T}
use Rattle.permset.specs.Sets.{within, member, union, difference, lowest}
use Rattle.delivery.specs.Delivery.{judged, delivered}
use Rattle.table.specs.Words.{names_of, parts_by_kind, limits_by_kind, parts, arity, limit, constant_number, constant_of, operation_of, terms_by_kind, term_of}
use Rattle.table.specs.Scan.{under, next}
use Rattle.table.specs.Code.{code, skip, part, trace, tasks, task_at, term_node, node_for, scope_for, home_for, blocks_from}
use Rattle.table.specs.Code.{Code, Node, gap, block, leaf, one, two, bind, while, branch, update, NodeLinked, Linked}
use Rattle.calculus.specs.Elements.{elements, constant_element, leaf_makes, one_makes, makes, is_function, is_record, is_cell, making, sendable}
use Rattle.calculus.specs.Constraint.{C, Sets, Rule, Obeys, each, range}
use Rattle.calculus.specs.Rules.{name_of, perms_of, guarded, is_block, permissions, delivery_to, leaf_rule, one_rule, two_rule, flow, entry}
use Rattle.calculus.specs.Rules.{two_sender, sender, senders, rule, Estimate}
use Rattle.calculus.specs.Layout.{row_words, estimate_words, sets}
use Rattle.calculus.specs.Estimate.{whole, estimate}
use Rattle.calculus.specs.Samples.{relay}
use Rattle.calculus.proofs.Ranges.{below_in, in-below}
use Rattle.calculus.proofs.Makers.{is_block_lem}

-- what the word p asks of its receivers
abbrev pub sent_from : Code → ℕ → Rule
sent_from c p = each c.blocks (λ b. sender c b p (c.node p))

module _ (c : Code) where
  -- a block is listed
  pub listed-node : (b : ℕ) (n : Node) → NodeLinked c b n → T (is_block n) → Memᴰ b c.blocks
  unfolding is_block
  listed-node b gap l t = absurd t
  listed-node b (block n s g) l t = l.4
  listed-node b (leaf m) l t = absurd t
  listed-node b (one m a) l t = absurd t
  listed-node b (two m a d) l t = absurd t
  listed-node b (bind a d) l t = absurd t
  listed-node b (while a d) l t = absurd t
  listed-node b (branch a d n) l t = absurd t
  listed-node b (update a d n) l t = absurd t

module _ (c : Code) (k : Linked c) (e : Sets) where
  pub senders-from : ((b : ℕ) → b < c.size → Obeys e (senders c b)) → (p : ℕ) → p < c.size → Obeys e (sent_from c p)
  unfolding senders
  senders-from o p h = λ b m. let l = k.listed b m in o b l.0 (is_block_lem (c.node b) l.1) p (below_in h)

  pub from-senders : ((p : ℕ) → p < c.size → Obeys e (sent_from c p)) → (b : ℕ) → b < c.size → Obeys e (senders c b)
  unfolding senders
  from-senders o b h = λ t p m. o p (in-below m) b (listed-node c b (c.node b) (k.nodes b h) t)

  -- an estimate obeys what each word asks of its receivers
  pub estimate-sent : (ρ : ℕ) → Estimate c ρ e → (p : ℕ) → p < c.size → Obeys e (sent_from c p)
  unfolding rule
  estimate-sent ρ o p h = senders-from (λ b i. (o b i).0.1) p h

-- ---- the sets of a system

-- those of the n numbers from i on that pass the test
unfoldable pub among : (n i : ℕ) → (ℕ → Bool) → List ℕ
among zero i q = []
among (suc n) i q = elim (q i) [ true ↦ i ∷ among n (suc i) q | false ↦ among n (suc i) q ]

-- the value set of each block's first word in the least estimate, where the opponent holds nothing
unfoldable pub senders_of : List ℕ → List (List ℕ)
unfolding among whole estimate sets
senders_of ws = whole (estimate (code ws) 0) (λ est. map (λ b. among (elements (code ws)) 0 (sets (code ws) est (C b))) (code ws).blocks)

-- of relay: the opponent may have sent to the block at word 1, and that block to the other; of more systems in crates/senders/proofs/Samples.antt
pub relay-senders : senders_of (relay 8 0) ≡ (7 ∷ []) ∷ (65 ∷ []) ∷ []
unfolding names_of parts_by_kind limits_by_kind parts arity limit constant_number constant_of operation_of terms_by_kind term_of under next code skip part trace tasks
    task_at term_node node_for scope_for home_for blocks_from within member union difference lowest constant_element leaf_makes one_makes makes is_function is_record is_cell
    making sendable range name_of perms_of guarded is_block permissions delivery_to judged delivered leaf_rule one_rule two_rule flow entry two_sender sender senders
    rule row_words estimate_words among senders_of
relay-senders = refl
