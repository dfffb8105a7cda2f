-- The flow rules: the constraint of each word, in the order and the words of document 01, "Flow rules".
use Rattle.std.specs.Prelude.{ℕ, suc, ◌+◌, ◌<◌, Bool, true, false, get_or, T}
use mathlib.Core.List.{Memᴰ}
use Rattle.permset.specs.Sets.{width, member, within}
use Rattle.delivery.specs.declared.Delivery.{Delivery}
use Rattle.delivery.specs.declared.Delivery.TheVariants as deliveries
use Rattle.delivery.specs.Delivery.{judged, delivered}
use Rattle.table.specs.Code.{Code, Node, Leaf, One, Two, gap, block, leaf, one, two, bind, while, branch, update}
use Rattle.table.specs.Code.{constant, number, literal, named, variable, function, empty, exercise, cell, read}
use Rattle.table.specs.Code.{apply, sequence, get, delete, assign, operation, send}
use Rattle.calculus.specs.Elements.{constant_element, literal_element, name_element, undefined, unit, truth, falsehood, opponent_record}
use Rattle.calculus.specs.Elements.{plain, made, elements, sign, is_string, Making, is_function, is_record, is_cell, makes}
use Rattle.calculus.specs.Elements.{sendable, any_record, results}
use Rattle.calculus.specs.Constraint.{Row, C, B, P, L, Sets, Rule, Obeys, none, put, sub, given, some, only, each, every}
use Rattle.calculus.specs.Constraint.{range, ◌and◌}

-- ---- blocks

-- a block's name, permissions and guard
unfoldable pub name_of : Node → ℕ
name_of gap = 0
name_of (block n s g) = n
name_of (leaf l) = 0
name_of (one o a) = 0
name_of (two t a b) = 0
name_of (bind a b) = 0
name_of (while a b) = 0
name_of (branch a b d) = 0
name_of (update a b d) = 0

unfoldable pub perms_of : Node → ℕ
perms_of gap = 0
perms_of (block n s g) = s
perms_of (leaf l) = 0
perms_of (one o a) = 0
perms_of (two t a b) = 0
perms_of (bind a b) = 0
perms_of (while a b) = 0
perms_of (branch a b d) = 0
perms_of (update a b d) = 0

-- the guard of a block is within a set of permissions
unfoldable pub guarded : Node → ℕ → Bool
guarded gap s = false
guarded (block n t g) s = within g s
guarded (leaf l) s = false
guarded (one o a) s = false
guarded (two t a b) s = false
guarded (bind a b) s = false
guarded (while a b) s = false
guarded (branch a b d) s = false
guarded (update a b d) s = false

unfoldable pub is_block : Node → Bool
is_block gap = false
is_block (block n t g) = true
is_block (leaf l) = false
is_block (one o a) = false
is_block (two t a b) = false
is_block (bind a b) = false
is_block (while a b) = false
is_block (branch a b d) = false
is_block (update a b d) = false

-- the permissions of the block of word p
unfoldable pub permissions : Code → ℕ → ℕ
permissions c p = perms_of (c.node (c.home p))

-- What becomes of a send, the message aside: to the name n, with r required of the receiver, from a sender with the permissions s. What
-- is no block is another name. Rule and machine go by this one answer.
unfoldable pub delivery_to : (n r s : ℕ) → Node → Delivery
delivery_to n r s gap = deliveries.OtherName
delivery_to n r s (block m t g) = judged n r s (record { name = m; perms = record { bits = t }; guard = record { bits = g } })
delivery_to n r s (leaf l) = deliveries.OtherName
delivery_to n r s (one o a) = deliveries.OtherName
delivery_to n r s (two t a b) = deliveries.OtherName
delivery_to n r s (bind a b) = deliveries.OtherName
delivery_to n r s (while a b) = deliveries.OtherName
delivery_to n r s (branch a b d) = deliveries.OtherName
delivery_to n r s (update a b d) = deliveries.OtherName

-- ---- shapes of rules

abbrev pub live : ℕ → Rule
live p = put (L p) 0

module _ (c : Code) where
  -- "all 64" in r
  abbrev pub fill : Row → Rule
  fill r = each (range (plain c) 0) (λ v. put r v)

  -- the elements of a with the property q are in b
  abbrev pub pass : Row → (ℕ → Bool) → Row → Rule
  pass a q b = every (elements c) (λ v. only (q v) (given a v (put b v)))

  -- k at each word that makes a thing of this sort which is in r
  abbrev pub each_made : (Making → Bool) → Row → (ℕ → Rule) → Rule
  each_made q r k = every c.size (λ f. only (q (makes (c.node f))) (given r (made c f) (k f)))

-- k where a send at p with the target a, which requires r, may start the handler h for a name in C(a)
abbrev pub delivering : Code → (p r a h : ℕ) → Rule → Rule
delivering c p r a h k =
    only (delivered (delivery_to (name_of (c.node h)) r (permissions c p) (c.node h))) (given (C a) (name_element (name_of (c.node h))) k)

-- "Parts are live .. P of each part but a function's body is in P(p)."
abbrev pub part : ℕ → ℕ → Rule
part p q = live q and sub (P q) (P p)

-- "except .. an if's branches, a while's body": parts whose P counts, and that something else makes live
abbrev pub waiting : ℕ → ℕ → Rule
waiting p q = sub (P q) (P p)

-- ---- the rules

module _ (c : Code) (p : ℕ) where
  unfoldable pub leaf_rule : Leaf → Rule
  -- "Constant, number (its sign), literal, name: its element in C(p)."
  leaf_rule (constant k) = put (C p) (constant_element k)
  leaf_rule (number n) = put (C p) (sign n)
  leaf_rule (literal n) = put (C p) (literal_element n)
  leaf_rule (named n) = put (C p) (name_element n)
  -- "Variable: B of its binder in C(p)."
  leaf_rule (variable n) = sub (B (get_or (c.scope p) n 0)) (C p)
  -- "Function, empty record, ..: 64+p in C(p)"
  leaf_rule function = put (C p) (made c p)
  leaf_rule empty = put (C p) (made c p)
  -- "Exercise r: if r is within the block's permissions, r in P(p) and unit in C(p)."
  leaf_rule (exercise r) = only (within r (permissions c p)) (every width (λ i. only (member r i) (put (P p) i)) and put (C p) unit)

  unfoldable pub one_rule : One → ℕ → Rule
  -- "new cell: 64+p in C(p); new cell also puts its part's C in B(p)."
  one_rule cell a = put (C p) (made c p) and sub (C a) (B p)
  -- "Read cell: each cell's B in C(p)."
  one_rule read a = each_made c is_cell (C a) (λ q. sub (B q) (C p))

  unfoldable pub two_rule : Two → ℕ → ℕ → Rule
  -- "Apply: for each function f in C(first), f's body is live, C(second) is in B(f), and the body's C and P are in C(p) and P(p)."
  two_rule apply a d =
      each_made c is_function (C a)
      (λ f. live (suc f) and sub (C d) (B f) and sub (C (suc f)) (C p) and sub (P (suc f)) (P p))
  -- "Sequence: C(second) in C(p)."
  two_rule sequence a d = sub (C d) (C p)
  -- "Get, set, delete act only if their second part has a string (8 to 31). Get: for each record q in C(first), B(q) and undefined in
  -- C(p); for 7, all 64."
  two_rule get a d =
      some (C d) is_string
      (each_made c is_record (C a) (λ q. sub (B q) (C p) and put (C p) undefined) and given (C a) opponent_record (fill c (C p)))
  -- "Delete: records and 7 pass to C(p)."
  two_rule delete a d = some (C d) is_string (pass c (C a) (any_record c) (C p))
  -- "Assign: if a cell is there, C(second) in C(p) and in each such B."
  two_rule assign a d = each_made c is_cell (C a) (λ q. sub (C d) (C p) and sub (C d) (B q))
  -- "Operations: for each pair of elements."
  two_rule (operation o) a d =
      every (plain c) (λ x. given (C a) x (every (plain c) (λ y. given (C d) y (each (results c o x y) (λ z. put (C p) z)))))
  -- "Send: unit in C(p). Let m be C(message) less functions and cells. If m is not empty, each handler h the machine could start for a
  -- name in C(target) is live, m is in B(h), P(h) is in P(p)."
  two_rule (send r) a d =
      put (C p) unit
      and some (C d) (sendable c)
      (each c.blocks (λ h. delivering c p r a h (live h and pass c (C d) (sendable c) (B h) and sub (P h) (P p))))

  -- what holds where p is live
  unfoldable pub flow : Node → Rule
  flow gap = none
  -- "A live b makes b+3 live. P(b+3) is in P(b)."
  flow (block n s g) = part p (p + 3)
  flow (leaf l) = leaf_rule l
  flow (one o a) = part p a and one_rule o a
  flow (two t a d) = part p a and part p d and two_rule t a d
  -- "Let: C(first) in B(p), C(second) in C(p)."
  flow (bind a d) = part p a and part p d and sub (C a) (B p) and sub (C d) (C p)
  -- "While: true makes the body live; false puts undefined in C(p)."
  flow (while a d) = part p a and waiting p d and given (C a) truth (live d) and given (C a) falsehood (put (C p) undefined)
  -- "If: true or false in C(first) makes that branch live; both branches' C in C(p)."
  flow (branch a b d) =
      part p a and waiting p b and waiting p d and given (C a) truth (live b) and given (C a) falsehood (live d) and sub (C b) (C p)
      and sub (C d) (C p)
  -- "Set: if C(first) has a record or 7, then 64+p in C(p), C(third) in B(p), each B(q) in B(p), and for 7 all 64 in B(p)."
  flow (update a b d) =
      part p a and part p b and part p d
      and some (C b) is_string
      (some (C a) (any_record c) (put (C p) (made c p) and sub (C d) (B p)) and each_made c is_record (C a) (λ q. sub (B q) (B p))
      and given (C a) opponent_record (fill c (B p)))

-- "Block at b: guard within ρ makes b live and puts all 64 in B(b).": the one rule of document 01 that always applies. "and element 7 if
-- its guard lets the opponent in" (document 02, wish 8)
unfoldable pub entry : Code → ℕ → ℕ → Rule
entry c ρ p = only (guarded (c.node p) ρ) (live p and fill c (B p) and put (C p) opponent_record)

-- "The value set of a block's first word .. shall hold 64+s for each block, first word s, with a live send that delivers to it by the send
-- rule" (document 02, wish 8): of the block b and the send at p
module _ (c : Code) (b p : ℕ) where
  unfoldable pub two_sender : Two → ℕ → ℕ → Rule
  two_sender apply a d = none
  two_sender sequence a d = none
  two_sender get a d = none
  two_sender delete a d = none
  two_sender assign a d = none
  two_sender (operation o) a d = none
  two_sender (send r) a d =
      given (L p) 0 (some (C d) (sendable c) (delivering c p r a b (put (C b) (made c (c.home p)))))

  unfoldable pub sender : Node → Rule
  sender gap = none
  sender (block n s g) = none
  sender (leaf l) = none
  sender (one o a) = none
  sender (two t a d) = two_sender t a d
  sender (bind a d) = none
  sender (while a d) = none
  sender (branch a d e) = none
  sender (update a d e) = none

-- stated at the receiver, live or not
unfoldable pub senders : Code → ℕ → Rule
senders c b = only (is_block (c.node b)) (every c.size (λ p. sender c b p (c.node p)))

-- "Each applies where p is live"
unfoldable pub rule : Code → ℕ → ℕ → Rule
rule c ρ p = (entry c ρ p and senders c p) and given (L p) 0 (flow c p (c.node p))

-- e obeys every rule of every word
abbrev pub Estimate : Code → ℕ → Sets → Type 0
Estimate c ρ e = (p : ℕ) → p < c.size → Obeys e (rule c ρ p)

-- Permission x is in the leak read from e: "the union of P(b) over blocks with guard within ρ".
abbrev pub leak_of : Code → ℕ → Sets → ℕ → Type 0
leak_of c ρ e x = (b : ℕ) × Memᴰ b c.blocks × T (guarded (c.node b) ρ) × T (e (P b) x)
