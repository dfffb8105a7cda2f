-- A handler's word of permissions and flag, and the handlers of an accepted table a word at a time.
use Prim.Native.Nat.{ℕ, suc, ◌+◌, ◌*◌, ◌/◌, ◌%◌, ◌^◌, ◌≤◌, ◌<◌}
use mathlib.Core.Path.{◌≡◌, refl, sym, ap, ap₂, ◌∙◌, subst}
use mathlib.Core.Logic.{⊎_elim}
use mathlib.Core.Bool.{Bool, true, ◌&&◌}
use mathlib.Core.List.{List, [], ◌∷◌, ◌++◌, append-nil, append_assoc}
use native.Mathlib.Nat.{add-zero}
use native.Mathlib.Numerals.{add-one}
use native.Mathlib.Omega.{arith}
use lib.Dec.{eqb, ltb}
use lib.ListN.{length, get_or, drop, length-append}
use lib.Seq.{drop-cons}
use borrow.Author.Tests.{lt-ltb}
use Rattle.permset.specs.Sets.{width, member, within}
use Rattle.table.specs.declared.Item.TheVariants as items
use Rattle.table.specs.declared.Handler.{Handler}
use Rattle.table.specs.declared.Term.{Term}
use Rattle.table.specs.Item.{handler_at, item_at}
use Rattle.table.specs.Words.{narrow, names_of}
use Rattle.table.specs.Scan.{Task, head, name, perms, guard, term, accepted, names_at, reading}
use Rattle.table.specs.Code.{Code, Node, code, node_for, tasks, task_at, blocks_from}
use Rattle.table.proofs.Faults.{Stands}
use Rattle.table.proofs.Items.{item-block, item-gap, item-term}
use Rattle.table.proofs.Stack.{reach}
use Rattle.table.proofs.Parts.{tasks-length, place-stands}
use Rattle.table.proofs.Blocks.{blocks_end}
use Rattle.table.proofs.Limits.{size-le, blocks-le}
use Rattle.calculus.specs.Constraint.{P, L}
use Rattle.calculus.specs.Rules.{name_of, guarded}
use Rattle.calculus.specs.Layout.{row_words, estimate_words, base, shift, owner, span, place, allowed, sets, bit, content}
use Rattle.calculus.specs.Estimate.{permissions_at}
use Rattle.calls.proofs.Bounds.{words-bound}
use Rattle.text.specs.Writing.{Wrote}
use Rattle.text.proofs.Writing.{wrote_nothing, wrote-length, reworded, then}
use Rattle.report.specs.Lines.{handler_line}
use Rattle.printout.specs.Program.{handler_lines}
use Rattle.printout.specs.Handlers.{Printable, here, onward, Stepped, Listed}

-- ---- the word of P(p) and of the live flag

-- a line in other terms
pub line-is : (position n : ℕ) {a a' b b' : Bool} {s s' : ℕ} → a ≡ a' → b ≡ b' → s ≡ s'
    → handler_line position n a b s ≡ handler_line position n a' b' s'
line-is position n p q r = cc

module _ (ws est : List ℕ) (r : Printable ws est) where
  pub small : length ws ≤ 1024
  small = size-le ws r.readable

  pub est-short : length est ≤ 132096
  est-short = omega (arith, r.long, words-bound ws r.readable)

  module _ (p f : ℕ) (h : p < length ws) (at-word : base (code ws) (P p) ≡ f) where
    pub word-inside : f < length est
    unfolding base estimate_words code
    word-inside = omega (arith, r.long)

    pub permissions-read : (ρ : ℕ) → permissions_at (code ws) ρ est p ≡ get_or est f 0 % 2 ^ width
    unfolding permissions_at content
    permissions-read ρ = ap (λ (n : ℕ). get_or est n 0 % 2 ^ width) at-word

    pub flag-read : sets (code ws) est (L p) 0 ≡ eqb (get_or est f 0 / 2 ^ 24 % 2) 1
    unfolding sets allowed owner span place shift bit base member code
    flag-read =
        let n = 2 * length ws * row_words (code ws) + p in
        let quotient : (32 * n + 24 + 0) / 32 ≡ f = omega (arith, at-word) in
        let rest : (32 * n + 24 + 0) % 32 ≡ 24 = omega arith in
        let inside : (ltb p (length ws) && ltb 0 1) ≡ true = ap (λ (b : Bool). b && ltb 0 1) (lt-ltb p (length ws) h) in
        ap₂ (λ (b : Bool) (v : Bool). b && v) inside
        (ap₂ (λ (q s : ℕ). eqb (get_or est q 0 / 2 ^ s % 2) 1) quotient rest)

-- ---- what stands at a word

module _ (ws : List ℕ) (e : reading ws ≡ accepted) (p : ℕ) (h : p < length ws) where
  abbrev keys : List ℕ
  keys = (reach ws e p h).keys

  stands-as : (t : Task) → task_at ws p ≡ t → Stands (names_at ws) keys (get_or ws p 0) t
  stands-as t k = subst (Stands (names_at ws) keys (get_or ws p 0)) k (place-stands ws e p h)

  name-block : task_at ws p ≡ name → item_at ws p ≡ items.Block (handler_at ws p)
  name-block k = item-block ws p (stands-as name k).0

  block-name : (x : Handler) → item_at ws p ≡ items.Block x → task_at ws p ≡ name
  block-name x b = go (task_at ws p) refl
    where
      gap-not : item_at ws p ≡ items.Gap → task_at ws p ≡ name
      gap-not g = let z : ◌≡◌ {A = ℕ} 0 1 = cc in absurd (omega arith)

      go : (t : Task) → task_at ws p ≡ t → task_at ws p ≡ name
      go (head n) k =
          ⊎_elim (λ s. gap-not (item-gap ws p (λ z. omega arith) (omega arith))) (λ s. gap-not (item-gap ws p (λ z. omega arith) (omega arith)))
          (stands-as (head n) k).0
      go name k = k
      go (perms n) k = let s = (stands-as (perms n) k).0 in gap-not (item-gap ws p (λ z. omega arith) (omega arith))
      go guard k = let s = stands-as guard k in gap-not (item-gap ws p (λ z. omega arith) (omega arith))
      go (term d q s) k =
          let i = item-term ws p (stands-as (term d q s) k).0 in
          let z : ◌≡◌ {A = ℕ} 0 1 = cc in
          absurd (omega arith)

  here-block : task_at ws p ≡ name → here ws p ≡ p ∷ []
  unfolding here blocks_from
  here-block k = ap (λ (t : Task). blocks_from (t ∷ []) p) k

  here-none : (task_at ws p ≡ name → ⊥) → here ws p ≡ []
  unfolding here blocks_from
  here-none f = go (task_at ws p) f
    where
      go : (t : Task) → (t ≡ name → ⊥) → blocks_from (t ∷ []) p ≡ []
      go (head n) g = refl
      go name g = absurd (g refl)
      go (perms n) g = refl
      go guard g = refl
      go (term d b s) g = refl

  pub here-gap : item_at ws p ≡ items.Gap → here ws p ≡ []
  here-gap g = here-none (λ k. let b = name-block k in let z : ◌≡◌ {A = ℕ} 0 1 = cc in omega arith)

  pub here-term : (t : Term) → item_at ws p ≡ items.Term t → here ws p ≡ []
  here-term t g = here-none (λ k. let b = name-block k in let z : ◌≡◌ {A = ℕ} 0 1 = cc in omega arith)

  pub here-handler : (x : Handler) → item_at ws p ≡ items.Block x → here ws p ≡ p ∷ []
  here-handler x b = here-block (block-name x b)

  -- the line of a block by its node
  node-line : (ρ position : ℕ) (est : List ℕ) → task_at ws p ≡ name
      → handler_lines (code ws) ρ est position (p ∷ [])
      ≡ handler_line position (handler_at ws p).name (within (handler_at ws p).guard.bits ρ) (sets (code ws) est (L p) 0) (permissions_at (code ws) ρ est p)
  unfolding handler_lines code node_for name_of guarded handler_at
  node-line ρ position est k =
      append-nil _
      ∙ ap (λ (n : Node). handler_line position (name_of n) (guarded n ρ) (sets (code ws) est (L p) 0) (permissions_at (code ws) ρ est p)) (ap (node_for ws p) k)

  -- a word without a handler's line
  pub stepped-none : (ρ : ℕ) (est out : List ℕ) (at position : ℕ) → at + 96 * length (here ws p) ≤ length out → here ws p ≡ []
      → Stepped ws ρ est out p at position out at position
  unfolding handler_lines
  stepped-none ρ est out at position fits none =
      record {
        wrote =
            reworded (ap (handler_lines (code ws) ρ est position) (sym none)) (wrote_nothing out at (omega arith));
        counted = omega (arith, ap length none);
        most = omega arith;
      }

  -- a word with one
  pub stepped-block : (x : Handler) → item_at ws p ≡ items.Block x → (ρ : ℕ) (est out : List ℕ) (at position : ℕ) (out' : List ℕ) (at' : ℕ)
      → Wrote out at (handler_line position x.name (within x.guard.bits ρ) (sets (code ws) est (L p) 0) (permissions_at (code ws) ρ est p)) out' at'
      → at' ≤ at + 96 → Stepped ws ρ est out p at position out' at' (position + 1)
  stepped-block x b ρ est out at position out' at' w l =
      let k = block-name x b in
      let n = name-block k in
      let s : handler_at ws p ≡ x = cc in
      let one = here-block k in
      record {
        wrote =
            reworded
            (ap (λ (y : Handler). handler_line position y.name (within y.guard.bits ρ) (sets (code ws) est (L p) 0) (permissions_at (code ws) ρ est p)) (sym s)
            ∙ sym (node-line ρ position est k)
            ∙ ap (handler_lines (code ws) ρ est position) (sym one)) w;
        counted = omega (arith, ap length one);
        most = omega (arith, ap length one);
      }

-- ---- the loop over the words

onward-step : (ws : List ℕ) → reading ws ≡ accepted → (p : ℕ) → p < length ws → onward ws p ≡ here ws p ++ onward ws (suc p)
unfolding onward here task_at blocks_from
onward-step ws e p h =
    let l : p < length (tasks ws) = subst (λ (n : ℕ). p < n) (sym (tasks-length ws e)) h in
    ap (λ (ts : List Task). blocks_from ts p) (drop-cons (tasks ws) p (head 0) l) ∙ split (task_at ws p) (drop (suc p) (tasks ws))
  where
    split : (t : Task) (ts : List Task) → blocks_from (t ∷ ts) p ≡ blocks_from (t ∷ []) p ++ blocks_from ts (suc p)
    split (head n) ts = refl
    split name ts = refl
    split (perms n) ts = refl
    split guard ts = refl
    split (term d q s) ts = refl

-- the lines of one list of handlers after another's
lines-append : (c : Code) (ρ : ℕ) (est : List ℕ) (position : ℕ) (xs ys : List ℕ)
    → handler_lines c ρ est position (xs ++ ys) ≡ handler_lines c ρ est position xs ++ handler_lines c ρ est (position + length xs) ys
unfolding handler_lines
lines-append c ρ est position [] ys = ap (λ (n : ℕ). handler_lines c ρ est n ys) (sym (add-zero position))
lines-append c ρ est position (x ∷ xs) ys =
    let l = handler_line position (name_of (c.node x)) (guarded (c.node x) ρ) (sets c est (L x) 0) (permissions_at c ρ est x) in
    let more : suc position + length xs ≡ position + suc (length xs) = omega arith in
    ap (λ (r : List ℕ). l ++ r) (lines-append c ρ est (suc position) xs ys)
    ∙ sym (append_assoc l (handler_lines c ρ est (suc position) xs) (handler_lines c ρ est (suc position + length xs) ys))
    ∙ ap (λ (n : ℕ). (l ++ handler_lines c ρ est (suc position) xs) ++ handler_lines c ρ est n ys) more

module _ (ws : List ℕ) (e : reading ws ≡ accepted) (ρ : ℕ) (est out : List ℕ) (start : ℕ) where
  abbrev lines : ℕ → List ℕ → List ℕ
  lines position bs = handler_lines (code ws) ρ est position bs

  pub listed_start : names_of (get_or ws 0 0) ≡ narrow → start ≤ length out → Listed ws ρ est out start 0 out start 0
  unfolding onward code
  listed_start n h =
      record { done = []; wrote = wrote_nothing out start h; rest = refl; few = omega (arith, blocks-le ws e); most = omega arith }

  module _ (p : ℕ) (out' : List ℕ) (at position : ℕ) (l : Listed ws ρ est out start p out' at position) where
    pub listed-length : length out' ≡ length out
    listed-length = wrote-length l.wrote

    pub listed-end : length ws ≤ p → p ≤ length ws → Wrote out start (lines 0 (code ws).blocks) out' at
    unfolding onward handler_lines
    listed-end h k =
        let z : p ≡ length ws = omega arith in
        let none : onward ws p ≡ [] = ap (onward ws) z ∙ blocks_end ws e in
        reworded (sym (append-nil l.done) ∙ ap (λ (bs : List ℕ). l.done ++ lines position bs) (sym none) ∙ l.rest) l.wrote

    module _ (h : p < length ws) where
      counts : length (onward ws p) ≡ length (here ws p) + length (onward ws (suc p))
      counts = ap length (onward-step ws e p h) ∙ length-append (here ws p) (onward ws (suc p))

      pub listed-few : position ≤ 32
      listed-few = omega (arith, l.few)

      pub listed-room : start + 3072 ≤ length out → at + 96 * length (here ws p) ≤ length out'
      listed-room r = omega (arith, l.few, l.most, counts, listed-length)

      pub listed-step : (out'' : List ℕ) (at' position' : ℕ) → Stepped ws ρ est out' p at position out'' at' position'
          → Listed ws ρ est out start (p + 1) out'' at' position'
      listed-step out'' at' position' s =
          record {
            done = l.done ++ lines position (here ws p);
            wrote = then l.wrote s.wrote;
            rest =
                append_assoc l.done (lines position (here ws p)) (lines position' (onward ws (p + 1)))
                ∙ ap (λ (r : List ℕ). l.done ++ r)
                (ap₂ (λ (n q : ℕ). lines position (here ws p) ++ lines n (onward ws q)) s.counted (add-one p)
                ∙ sym (lines-append (code ws) ρ est position (here ws p) (onward ws (suc p)))
                ∙ ap (lines position) (sym (onward-step ws e p h)))
                ∙ l.rest;
            few = rw add-one (omega (arith, l.few, s.counted, counts));
            most = omega (arith, l.most, s.most, s.counted);
          }
