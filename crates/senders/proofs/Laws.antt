-- What the words of an estimate say of a block, and the parts of its line.
use Prim.Native.Nat.{ℕ, ◌+◌, ◌*◌, ◌/◌, ◌%◌, ◌≤◌, ◌<◌}
use mathlib.Core.Path.{◌≡◌, refl, sym, ap, ◌∙◌, subst}
use mathlib.Core.Bool.{Bool, true, false}
use mathlib.Core.List.{List, [], ◌∷◌, ◌++◌}
use native.Mathlib.Omega.{arith}
use borrow.Author.Tests.{eq-eqb, ne_eqb}
use lib.ListN.{length, get_or}
use Rattle.permset.specs.Sets.{member}
use Rattle.table.specs.Words.{kind, argument}
use Rattle.table.specs.Code.{code}
use Rattle.table.proofs.Widths.{names-most}
use Rattle.calculus.specs.Elements.{made, elements, opponent_record}
use Rattle.calculus.specs.Layout.{row_words, base}
use Rattle.calculus.proofs.RowOperations.{sets-C}
use Rattle.rows.specs.declared.layout.Layout.{Layout}
use Rattle.rows.specs.Laid.{LaidOut}
use Rattle.text.specs.Text.{bytes, decimal, choice}
use Rattle.text.specs.Added.{Added}
use Rattle.text.proofs.Adding.{added_then, added-as}
use Rattle.senders.specs.Text.{or_nobody, line, holds, sender, opponent, senders, block_line}

-- the layout of a short table, accepted or not: it has as many words, and a row has less than 64
pub laid-size : (ws : List ℕ) → length ws ≤ 1024 → (l : Layout) → LaidOut (code ws) l → l.size ≤ 1024
unfolding code
laid-size ws h l o = omega (arith, o.size)

pub row-few : (ws : List ℕ) → length ws ≤ 1024 → (l : Layout) → LaidOut (code ws) l → l.row < 64
unfolding code row_words
row-few ws h l o = omega (arith, o.row, names-most (get_or ws 0 0))

pub lead-few : (ws : List ℕ) (l : Layout) → LaidOut (code ws) l → l.lead ≤ 3
unfolding code
lead-few ws l o = omega (arith, o.lead, names-most (get_or ws 0 0))

module _ (ws est : List ℕ) where
  pub holds-is : (b v row w : ℕ) → b < length ws → v < elements (code ws) → row_words (code ws) ≡ row → w ≡ get_or est (2 * b * row + v / 32) 0
      → member w (v % 32) ≡ holds ws est b v
  unfolding base code
  holds-is b v row w h k r e =
      ap (λ (x : ℕ). member x (v % 32)) (e ∙ ap (λ (n : ℕ). get_or est (2 * b * n + v / 32) 0) (sym r))
      ∙ sym (sets-C (code ws) b v est h k)

  module _ (b s position : ℕ) where
    pub sender-none : (kind (get_or ws s 0) ≡ 2 → ⊥) → sender ws est b s position (get_or ws s 0) ≡ []
    unfolding sender
    sender-none k = rw (ne_eqb (kind (get_or ws s 0)) 2 k, sender)

    module _ (l : Layout) (o : LaidOut (code ws) l) (k : kind (get_or ws s 0) ≡ 2) (x : Bool) (e : x ≡ holds ws est b (32 * l.lead + s)) where
      sender-by : sender ws est b s position (get_or ws s 0) ≡ choice x (bytes " " ++ decimal position) []
      unfolding sender
      sender-by =
          let f : x ≡ holds ws est b (made (code ws) s) = e ∙ ap (λ (n : ℕ). holds ws est b (n + s)) (sym o.lead) in
          rw (eq-eqb (kind (get_or ws s 0)) 2 k, sender, ← f)

      pub sender-absent : x ≡ false → sender ws est b s position (get_or ws s 0) ≡ []
      sender-absent f = sender-by ∙ ap (λ (y : Bool). choice y (bytes " " ++ decimal position) []) f

      pub sender-here : x ≡ true → sender ws est b s position (get_or ws s 0) ≡ bytes " " ++ decimal position
      sender-here t = sender-by ∙ ap (λ (y : Bool). choice y (bytes " " ++ decimal position) []) t

  module _ (b : ℕ) (x : Bool) (e : x ≡ holds ws est b opponent_record) where
    opponent-by : opponent ws est b ≡ choice x (bytes " opponent") []
    unfolding opponent
    opponent-by = ap (λ (y : Bool). choice y (bytes " opponent") []) (sym e)

    pub opponent-absent : x ≡ false → opponent ws est b ≡ []
    opponent-absent f = opponent-by ∙ ap (λ (y : Bool). choice y (bytes " opponent") []) f

    pub opponent-here : x ≡ true → opponent ws est b ≡ bytes " opponent"
    opponent-here t = opponent-by ∙ ap (λ (y : Bool). choice y (bytes " opponent") []) t

  module _ (b position : ℕ) where
    pub block_none : (kind (get_or ws b 0) ≡ 2 → ⊥) → block_line ws est b position (get_or ws b 0) ≡ []
    unfolding block_line
    block_none k = rw (ne_eqb (kind (get_or ws b 0)) 2 k, block_line)

    pub block_here : kind (get_or ws b 0) ≡ 2
        → block_line ws est b position (get_or ws b 0) ≡ line position (argument (get_or ws b 0)) (senders ws est b)
    unfolding block_line
    block_here k = rw (eq-eqb (kind (get_or ws b 0)) 2 k, block_line)

-- ---- nobody or somebody, by whether a place moved

nobody : (l : List ℕ) → length l ≡ 0 → or_nobody l ≡ l ++ bytes " -"
unfolding or_nobody
nobody [] h = refl
nobody (x ∷ xs) h = absurd (omega arith)

somebody : (l : List ℕ) → (length l ≡ 0 → ⊥) → or_nobody l ≡ l
unfolding or_nobody
somebody [] h = absurd (h refl)
somebody (x ∷ xs) h = refl

module _ {before l mid : List ℕ} {at end : ℕ} (a : Added before at l mid end) where
  pub added-nobody : end ≡ at → {after : List ℕ} {next : ℕ} → Added mid at (bytes " -") after next → Added before at (or_nobody l) after next
  added-nobody e r =
      added-as (sym (nobody l (omega (arith, a.ends)))) (added_then (subst (λ (n : ℕ). Added before at l mid n) e a) r)

  pub added-somebody : (end ≡ at → ⊥) → Added before at (or_nobody l) mid end
  added-somebody f = added-as (sym (somebody l (λ z. f (omega (arith, a.ends))))) a
