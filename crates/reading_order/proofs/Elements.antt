-- What a query on a row says of a sender; that an estimate's words have the size of its layout, and that a table's blocks are words of it.
use Prim.Native.Nat.{ℕ, zero, suc, ◌+◌, ◌*◌, ◌≤◌, ◌<◌}
use mathlib.Core.Path.{◌≡◌, refl, ap, ap₂, ◌∙◌, subst}
use mathlib.Core.Bool.{Bool}
use Rattle.std.specs.Prelude.{Option}
use mathlib.Core.List.{List, [], ◌∷◌, map, Memᴰ}
use native.Mathlib.Nat.{mul-le-mul}
use native.Mathlib.Omega.{arith}
use lib.ListN.{length, get_or}
use Rattle.table.specs.Scan.{accepted, reading}
use Rattle.table.specs.Code.{Code, code}
use Rattle.table.proofs.Limits.{size-le, blocks-le}
use Rattle.table.proofs.Widths.{names-most}
use Rattle.table.proofs.Linked.{linked}
use Rattle.calculus.specs.Elements.{made}
use Rattle.calculus.specs.Constraint.{C}
use Rattle.calculus.specs.Layout.{sets, row_words, estimate_words}
use Rattle.rows.specs.declared.layout.Layout.{Layout}
use Rattle.rows.specs.Laid.{LaidOut, Sized}
use Rattle.clauses.specs.Asks.{row_at}
use Rattle.clauses.proofs.Sorts.{row-C}
use Rattle.graph.specs.declared.Arrangement.{Arrangement}
use Rattle.graph.specs.Answer.{written, starting_with, Means}
use Rattle.graph.specs.Answer as graph
use Rattle.reading_order.specs.Relation.{senders_to, live_among, sender_rows, live_blocks}
use Rattle.reading_order.specs.Parts.{Firsts, ArrangedBy}

-- an element past the plain ones in C(b) is that of a sender
pub sender-is : (c : Code) (l : Layout) → LaidOut c l → (est : List ℕ) (b : ℕ) → (s : ℕ) (x : Bool) → x ≡ sets c est (row_at (2 * b)) (32 * l.lead + s) → x ≡ sets c est (C b) (made c s)
sender-is c l o est b s x f =
    f
    ∙ ap₂ (sets c est) (row-C b) (let e : 32 * l.lead + s ≡ made c s = omega (arith, o.lead) in e)

listed_at : (xs : List ℕ) (i : ℕ) → i < length xs → Memᴰ (get_or xs i 0) xs
listed_at [] i h = absurd (omega arith)
listed_at (x ∷ xs) zero h = Memᴰ.head refl
listed_at (x ∷ xs) (suc i) h = Memᴰ.tail (listed_at xs i (omega arith))

pub blocks-few : (ws : List ℕ) → reading ws ≡ accepted → length (code ws).blocks ≤ 64
blocks-few ws e = omega (arith, blocks-le ws e, names-most (get_or ws 0 0))

module _ (ws : List ℕ) (e : reading ws ≡ accepted) (l : Layout) (o : LaidOut (code ws) l) where
  pub sized : (est : List ℕ) → length est ≡ estimate_words (code ws) → Sized l est
  unfolding estimate_words row_words code
  sized est long =
      let n : l.size ≤ 1024 = omega (arith, size-le ws e, o.size) in
      let wide : l.row ≤ 36 = omega (arith, o.size, o.row, names-most (get_or ws 0 0)) in
      let most : 2 * l.size * l.row ≤ 2048 * 36 = mul-le-mul {n₂ = 2048} {m₂ = 36} (omega arith) wide in
      let words : length est ≡ 2 * l.size * l.row + l.size = long ∙ ap₂ (λ (x r : ℕ). 2 * x * r + x) o.size o.row in
      record {
        size = n;
        lead = omega (arith, o.lead);
        wide = omega (arith, o.size, o.row, o.lead);
        most = wide;
        long = words;
        short = omega (arith, words, most);
      }

  pub firsts-of : (bs : List ℕ) → bs ≡ (code ws).blocks → Firsts l bs
  firsts-of bs q =
      record {
        few = omega (arith, ap length q, blocks-few ws e);
        inside =
            λ i h. omega (arith, o.size, ((linked ws e).listed (get_or bs i 0) (subst (Memᴰ (get_or bs i 0)) q (listed_at bs i h))).0);
      }

-- ---- what is handed to `arrange`

module _ (c : Code) (est bs : List ℕ) (q : bs ≡ c.blocks) where
  pub rows_are : map (senders_to c est bs) bs ≡ sender_rows c est
  unfolding sender_rows
  rows_are = ap (λ (x : List ℕ). map (senders_to c est x) x) q

  pub live-are : live_among c est bs ≡ live_blocks c est
  unfolding live_blocks
  live-are = ap (live_among c est) q

-- its answer, where it is handed the relation of an estimate
pub arranged-by : (c : Code) (est old new rows : List ℕ) (live : ℕ) (r : Option Arrangement) → rows ≡ sender_rows c est → live ≡ live_blocks c est
    → (r ≡ graph.answer rows live (length old)) × ((new ≡ starting_with (written rows live r) old) × Means rows live r new)
    → ArrangedBy c est old new r
arranged-by c est old new rows live r e f t =
    record {
      says = t.0 ∙ ap₂ (λ (x : List ℕ) (y : ℕ). graph.answer x y (length old)) e f;
      writes = t.1.0 ∙ ap₂ (λ (x : List ℕ) (y : ℕ). starting_with (written x y r) old) e f;
      means = subst (λ (x : List ℕ). Means x (live_blocks c est) r new) e (subst (λ (y : ℕ). Means rows y r new) f t.1.1);
    }
