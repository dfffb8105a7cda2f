-- How a solver begins, with a cleared estimate and the links made, and what it has when every rule is obeyed.
use Prim.Native.Nat.{ℕ, zero, suc, ◌*◌, ◌≤◌, ◌<◌}
use mathlib.Core.Path.{◌≡◌, sym, ap, ◌∙◌, subst}
use mathlib.Core.List.{List}
use native.Mathlib.Omega.{arith}
use lib.ListN.{length, take, drop, replicate}
use Rattle.table.specs.Scan.{accepted, reading}
use Rattle.table.specs.Code.{code}
use Rattle.table.specs.Links as Links
use Rattle.table.proofs.Linked.{linked}
use Rattle.calculus.specs.Elements.{is_function, any_record}
use Rattle.calculus.specs.Layout.{estimate_words, WellFormed}
use Rattle.rows.specs.declared.layout.Layout.{Layout}
use Rattle.masks.specs.Masks.{Masked}
use Rattle.rows.specs.Laid.{LaidOut}
use Rattle.rows.specs.Mask.{Mask, made_as}
use Rattle.clauses.specs.Asks.{sort_at}
use Rattle.queries.specs.Passes.{mask_at}
use Rattle.queries.specs.Ready.{Ready}
use Rattle.readers.specs.Reading.{Readable}
use Rattle.fixpoint.specs.Grown.{Closed}
use Rattle.solver.specs.Ceiling.{cleared_over, Counted}
use Rattle.solver.proofs.Least.{zeros-well, counted-least}

-- the masks by their numbers
by_number : (ws masks : List ℕ) (l : Layout) → Masked (code ws) masks l.row → (m : ℕ) → m < 4 → Mask (code ws) (sort_at m (code ws)) (mask_at l masks m)
unfolding sort_at
by_number ws masks l h zero i =
    let e : 0 ≡ zero * l.row = omega arith in subst (λ (k : ℕ). Mask (code ws) (made_as (code ws) is_function) (take l.row (drop k masks))) e h.functions
by_number ws masks l h (suc zero) i =
    let e : l.row ≡ 1 * l.row = omega arith in subst (λ (k : ℕ). Mask (code ws) (any_record (code ws)) (take l.row (drop k masks))) e h.records
by_number ws masks l h (suc (suc zero)) i = h.cells
by_number ws masks l h (suc (suc (suc zero))) i = h.messages
by_number ws masks l h (suc (suc (suc (suc m)))) i = absurd (omega arith)

pub ready_of : (ws links masks est : List ℕ) (l : Layout) → Readable ws links est l → 4 * l.row ≤ length masks → Masked (code ws) masks l.row
    → Ready ws links masks l
ready_of ws links masks est l h n m =
    record {
      readable = h.readable;
      slice = h.linked.slice;
      room = h.linked.room;
      from = h.linked.made;
      laid = h.laid;
      masked = record { long = n; mask = by_number ws masks l m };
    }

module _ (ws old est : List ℕ) (l : Layout) (e : reading ws ≡ accepted) (o : LaidOut (code ws) l)
    (long : length old ≡ estimate_words (code ws)) (z : est ≡ replicate (length old) 0) where
  cleared : est ≡ replicate (estimate_words (code ws)) 0
  cleared = z ∙ ap (λ (n : ℕ). replicate n 0) long

  -- a cleared estimate, and the links made
  pub begun : (links slice : List ℕ) → links ≡ Links.linked ws slice → length ws ≤ length slice → Readable ws links est l × WellFormed (code ws) est
  begun links slice k r = (
    record {
      readable = e;
      laid = o;
      linked = record { slice = slice; room = r; made = k };
      long = well.long;
    },
    well,
  )
    where
      well : WellFormed (code ws) est
      well = subst (WellFormed (code ws)) (sym cleared) (zeros-well (code ws))

  -- closed from there
  pub ended : (ρ n : ℕ) (new : List ℕ) (k : ℕ) → Closed (code ws) ρ n est new k → Counted (code ws) ρ n (cleared_over k n new) k
  ended ρ n new k d =
      counted-least (code ws) (linked ws e) ρ n new k (subst (λ (xs : List ℕ). Closed (code ws) ρ n xs new k) cleared d)
