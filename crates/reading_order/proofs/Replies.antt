-- What a call that passes document 01's checks replies and leaves, by the ceiling and the room for positions.
use Prim.Native.Nat.{ℕ, ◌≤◌, ◌<◌}
use mathlib.Core.Path.{◌≡◌, refl, sym, ap, ◌∙◌, subst}
use mathlib.Core.Bool.{Bool, true, false}
use mathlib.Core.List.{List, ◌++◌}
use native.Mathlib.Omega.{arith}
use borrow.Author.Tests.{lt-ltb, le-ltb}
use lib.Dec.{ltb}
use lib.ListN.{length, take, drop, length-map}
use lib.Seq.{take_at}
use Rattle.table.specs.Code.{code}
use Rattle.reading_order.proofs.Elements.{blocks-few}
use Rattle.table.proofs.Linked.{linked}
use Rattle.calculus.specs.Layout.{estimate_words}
use Rattle.calculus.specs.Estimate.{estimate, facts}
use Rattle.calculus.specs.Answer.{Answer, verdict, standing_bound, judge, answer, work_after}
use Rattle.calculus.specs.Answer as answers
use Rattle.calculus.proofs.Least.{estimate-well}
use Rattle.std.specs.Prelude.{Option, Some, None, Result, Err}
use Rattle.std.specs.Option.{ok_or}
use Rattle.calls.specs.declared.Fault.{Fault}
use Rattle.calls.specs.declared.LimitFault.{LimitFault}
use Rattle.calls.specs.Faults.{fault_number, fault_place}
use Rattle.calls.specs.Calls.{Fits}
use Rattle.calls.proofs.Answers.{after-solved, after-refused}
use Rattle.comparison.specs.declared.Findings.{Findings}
use Rattle.solver.specs.Ceiling.{under, answer_within, estimate_within, BoundedIn}
use Rattle.solver.proofs.Least.{words-whole}
use Rattle.solver.proofs.Bound.{words_are, words-kept}
use Rattle.graph.specs.declared.Arrangement.{Arrangement}
use Rattle.graph.specs.declared.Arrangement.TheVariants.{Ordered, Looped}
use Rattle.graph.specs.Answer.{places, written, starting_with, Means}
use Rattle.graph.specs.Answer as graph
use Rattle.graph.proofs.Answers.{answer-short}
use Rattle.reading_order.specs.declared.OrderFault.{OrderFault}
use Rattle.reading_order.specs.declared.OrderFault.TheVariants.{Short}
use Rattle.reading_order.specs.Relation.{senders_to, sender_rows}
use Rattle.reading_order.specs.Reply.{Reply, refused, reply_of, arranged, rows, live, reply_within, reply, estimate_after_order, work_after_order, positions_after, ReplyMeans}
use Rattle.reading_order.specs.Parts.{ArrangedBy, OrderedIn}

-- no room is the refusal 51
pub or-short : (a : Option Arrangement) → reply_of (ok_or a Short) ≡ arranged a
unfolding reply_of arranged
or-short None = refl
or-short (Some (Ordered count)) = refl
or-short (Some (Looped count)) = refl

-- what an arrangement means, as a reply
means-reply : (ws : List ℕ) (ρ : ℕ) (a : Option Arrangement) (new : List ℕ) → Means (rows ws ρ) (live ws ρ) a new → ReplyMeans ws ρ (arranged a) new
unfolding arranged
means-reply ws ρ None new m = tt
means-reply ws ρ (Some (Ordered count)) new m = m
means-reply ws ρ (Some (Looped count)) new m = m

module _ (ws : List ℕ) (ρ n : ℕ) (est work positions : List ℕ) (f : Fits ws ρ standing_bound (length est) (length work)) where
  abbrev v : answers.Verdict
  v = judge (code ws) ρ standing_bound (estimate (code ws) ρ)

  e : answer ws ρ standing_bound (length est) (length work) ≡ verdict v
  e = f.judged

  -- what the ceiling lets through
  under-by : (b : Bool) → ltb n (facts (estimate (code ws) ρ)) ≡ b → under n (verdict v) ≡ elim b [ true ↦ answers.refused 23 n | false ↦ verdict v ]
  unfolding under judge
  under-by b q = ap (λ (x : Bool). elim x [ true ↦ answers.refused 23 n | false ↦ verdict v ]) q

  -- ---- 51

  rows-length : length (rows ws ρ) ≡ length (code ws).blocks
  unfolding sender_rows
  rows-length = length-map (code ws).blocks (senders_to (code ws) (estimate (code ws) ρ) (code ws).blocks)

  -- the positions where an answer lets them be written
  abbrev written_by : Answer → List ℕ
  written_by a =
      elim a [
        | answers.refused number place ↦ positions
        | verdict w ↦ starting_with (written (rows ws ρ) (live ws ρ) (graph.answer (rows ws ρ) (live ws ρ) (length positions))) positions
      ]

  untouched : length positions < places (rows ws ρ) → (a : Answer) → written_by a ≡ positions
  unfolding written
  untouched few (answers.refused number place) = refl
  untouched few (verdict w) = rw (answer-short (rows ws ρ) (live ws ρ) (length positions) few, written)

  pub short-in : length positions < length (code ws).blocks → OrderedIn ws ρ n est work positions est work positions (Err Short)
  unfolding reply_of reply estimate_after_order work_after_order positions_after
  short-in h =
      let t : ltb (length positions) (length (code ws).blocks) ≡ true = lt-ltb (length positions) (length (code ws).blocks) h in
      record {
        replies = sym (rw (e, t, reply));
        estimates = sym (rw (t, estimate_after_order));
        works = sym (rw (t, work_after_order));
        writes =
            sym (untouched (omega (arith, rows-length, blocks-few ws f.fit.readable, h)) (answer_within ws ρ n (length est) (length work)));
        means = tt;
      }

  -- ---- 23, and the order or loop

  module _ (room : length (code ws).blocks ≤ length positions) (est' work' : List ℕ) (s : Result Findings LimitFault) (d : BoundedIn ws ρ n est work est' work' s) where
    t : ltb (length positions) (length (code ws).blocks) ≡ false
    t = le-ltb (length positions) (length (code ws).blocks) room

    est-is : est' ≡ estimate_after_order ws ρ n est work positions
    unfolding estimate_after_order
    est-is = d.estimates ∙ words_are ws ρ n est work e ∙ sym (rw (t, estimate_after_order))

    work-is : work' ≡ work_after_order ws ρ est work positions
    unfolding work_after_order
    work-is = d.works ∙ (after-solved ws ρ standing_bound est work v e).1 ∙ sym (rw (t, work_after_order))

    -- the reply and the positions by what the ceiling lets through
    by-ceiling : (a : Answer) → under n (verdict v) ≡ a
        → (reply ws ρ n (length est) (length work) (length positions) ≡ reply_within ws ρ (length positions) a)
        × (positions_after ws ρ n est work positions ≡ written_by a)
    unfolding reply positions_after answer_within
    by-ceiling a q = (rw (e, t, reply) (ap (reply_within ws ρ (length positions)) q), ap (λ (x : Answer). written_by (under n x)) e ∙ ap written_by q)

    pub over-in : n < facts (estimate (code ws) ρ) → (r : Result Arrangement OrderFault) → reply_of r ≡ refused 23 n
        → OrderedIn ws ρ n est work positions est' work' positions r
    unfolding reply_within
    over-in h r q =
        let k = by-ceiling (answers.refused 23 n) (under-by true (lt-ltb n (facts (estimate (code ws) ρ)) h)) in
        record {
          replies = q ∙ sym k.0;
          estimates = est-is;
          works = work-is;
          writes = sym k.1;
          means = subst (λ (x : Reply). ReplyMeans ws ρ x positions) (sym q) tt;
        }

    module _ (h : facts (estimate (code ws) ρ) ≤ n) where
      u : ltb n (facts (estimate (code ws) ρ)) ≡ false
      u = le-ltb n (facts (estimate (code ws) ρ)) h

      pub estimate-there : take (estimate_words (code ws)) est' ≡ estimate (code ws) ρ
      estimate-there =
          ap (take (estimate_words (code ws))) (d.estimates ∙ ap (λ (xs : List ℕ). xs ++ drop (estimate_words (code ws)) est) (words-whole (code ws) ρ n u))
          ∙ take_at (estimate (code ws) ρ) (drop (estimate_words (code ws)) est) (estimate_words (code ws))
          (estimate-well (code ws) (linked ws f.fit.readable) ρ).long

      pub arranged-in : (positions' : List ℕ) (a : Option Arrangement) (r : Result Arrangement OrderFault) → ArrangedBy (code ws) (take (estimate_words (code ws)) est') positions positions' a
          → reply_of r ≡ arranged a → OrderedIn ws ρ n est work positions est' work' positions' r
      unfolding reply_within
      arranged-in positions' a r k q =
          let w = by-ceiling (verdict v) (under-by false u) in
          let b : ArrangedBy (code ws) (estimate (code ws) ρ) positions positions' a = subst (λ (xs : List ℕ). ArrangedBy (code ws) xs positions positions' a) estimate-there k in
          record {
            replies = q ∙ ap arranged b.says ∙ sym w.0;
            estimates = est-is;
            works = work-is;
            writes = b.writes ∙ ap (λ (x : Option Arrangement). starting_with (written (rows ws ρ) (live ws ρ) x) positions) b.says ∙ sym w.1;
            means = subst (λ (x : Reply). ReplyMeans ws ρ x positions') (sym q) (means-reply ws ρ a positions' b.means);
          }

-- ---- a refusal of document 01

same-either : {A : Type 0} (b : Bool) (x y : A) → x ≡ y → x ≡ elim b [ true ↦ x | false ↦ y ]
same-either true x y q = refl
same-either false x y q = q

pub refused-in : (ws : List ℕ) (ρ n : ℕ) (est work positions : List ℕ) (f : Fault)
    → answer ws ρ standing_bound (length est) (length work) ≡ answers.refused (fault_number f) (fault_place f)
    → (r : Result Arrangement OrderFault) → reply_of r ≡ refused (fault_number f) (fault_place f)
    → OrderedIn ws ρ n est work positions est work positions r
unfolding reply estimate_after_order work_after_order positions_after answer_within under
refused-in ws ρ n est work positions f e r q =
    let short = ltb (length positions) (length (code ws).blocks) in
    record {
      replies = q ∙ sym (rw (e, reply));
      estimates = same-either short est (estimate_within ws ρ n est work) (words-kept ws ρ n est work (fault_number f) (fault_place f) e);
      works =
          same-either short work (work_after ws ρ standing_bound est work)
          (after-refused ws ρ standing_bound est work (fault_number f) (fault_place f) e).1;
      writes = sym (rw (e, positions_after));
      means = subst (λ (x : Reply). ReplyMeans ws ρ x positions) (sym q) tt;
    }
