use Prim.Native.Nat.{ℕ, ◌+◌, ◌<◌}
use mathlib.Core.Path.{◌≡◌, sym, ap, ap₂, ◌∙◌}
use mathlib.Core.List.{List, ◌∷◌, map}
use native.Mathlib.Numerals.{add-one}
use native.Mathlib.Omega.{arith}
use lib.ListN.{length, get_or, drop, length-map, drop_of_length-le}
use lib.Seq.{drop-cons}
use Rattle.graph.proofs.Writing.{partly-start, partly-on, partly-end}
use Rattle.reading_order.specs.Relation.{senders_to}
use Rattle.reading_order.proofs.relation.fill_rows.Goals as goal

-- the row of the block at place t, and those behind it
row_next : (f : ℕ → ℕ) (bs : List ℕ) (t x : ℕ) → t < length bs → x ≡ f (get_or bs t 0) → map f (drop t bs) ≡ x ∷ map f (drop (t + 1) bs)
row_next f bs t x h e =
    ap (map f) (drop-cons bs t 0 h) ∙ ap₂ (λ (y n : ℕ). y ∷ map f (drop n bs)) (sym e) (sym (add-one t))

pub loop-t-init : goal.loop-t-init
loop-t-init c = λ k o. partly-start _ _

pub senders_to-requires : goal.senders_to-requires
senders_to-requires c =
    let h = c.requires in
    (h.0, h.1, h.1.inside c.loop-t.t (omega arith))

pub loop-t-preserved : goal.loop-t-preserved
loop-t-preserved c =
    let i = c.loop-t in
    let a = c.args in
    λ k o. partly-on _ _ i.rows i.t c.senders_to.result _ _
    (row_next (senders_to k a.est.now a.blocks.now) a.blocks.now i.t _ (omega arith) (c.senders_to.ensures k o)) (i.invariant k o)

pub returns : goal.returns
returns c =
    let i = c.loop-t in
    let a = c.args in
    λ k o. partly-end _ _ i.rows i.t _
    (ap (map (senders_to k a.est.now a.blocks.now)) (drop_of_length-le a.blocks.now {i = i.t} (omega arith)))
    (omega (arith, c.requires.2, length-map a.blocks.now (senders_to k a.est.now a.blocks.now))) (i.invariant k o)
