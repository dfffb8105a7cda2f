-- `analyse::answer` meets its contract: the bytes that are written are the printed text. Assumes nothing.
use Rattle.std.proofs.Common.{◌≡◌, ℕ, ◌≤◌, Bool, true, false, List, ◌++◌, rules, length, take, drop, ap, ◌∙◌, subst, OnOk}
use Rattle.std.proofs.Math.Seq.{take-append_seam}
use Rattle.std.specs.Io.KnownBytes.{Appends}
use borrow.Author.Tests.{le-ltb}
use Rattle.printout.specs.Program.{room, with_room, text_after, text_size}
use Rattle.analyse.proofs.answer.Goals as goal

-- what a slice with room is left with
room-after : {A : Type 0} (size : ℕ) (before after : A) → room ≤ size → with_room size before after ≡ after
unfolding with_room
room-after size before after h = ap (λ (b : Bool). elim b [ true ↦ before | false ↦ after ]) (le-ltb size room h)

-- the part that is written is then the text
whole : (text out out' : List ℕ) (n : ℕ) → room ≤ length out → n ≡ text_size text (length out) → out' ≡ text_after text out → take n out' ≡ text
unfolding text_size text_after
whole text out out' n h size after =
    ap (λ k. take k out') (size ∙ room-after (length out) 0 (length text) h)
    ∙ ap (take (length text)) (after ∙ room-after (length out) out (text ++ drop (length text) out) h)
    ∙ take-append_seam text (drop (length text) out)

pub returns : goal.returns
returns g c =
    let p = c.print-n in
    subst (λ xs. OnOk c.text.result (Appends (g.W.Write.contents c.args.out.now) (g.W.Write.contents c.text.new.out) xs))
    (whole _ _ _ _ (search rules) p.ensures.size p.ensures.text) c.text.ensures
