use Rattle.std.proofs.Common.{◌∙◌, sym, ap₂, refl, ℕ, ◌+◌, ◌*◌, List, ◌++◌, drop, length, set}
use Rattle.widths.specs.Converters.{rekinded}
use Rattle.widths.specs.Answers.{fault_number, fault_place, converted_as}
use Rattle.widths.proofs.Refusals.{no_room, all-written}
use Rattle.widths.proofs.Words.{rekinded-copied}
use Rattle.widths.proofs.convert.put.Goals as goal

pub returns-then-out-n : goal.returns-then-out-n
unfolding converted_as fault_number fault_place
returns-then-out-n c =
    let q = no_room _ _ (rekinded c.args.kind c.args.words.now) _ refl c.if-out-n.true in
    record {
      answer = sym q.0;
      out = sym q.1;
    }

pub returns : goal.returns
unfolding converted_as
returns c =
    let a = c.args in
    let ws = a.words.now in
    let q = all-written _ _ (rekinded a.kind ws) a.out.now refl c.if-out-n.false in
    record {
      answer = sym q.0;
      out = ap₂ (λ (front : List ℕ) (w : ℕ). set (front ++ drop (length ws) a.out.now) 0 (a.kind * 16777216 + w)) c.copy_from_slice.ensures.after c.argument_of.ensures
          ∙ rekinded-copied a.kind ws (drop (length ws) a.out.now) c.requires.0
          ∙ sym q.1;
    }
