-- `order_text::write` meets its contract. Assumes nothing.
use mathlib.Core.Path.{sym, ◌∙◌}
use Rattle.order_text.proofs.Laws.{unwritten, written}
use Rattle.order_text.proofs.write.Goals as goal

pub returns-then-lacks_room : goal.returns-then-lacks_room
returns-then-lacks_room c =
    let a = c.args in
    let all = unwritten _ _ a.out.now (sym c.lacks_room.ensures ∙ c.if-lacks_room.true) in record {
      size = all.0;
      text = all.1.0;
      fits = all.1.1;
    }

pub returns : goal.returns
returns c =
    let a = c.args in
    let all = written _ _ a.out.now (sym c.lacks_room.ensures ∙ c.if-lacks_room.false) _ _ c.put_reply.ensures in record {
      size = all.0;
      text = all.1.0;
      fits = all.1.1;
    }
