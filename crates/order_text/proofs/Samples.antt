-- Lines of replies, computed.
use mathlib.Core.Path.{◌≡◌, refl}
use mathlib.Core.List.{[], ◌∷◌}
use Rattle.text.specs.Text.{bytes, decimal}
use Rattle.report.specs.Lines.{refusal_line}
use Rattle.reading_order.specs.Reply.{refused, ordered, looped}
use Rattle.order_text.specs.Text.{reply_text}

pub lines :
    reply_text (ordered 3) (0 ∷ 2 ∷ 1 ∷ 7 ∷ []) ∷ reply_text (looped 2) (0 ∷ 2 ∷ 0 ∷ []) ∷ reply_text (ordered 0) (5 ∷ []) ∷ reply_text (looped 1) (31 ∷ [])
    ∷ reply_text (refused 51 0) (1 ∷ []) ∷ reply_text (refused 23 100) [] ∷ []
    ≡ bytes "order 0 2 1\n"
    ∷ bytes "loop 0 2\n"
    ∷ bytes "order\n"
    ∷ bytes "loop 31\n"
    ∷ bytes "refused 51 at 0\n"
    ∷ bytes "refused 23 at 100\n"
    ∷ []
unfolding decimal reply_text refusal_line
lines = refl
