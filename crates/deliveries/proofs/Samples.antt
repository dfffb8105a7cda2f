-- The text of some systems, computed from the definition.
use Prim.Native.Nat.{ℕ}
use mathlib.Core.Path.{◌≡◌, refl}
use mathlib.Core.List.{List, [], ◌∷◌, ◌++◌, map}
use Rattle.permset.specs.Sets.{within, difference}
use Rattle.delivery.specs.Delivery.{judged}
use Rattle.table.specs.Item.{handler_at}
use Rattle.table.specs.Links.{block_at}
use Rattle.text.specs.Text.{bytes, decimal, set}
use Rattle.deliveries.specs.Positions.{counted, each_word}
use Rattle.deliveries.specs.Text.{outcome, line, name_for, answer_at, receiver, receivers, lines_of, sends, text}

-- relay with this send and target
abbrev relay : (perms send target : ℕ) → List ℕ
relay perms send target =
    0x01000002 ∷ 0x02000000 ∷ perms ∷ 0x04000000 ∷ send ∷ target ∷ 0x14000000 ∷ 0x02000001 ∷ 0x03000002 ∷ 0x04000008 ∷ 0x24000002 ∷ []

abbrev systems : List (List ℕ)
systems =
    relay 0x03000008 0x23000000 0x13000001
    ∷ relay 0x03000008 0x23000004 0x13000001
    ∷ relay 0x03000000 0x23000000 0x13000001
    -- a target that is no name
    ∷ relay 0x03000008 0x23000004 0x14000000
    -- twins
    ∷ (0x01000003 ∷ 0x02000000 ∷ 0x03000008 ∷ 0x04000000 ∷ 0x23000004 ∷ 0x13000001 ∷ 0x14000000 ∷ 0x02000001 ∷ 0x03000002 ∷ 0x04000008
    ∷ 0x24000002 ∷ 0x02000001 ∷ 0x03000004 ∷ 0x04000008 ∷ 0x24000004 ∷ [])
    -- no send
    ∷ (0x01000001 ∷ 0x02000000 ∷ 0x03000003 ∷ 0x04000000 ∷ 0x24000002 ∷ [])
    ∷ []

pub texts :
    map text systems
    ≡ (bytes "send 4 from 0 to 0 other name\n" ++ bytes "send 4 from 0 to 1 delivered\n")
    ∷ (bytes "send 4 from 0 to 0 other name\n" ++ bytes "send 4 from 0 to 1 lacks 000004\n")
    ∷ (bytes "send 4 from 0 to 0 other name\n" ++ bytes "send 4 from 0 to 1 needs 000008\n")
    ∷ (bytes "send 4 from 0 to 0 lacks 000004\n" ++ bytes "send 4 from 0 to 1 lacks 000004\n")
    ∷ (bytes "send 4 from 0 to 0 other name\n" ++ bytes "send 4 from 0 to 1 lacks 000004\n" ++ bytes "send 4 from 0 to 2 delivered\n")
    ∷ []
    ∷ []
unfolding within difference judged handler_at decimal set outcome line name_for counted each_word answer_at receiver receivers lines_of block_at sends text
texts = refl
