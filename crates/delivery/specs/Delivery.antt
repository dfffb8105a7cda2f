-- Why a message was not delivered (document 02, wish 2): the answer of the test whether a send may start a handler, the message aside.
use Rattle.std.specs.Prelude.{ℕ, Bool, true, false, eqb}
use Rattle.permset.specs.Sets.{within, difference}
use Rattle.table.specs.declared.Handler.{Handler}
use Rattle.delivery.specs.declared.Delivery.{Delivery}
use Rattle.delivery.specs.declared.Delivery.TheVariants as deliveries

-- "by the first cause that applies, other name, receiver lacks the required set (with the missing permissions), sender lacks the guard
-- (likewise), or else delivered": of a send to the name n, with r required of the receiver, from a sender with the permissions s, to h
unfoldable pub judged : (n r s : ℕ) → Handler → Delivery
judged n r s h =
    elim (eqb h.name n) [
      | false ↦ deliveries.OtherName
      | true ↦
          elim (within r h.perms.bits) [
            | false ↦ deliveries.ReceiverLacks (record { bits = difference r h.perms.bits })
            | true ↦
                elim (within h.guard.bits s) [
                  | false ↦ deliveries.SenderLacks (record { bits = difference h.guard.bits s })
                  | true ↦ deliveries.Delivered
                ]
          ]
    ]

-- whether the handler may be started, by case
unfoldable pub delivered : Delivery → Bool
delivered deliveries.OtherName = false
delivered (deliveries.ReceiverLacks s) = false
delivered (deliveries.SenderLacks s) = false
delivered deliveries.Delivered = true
