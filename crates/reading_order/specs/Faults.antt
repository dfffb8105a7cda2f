-- A refusal under a ceiling, as one of a call for an order.
use Rattle.calls.specs.declared.LimitFault.{LimitFault}
use Rattle.calls.specs.declared.LimitFault.TheVariants as limits
use Rattle.reading_order.specs.declared.OrderFault.{OrderFault}
use Rattle.reading_order.specs.declared.OrderFault.TheVariants.{Call, Facts}

abbrev pub order_fault : LimitFault → OrderFault
order_fault (limits.Call f) = Call f
order_fault (limits.Facts n) = Facts n
