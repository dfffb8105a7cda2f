-- A send is delivered where the name is the receiver's, the required set is within its permissions, and its guard within the sender's.
use Prim.Native.Nat.{ℕ}
use mathlib.Core.Path.{◌≡◌, refl}
use mathlib.Core.Bool.{Bool, true, false, ◌&&◌}
use lib.Dec.{eqb}
use Rattle.permset.specs.declared.PermSet.{PermSet}
use Rattle.permset.specs.Sets.{within, difference}
use Rattle.table.specs.declared.Handler.{Handler}
use Rattle.delivery.specs.declared.Delivery.{Delivery}
use Rattle.delivery.specs.declared.Delivery.TheVariants as deliveries
use Rattle.delivery.specs.Delivery.{judged, delivered}

-- by the outcomes of the three tests
choice : (a b d : Bool) (x y : PermSet) → Delivery
choice a b d x y =
    elim a [
      | false ↦ deliveries.OtherName
      | true ↦ elim b [ false ↦ deliveries.ReceiverLacks x | true ↦ elim d [ false ↦ deliveries.SenderLacks y | true ↦ deliveries.Delivered ] ]
    ]

choice-is : (a b d : Bool) (x y : PermSet) → delivered (choice a b d x y) ≡ (a && b) && d
unfolding delivered choice
choice-is false b d x y = refl
choice-is true false d x y = refl
choice-is true true false x y = refl
choice-is true true true x y = refl

pub delivered-is : (n r s : ℕ) (h : Handler) → delivered (judged n r s h) ≡ (eqb h.name n && within r h.perms.bits) && within h.guard.bits s
unfolding judged choice
delivered-is n r s h =
    choice-is (eqb h.name n) (within r h.perms.bits) (within h.guard.bits s) (record { bits = difference r h.perms.bits })
    (record { bits = difference h.guard.bits s })
