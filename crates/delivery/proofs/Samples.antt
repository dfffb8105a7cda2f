-- The answers for one handler, computed: each cause where it applies, and the first one where several do.
use Prim.Native.Nat.{ℕ}
use mathlib.Core.Path.{◌≡◌, refl}
use mathlib.Core.List.{List, [], ◌∷◌, map}
use Rattle.permset.specs.Sets.{within, difference}
use Rattle.table.specs.declared.Handler.{Handler}
use Rattle.delivery.specs.declared.Delivery.{Delivery}
use Rattle.delivery.specs.declared.Delivery.TheVariants as deliveries
use Rattle.delivery.specs.Delivery.{judged}

-- the name 1, the permissions 2 and the guard 8
abbrev receiver : Handler
receiver = record { name = 1; perms = record { bits = 2 }; guard = record { bits = 8 } }

-- the name that is sent to, what is required, and the permissions of the sender, with the answer
pub record Sample : Type 0 where
  pub name : ℕ
  pub required : ℕ
  pub sender : ℕ
  pub answer : Delivery

abbrev of : (n r s : ℕ) → Delivery → Sample
of n r s d = record { name = n; required = r; sender = s; answer = d }

abbrev samples : List Sample
samples =
    of 0 4 0 deliveries.OtherName
    ∷ of 0 0 8 deliveries.OtherName
    ∷ of 1 4 0 (deliveries.ReceiverLacks (record { bits = 4 }))
    ∷ of 1 6 8 (deliveries.ReceiverLacks (record { bits = 4 }))
    ∷ of 1 0 0 (deliveries.SenderLacks (record { bits = 8 }))
    ∷ of 1 2 6 (deliveries.SenderLacks (record { bits = 8 }))
    ∷ of 1 0 8 deliveries.Delivered
    ∷ of 1 2 9 deliveries.Delivered
    ∷ []

pub answers : map (λ (s : Sample). judged s.name s.required s.sender receiver) samples ≡ map (λ (s : Sample). s.answer) samples
unfolding judged within difference
answers = refl
