-- The number and the place of each refusal (document 02, wish 1), and what an answer says.
use Rattle.std.specs.Prelude.{ℕ, Result, Ok, Err}
use Rattle.table.specs.Answer.{number as table_number, place as table_place}
use Rattle.listing.specs.declared.Refusal.{Refusal}
use Rattle.listing.specs.declared.Refusal.TheVariants.{Table, Line, TooLong, NoRoom}
use Rattle.listing.specs.Listing.{Answered, done, refusal}

unfoldable pub number : Refusal → ℕ
number (Table r) = table_number r
number (Line n) = 40
number TooLong = 41
number NoRoom = 42

unfoldable pub place : Refusal → ℕ
place (Table r) = table_place r
place (Line n) = n
place TooLong = 0
place NoRoom = 0

unfoldable pub answered : Result ℕ Refusal → Answered
unfolding number place
answered (Ok n) = done n
answered (Err r) = refusal (number r) (place r)
