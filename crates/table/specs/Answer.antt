-- Document 01's number and place for each refusal of a table, and what an answer of the reading says.
use Rattle.std.specs.Prelude.{ℕ, Result, Ok, Err}
use Rattle.table.specs.declared.Refusal.{Refusal}
use Rattle.table.specs.declared.Refusal.TheVariants.{NotTable, TooManyWords, TooManyHandlers, NotBlock, NameRange, KeyUsed, NotTerm, NoTerm, ArgumentRange, NoBinder, TooDeep, Trailing}
use Rattle.table.specs.Scan.{Outcome, accepted, refused}

unfoldable pub number : Refusal → ℕ
number NotTable = 1
number TooManyWords = 2
number TooManyHandlers = 3
number (NotBlock p) = 4
number (NameRange p) = 5
number (KeyUsed p) = 6
number (NotTerm p) = 7
number (NoTerm p) = 8
number (ArgumentRange p) = 9
number (NoBinder p) = 10
number (TooDeep p) = 11
number (Trailing p) = 12

unfoldable pub place : Refusal → ℕ
place NotTable = 0
place TooManyWords = 0
place TooManyHandlers = 0
place (NotBlock p) = p
place (NameRange p) = p
place (KeyUsed p) = p
place (NotTerm p) = p
place (NoTerm p) = p
place (ArgumentRange p) = p
place (NoBinder p) = p
place (TooDeep p) = p
place (Trailing p) = p

unfoldable pub outcome : Result (Unit {0}) Refusal → Outcome
unfolding number place
outcome (Ok u) = accepted
outcome (Err r) = refused (number r) (place r)
