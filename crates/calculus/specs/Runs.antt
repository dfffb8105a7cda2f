-- Example runs of small tables: what is exercised, the last one first, and how many instances were started. proofs/Runs.antt
-- computes them from the words.
use Rattle.std.specs.Prelude.{ℕ, ◌+◌, true, false, List, [], ◌∷◌, ◌++◌, length, replicate, pos, negsuc}
use Rattle.std.proofs.Math.Option.{none, some}
use Rattle.table.specs.Words.{word_of}
use Rattle.table.specs.Code.{code}
use Rattle.calculus.specs.Values.{Value, named, text, number, atom, function, cell, fields, field, empty, closed, undefined, unit, truth}
use Rattle.calculus.specs.Run.{Event, steps, starts, World, world, run}

-- a table, the opponent's set and a list of events, with what is to come of them
pub data Example : Type 0 where
  example : (words : List ℕ) (ρ : ℕ) (events : List Event) (exercised : List ℕ) (instances : ℕ) → Example

-- one handler with the permissions 3
abbrev pub alone : (guard : ℕ) → List ℕ → List ℕ
alone g body = 0x01000001 ∷ 0x02000000 ∷ 0x03000003 ∷ word_of 4 g ∷ body

-- a handler that sends its message to the name 1 with a required set, and handlers of that name, at the words 7 and 11
abbrev pub relays : (handlers required : ℕ) → List ℕ → List ℕ
relays n r rest =
    word_of 1 n ∷ 0x02000000 ∷ 0x03000008 ∷ 0x04000000 ∷ word_of 35 r ∷ 0x13000001 ∷ 0x14000000
    ∷ 0x02000001 ∷ 0x03000002 ∷ 0x04000008 ∷ 0x24000002 ∷ rest

abbrev pub twin : List ℕ
twin = 0x02000001 ∷ 0x03000004 ∷ 0x04000008 ∷ 0x24000004 ∷ []

-- n steps of instance i that start nothing
abbrev pub times : ℕ → ℕ → List Event
times n i = replicate n (steps i none)

-- The handler at word 1 sends the message that the words m build to the name 1, then exercises 8. The handler of that name exercises 1 if the term
-- `read` gives undefined, and 2 if not. It is started where the send allows it, by a start of the sender with this datum; then each takes its steps.
abbrev pub carried : (m : List ℕ) (datum : Value) (read : List ℕ) (exercised : List ℕ) (instances : ℕ) → Example
carried m datum read rs n =
    example
    (0x01000002 ∷ 0x02000000 ∷ 0x03000008 ∷ 0x04000000 ∷ 0x18000000 ∷ 0x23000000 ∷ 0x13000001 ∷ m
    ++ (0x24000008 ∷ 0x02000001 ∷ 0x03000003 ∷ 0x04000008 ∷ 0x19000000 ∷ 0x1b000002 ∷ read ++ (0x10000000 ∷ 0x24000001 ∷ 0x24000002 ∷ []))) 0
    (starts 1 datum ∷ replicate 40 (steps 0 (some (8 + length m))) ++ times 30 1 ++ times 10 0)
    rs n

-- ---- one handler with a message and a term in its body

-- exercises 1 if the term gives true, and 2 if it gives false
abbrev pub branched : (message : Value) → List ℕ → (exercised : ℕ) → Example
branched v t r = example (alone 0 (0x19000000 ∷ t ++ (0x24000001 ∷ 0x24000002 ∷ []))) 0 (starts 1 v ∷ times 40 0) (r ∷ []) 1

-- with the message unit
abbrev pub true_of : List ℕ → Example
true_of t = branched unit t 1

abbrev pub false_of : List ℕ → Example
false_of t = branched unit t 2

-- the term gives what the term u gives
abbrev pub gives : List ℕ → List ℕ → Example
gives t u = true_of (0x1b000002 ∷ t ++ u)

-- exercises 1, then runs the term, then exercises 2: so much is exercised, where the message is unit
abbrev pub between : List ℕ → (exercised : List ℕ) → Example
between t rs = example (alone 0 (0x18000000 ∷ 0x24000001 ∷ 0x18000000 ∷ t ++ (0x24000002 ∷ []))) 0 (starts 1 unit ∷ times 40 0) rs 1

-- the instance stops at the term
abbrev pub stops : List ℕ → Example
stops t = between t (1 ∷ [])

-- a start with this value is not allowed: nothing runs
abbrev pub turned : (block : ℕ) → Value → Example
turned b v = example (alone 0 (0x24000001 ∷ [])) 0 (starts b v ∷ times 3 0) [] 0

-- The stops of document 01, "The machine": each of its clauses, with the wrong part first and second where there are two.
unfoldable pub stopping : List Example
stopping =
    -- "applying a non-function"
    stops (0x16000000 ∷ 0x10000001 ∷ 0x10000001 ∷ [])
    ∷ stops (0x16000000 ∷ 0x1c000000 ∷ 0x10000001 ∷ [])
    -- "branching on anything but true or false"
    ∷ stops (0x19000000 ∷ 0x10000001 ∷ 0x10000001 ∷ 0x10000001 ∷ [])
    ∷ stops (0x19000000 ∷ 0x1c000000 ∷ 0x10000001 ∷ 0x10000001 ∷ [])
    ∷ stops (0x1a000000 ∷ 0x10000000 ∷ 0x10000001 ∷ [])
    ∷ stops (0x1a000000 ∷ 0x11000001 ∷ 0x10000001 ∷ [])
    -- "adding or comparing (less) non-numbers"
    ∷ stops (0x1b000000 ∷ 0x12000000 ∷ 0x11000001 ∷ [])
    ∷ stops (0x1b000000 ∷ 0x11000001 ∷ 0x10000002 ∷ [])
    ∷ stops (0x1b000000 ∷ 0x11000001 ∷ 0x1c000000 ∷ [])
    ∷ stops (0x1b000001 ∷ 0x13000000 ∷ 0x11000001 ∷ [])
    ∷ stops (0x1b000001 ∷ 0x11000001 ∷ 0x12000000 ∷ [])
    -- "`equal` with a record, function or cell", on either side
    ∷ stops (0x1b000002 ∷ 0x1c000000 ∷ 0x10000001 ∷ [])
    ∷ stops (0x1b000002 ∷ 0x10000001 ∷ 0x1c000000 ∷ [])
    ∷ stops (0x1b000002 ∷ 0x15000000 ∷ 0x10000001 ∷ 0x10000001 ∷ [])
    ∷ stops (0x1b000002 ∷ 0x10000001 ∷ 0x15000000 ∷ 0x10000001 ∷ [])
    ∷ stops (0x1b000002 ∷ 0x20000000 ∷ 0x10000001 ∷ 0x10000001 ∷ [])
    ∷ stops (0x1b000002 ∷ 0x10000001 ∷ 0x20000000 ∷ 0x10000001 ∷ [])
    -- "reading or assigning a non-cell"
    ∷ stops (0x21000000 ∷ 0x10000001 ∷ [])
    ∷ stops (0x21000000 ∷ 0x1c000000 ∷ [])
    ∷ stops (0x22000000 ∷ 0x10000001 ∷ 0x10000001 ∷ [])
    -- "sending to a non-name"
    ∷ stops (0x23000000 ∷ 0x12000000 ∷ 0x10000001 ∷ [])
    ∷ stops (0x23000000 ∷ 0x1c000000 ∷ 0x10000001 ∷ [])
    -- "get, set or delete on a non-record or with a non-string"
    ∷ stops (0x1d000000 ∷ 0x10000001 ∷ 0x12000000 ∷ [])
    ∷ stops (0x1d000000 ∷ 0x1c000000 ∷ 0x11000000 ∷ [])
    ∷ stops (0x1e000000 ∷ 0x10000001 ∷ 0x12000000 ∷ 0x10000001 ∷ [])
    ∷ stops (0x1e000000 ∷ 0x1c000000 ∷ 0x13000000 ∷ 0x10000001 ∷ [])
    ∷ stops (0x1f000000 ∷ 0x10000001 ∷ 0x12000000 ∷ [])
    ∷ stops (0x1f000000 ∷ 0x1c000000 ∷ 0x10000000 ∷ [])
    -- an exercise that is not within the instance's permissions
    ∷ stops (0x24000004 ∷ [])
    ∷ stops (0x24000007 ∷ [])
    ∷ []

-- The steps beside these stops: each term goes on, with this value.
unfoldable pub going : List Example
going =
    -- a function that uses its argument; one that uses the binder that it captured, though another binder is innermost where it is applied
    true_of (0x16000000 ∷ 0x15000000 ∷ 0x14000000 ∷ 0x10000002 ∷ [])
    ∷ true_of
    (0x17000000 ∷ 0x17000000 ∷ 0x10000002 ∷ 0x15000000 ∷ 0x14000001
    ∷ 0x17000000 ∷ 0x10000003 ∷ 0x16000000 ∷ 0x14000001 ∷ 0x10000003 ∷ [])
    -- an if's branches
    ∷ true_of (0x19000000 ∷ 0x10000002 ∷ 0x10000002 ∷ 0x10000003 ∷ [])
    ∷ false_of (0x19000000 ∷ 0x10000003 ∷ 0x10000002 ∷ 0x10000003 ∷ [])
    -- a while that ends at once gives undefined
    ∷ gives (0x1a000000 ∷ 0x10000003 ∷ 0x10000001 ∷ []) (0x10000000 ∷ [])
    -- 1 + -1 is 0, 3 + 4 is 7; less is strict, and goes by the order of numbers
    ∷ gives (0x1b000000 ∷ 0x11000001 ∷ 0x11ffffff ∷ []) (0x11000000 ∷ [])
    ∷ gives (0x1b000000 ∷ 0x11000003 ∷ 0x11000004 ∷ []) (0x11000007 ∷ [])
    ∷ false_of (0x1b000001 ∷ 0x11000001 ∷ 0x11000001 ∷ [])
    ∷ false_of (0x1b000001 ∷ 0x11000000 ∷ 0x11ffffff ∷ [])
    -- equal on the same sort, and on different sorts
    ∷ gives (0x12000001 ∷ []) (0x12000001 ∷ [])
    ∷ gives (0x13000001 ∷ []) (0x13000001 ∷ [])
    ∷ gives (0x10000001 ∷ []) (0x10000001 ∷ [])
    ∷ false_of (0x1b000002 ∷ 0x12000001 ∷ 0x13000001 ∷ [])
    ∷ false_of (0x1b000002 ∷ 0x10000001 ∷ 0x11000001 ∷ [])
    ∷ false_of (0x1b000002 ∷ 0x12000001 ∷ 0x12000002 ∷ [])
    -- two numbers of one sign are told apart: 1 and 2, -1 and -2; -1 is itself
    ∷ false_of (0x1b000002 ∷ 0x11000001 ∷ 0x11000002 ∷ [])
    ∷ false_of (0x1b000002 ∷ 0x11ffffff ∷ 0x11fffffe ∷ [])
    ∷ gives (0x11ffffff ∷ []) (0x11ffffff ∷ [])
    -- assign gives the value, and the cell has it afterwards; a read gives what a new cell was made with
    ∷ true_of (0x22000000 ∷ 0x20000000 ∷ 0x10000003 ∷ 0x10000002 ∷ [])
    ∷ true_of (0x17000000 ∷ 0x20000000 ∷ 0x10000003 ∷ 0x18000000 ∷ 0x22000000 ∷ 0x14000000 ∷ 0x10000002 ∷ 0x21000000 ∷ 0x14000000 ∷ [])
    ∷ true_of (0x21000000 ∷ 0x20000000 ∷ 0x10000002 ∷ [])
    -- a send gives unit, whether or not a block has the name
    ∷ gives (0x23000000 ∷ 0x13000000 ∷ 0x12000000 ∷ []) (0x10000001 ∷ [])
    ∷ gives (0x23000000 ∷ 0x13000005 ∷ 0x12000000 ∷ []) (0x10000001 ∷ [])
    -- a field that was set, and one that is missing; a field set twice has its last value
    ∷ true_of (0x1d000000 ∷ 0x1e000000 ∷ 0x1c000000 ∷ 0x12000000 ∷ 0x10000002 ∷ 0x12000000 ∷ [])
    ∷ gives (0x1d000000 ∷ 0x1c000000 ∷ 0x12000000 ∷ []) (0x10000000 ∷ [])
    ∷ true_of (0x1d000000 ∷ 0x1e000000 ∷ 0x1e000000 ∷ 0x1c000000 ∷ 0x12000000 ∷ 0x10000003 ∷ 0x12000000 ∷ 0x10000002 ∷ 0x12000000 ∷ [])
    ∷ gives (0x1d000000 ∷ 0x1f000000 ∷ 0x1e000000 ∷ 0x1c000000 ∷ 0x12000000 ∷ 0x10000002 ∷ 0x12000000 ∷ 0x12000000 ∷ []) (0x10000000 ∷ [])
    -- an exercise gives unit, and that of the empty set proceeds
    ∷ between (0x1b000002 ∷ 0x24000002 ∷ 0x10000001 ∷ []) (2 ∷ 2 ∷ 1 ∷ [])
    ∷ between (0x24000000 ∷ []) (2 ∷ 0 ∷ 1 ∷ [])
    ∷ []

-- The opponent's data: "constants, numbers, strings (literals or others), names, finite records of data".
unfoldable pub opposing : List Example
opposing =
    -- a number that no argument can be, and a negative one
    branched (atom (number (pos 100000000))) (0x1b000001 ∷ 0x117fffff ∷ 0x14000000 ∷ []) 1
    ∷ branched (atom (number (negsuc 100000000))) (0x1b000001 ∷ 0x14000000 ∷ 0x11800000 ∷ []) 1
    -- a literal, and a string that is none
    ∷ branched (atom (text 0)) (0x1b000002 ∷ 0x14000000 ∷ 0x12000000 ∷ []) 1
    ∷ branched (atom (text 99)) (0x1b000002 ∷ 0x14000000 ∷ 0x14000000 ∷ []) 1
    ∷ branched (atom (text 99)) (0x1b000002 ∷ 0x14000000 ∷ 0x12000016 ∷ []) 2
    -- two strings that are none, in the fields of a record, are told apart
    ∷ branched (fields (field 0 (atom (text 98)) (field 1 (atom (text 99)) empty)))
    (0x1b000002 ∷ 0x1d000000 ∷ 0x14000000 ∷ 0x12000000 ∷ 0x1d000000 ∷ 0x14000000 ∷ 0x12000001 ∷ []) 2
    -- each constant
    ∷ branched undefined (0x1b000002 ∷ 0x14000000 ∷ 0x10000000 ∷ []) 1
    ∷ branched unit (0x1b000002 ∷ 0x14000000 ∷ 0x10000001 ∷ []) 1
    ∷ branched (truth true) (0x14000000 ∷ []) 1
    ∷ branched (truth false) (0x14000000 ∷ []) 2
    -- a name that no block has: a send to it yields
    ∷ branched (atom (named 31)) (0x1b000002 ∷ 0x23000000 ∷ 0x14000000 ∷ 0x10000001 ∷ 0x10000001 ∷ []) 1
    -- a record of records, with a field that is no literal
    ∷ branched (fields (field 99 unit (field 0 (fields (field 1 (truth true) empty)) empty)))
    (0x1d000000 ∷ 0x1d000000 ∷ 0x14000000 ∷ 0x12000000 ∷ 0x12000001 ∷ []) 1
    -- what is no datum starts nothing: a function, a cell, a name over 31, by itself or in a record; nor does a start at a word that is no block's first
    ∷ turned 1 (function 4 closed)
    ∷ turned 1 (cell 0)
    ∷ turned 1 (atom (named 32))
    ∷ turned 1 (fields (field 0 unit (field 1 (cell 0) empty)))
    ∷ turned 1 (fields (field 0 (fields (field 0 (function 4 closed) empty)) empty))
    ∷ turned 2 unit
    ∷ turned 4 unit
    ∷ turned 99 unit
    ∷ []

-- Whole systems: sends, guards, messages, cells of their own.
unfoldable pub examples : List Example
examples =
    -- *direct* exercises 2. Steps of an absent and of a finished instance change nothing.
    example (alone 0 (0x24000002 ∷ [])) 0
    (starts 1 unit ∷ steps 1 none ∷ times 3 0)
    (2 ∷ []) 1
    -- an exercise beyond the instance's permissions stops it
    ∷ example (alone 0 (0x24000004 ∷ [])) 0
    (starts 1 unit ∷ times 3 0)
    [] 1
    -- *relay* exercises 2 through a send
    ∷ example (relays 2 0 []) 0
    (starts 1 unit ∷ times 4 0 ++ steps 0 (some 7) ∷ times 1 1)
    (2 ∷ []) 2
    -- a send to the name that the opponent's message gives; a cell is no datum, and starts nothing
    ∷ example
    (0x01000002 ∷ 0x02000000 ∷ 0x03000008 ∷ 0x04000000 ∷ 0x23000000 ∷ 0x14000000 ∷ 0x10000001
    ∷ 0x02000001 ∷ 0x03000002 ∷ 0x04000008 ∷ 0x24000002 ∷ []) 0
    (starts 1 (cell 0) ∷ starts 1 (atom (named 1)) ∷ times 4 0 ++ steps 0 (some 7) ∷ times 1 1)
    (2 ∷ []) 2
    -- *twins*: the required set 4 leaves the second twin, and to choose the first changes nothing
    ∷ example (relays 3 4 twin) 0
    (starts 1 unit ∷ times 4 0 ++ steps 0 (some 7) ∷ steps 0 (some 11) ∷ times 1 1)
    (4 ∷ []) 2
    -- where both twins may be started one send starts one of them
    ∷ example (relays 3 0 twin) 0
    (starts 1 unit ∷ times 4 0 ++ steps 0 (some 7) ∷ steps 0 (some 11) ∷ times 1 1 ++ times 1 2)
    (2 ∷ []) 2
    -- a field that is a function vanishes, and the send goes on: the receiver reads it as undefined
    ∷ carried (0x1e000000 ∷ 0x1c000000 ∷ 0x12000000 ∷ 0x15000000 ∷ 0x10000000 ∷ []) unit (0x1d000000 ∷ 0x14000000 ∷ 0x12000000 ∷ [])
    (1 ∷ 8 ∷ []) 2
    -- the field beside it stays
    ∷ carried (0x1e000000 ∷ 0x1e000000 ∷ 0x1c000000 ∷ 0x12000000 ∷ 0x15000000 ∷ 0x10000000 ∷ 0x12000001 ∷ 0x10000001 ∷ []) unit
    (0x1d000000 ∷ 0x14000000 ∷ 0x12000001 ∷ [])
    (2 ∷ 8 ∷ []) 2
    -- the same two records further in
    ∷ carried
    (0x1e000000 ∷ 0x1c000000 ∷ 0x12000000 ∷ 0x1e000000 ∷ 0x1c000000 ∷ 0x12000000 ∷ 0x1e000000 ∷ 0x1c000000 ∷ 0x12000000 ∷ 0x15000000
    ∷ 0x10000000 ∷ []) unit
    (0x1d000000 ∷ 0x1d000000 ∷ 0x1d000000 ∷ 0x14000000 ∷ 0x12000000 ∷ 0x12000000 ∷ 0x12000000 ∷ [])
    (1 ∷ 8 ∷ []) 2
    -- a message that then still holds a cell starts nothing: in a record, beside a function, or by itself; the send itself yields, and what
    -- follows it runs
    ∷ carried (0x1e000000 ∷ 0x1c000000 ∷ 0x12000000 ∷ 0x20000000 ∷ 0x10000000 ∷ []) unit (0x14000000 ∷ [])
    (8 ∷ []) 1
    ∷ carried (0x1e000000 ∷ 0x1e000000 ∷ 0x1c000000 ∷ 0x12000000 ∷ 0x15000000 ∷ 0x10000000 ∷ 0x12000001 ∷ 0x20000000 ∷ 0x10000000 ∷ [])
    unit (0x14000000 ∷ [])
    (8 ∷ []) 1
    ∷ carried (0x20000000 ∷ 0x10000000 ∷ []) unit (0x14000000 ∷ [])
    (8 ∷ []) 1
    -- a message that is itself a function starts nothing, and one that is itself undefined starts its receiver
    ∷ carried (0x15000000 ∷ 0x10000000 ∷ []) unit (0x14000000 ∷ [])
    (8 ∷ []) 1
    ∷ carried (0x10000000 ∷ []) unit (0x14000000 ∷ [])
    (1 ∷ 8 ∷ []) 2
    -- a key that is there twice in a record of the opponent's, which is passed on: the first one counts. Where it vanishes the later one does
    -- too, and where the later one alone is undefined nothing changes
    ∷ carried (0x14000000 ∷ []) (fields (field 0 undefined (field 0 unit empty))) (0x1d000000 ∷ 0x14000000 ∷ 0x12000000 ∷ [])
    (1 ∷ 8 ∷ []) 2
    ∷ carried (0x14000000 ∷ []) (fields (field 0 unit (field 0 undefined empty))) (0x1d000000 ∷ 0x14000000 ∷ 0x12000000 ∷ [])
    (2 ∷ 8 ∷ []) 2
    -- a start whose guard is not within ρ changes nothing
    ∷ example (alone 4 (0x24000002 ∷ [])) 0
    (starts 1 unit ∷ times 3 0)
    [] 0
    -- the same where it is
    ∷ example (alone 4 (0x24000002 ∷ [])) 4
    (starts 1 unit ∷ times 3 0)
    (2 ∷ []) 1
    -- Two instances make a cell each with false in it. The one whose message is true writes true to its own; then each exercises 1 if its
    -- cell has true, and 2 if not.
    ∷ example (alone 0
    (0x17000000 ∷ 0x20000000 ∷ 0x10000003 ∷ 0x18000000 ∷ 0x19000000 ∷ 0x14000001 ∷ 0x22000000 ∷ 0x14000000 ∷ 0x10000002 ∷ 0x10000001
    ∷ 0x19000000 ∷ 0x21000000 ∷ 0x14000000 ∷ 0x24000001 ∷ 0x24000002 ∷ [])) 0
    (starts 1 (truth true) ∷ starts 1 (truth false) ∷ times 6 0 ++ times 6 1 ++ times 30 0 ++ times 30 1)
    (2 ∷ 1 ∷ []) 2
    -- a record of the opponent's, read at literal 0: undefined, and so 1, where it has other fields; 2 where it has that one
    ∷ example (alone 0 (0x19000000 ∷ 0x1b000002 ∷ 0x1d000000 ∷ 0x14000000 ∷ 0x12000000 ∷ 0x10000000 ∷ 0x24000001 ∷ 0x24000002 ∷ [])) 0
    (starts 1 (fields (field 1 unit (field 99 unit empty))) ∷ starts 1 (fields (field 0 unit empty)) ∷ times 20 0 ++ times 20 1)
    (2 ∷ 1 ∷ []) 2
    -- a key that is there twice: the first one counts
    ∷ example (alone 0 (0x19000000 ∷ 0x1d000000 ∷ 0x14000000 ∷ 0x12000000 ∷ 0x24000001 ∷ 0x24000002 ∷ [])) 0
    (starts 1 (fields (field 0 (truth true) (field 0 (truth false) empty))) ∷ times 20 0)
    (1 ∷ []) 1
    -- two fields set and the first deleted again: it reads undefined, and the other one true
    ∷ example (alone 0
    (0x18000000
    ∷ 0x19000000 ∷ 0x1b000002 ∷ 0x1d000000 ∷ 0x1f000000 ∷ 0x1e000000 ∷ 0x1e000000 ∷ 0x1c000000 ∷ 0x12000000 ∷ 0x10000002 ∷ 0x12000001
    ∷ 0x10000002 ∷ 0x12000000 ∷ 0x12000000 ∷ 0x10000000 ∷ 0x24000001 ∷ 0x24000000
    ∷ 0x19000000 ∷ 0x1d000000 ∷ 0x1f000000 ∷ 0x1e000000 ∷ 0x1e000000 ∷ 0x1c000000 ∷ 0x12000000 ∷ 0x10000002 ∷ 0x12000001 ∷ 0x10000002
    ∷ 0x12000000 ∷ 0x12000001 ∷ 0x24000002 ∷ 0x24000000 ∷ [])) 0
    (starts 1 unit ∷ times 60 0)
    (2 ∷ 1 ∷ []) 1
    -- numbers are unbounded: 8388607 is less than its double; and -1 is less than 0
    ∷ example (alone 0
    (0x18000000 ∷ 0x19000000 ∷ 0x1b000001 ∷ 0x117fffff ∷ 0x1b000000 ∷ 0x117fffff ∷ 0x117fffff ∷ 0x24000001 ∷ 0x24000000
    ∷ 0x19000000 ∷ 0x1b000001 ∷ 0x11ffffff ∷ 0x11000000 ∷ 0x24000002 ∷ 0x24000000 ∷ [])) 0
    (starts 1 unit ∷ times 40 0)
    (2 ∷ 1 ∷ []) 1
    -- `equal` with a record stops, whatever the other side is; with different sorts it is false
    ∷ example (alone 0
    (0x18000000 ∷ 0x19000000 ∷ 0x1b000002 ∷ 0x13000001 ∷ 0x11000001 ∷ 0x24000000 ∷ 0x24000002
    ∷ 0x18000000 ∷ 0x1b000002 ∷ 0x1c000000 ∷ 0x11000001 ∷ 0x24000001 ∷ [])) 0
    (starts 1 unit ∷ times 40 0)
    (2 ∷ []) 1
    -- a while that ends once its body has written false to the cell that it reads
    ∷ example (alone 0
    (0x17000000 ∷ 0x20000000 ∷ 0x10000002 ∷ 0x18000000 ∷ 0x1a000000 ∷ 0x21000000 ∷ 0x14000000 ∷ 0x22000000 ∷ 0x14000000 ∷ 0x10000003
    ∷ 0x24000001 ∷ [])) 0
    (starts 1 unit ∷ times 40 0)
    (1 ∷ []) 1
    ∷ []

unfoldable pub every : List Example
unfolding stopping going opposing examples
every = stopping ++ going ++ opposing ++ examples

unfoldable pub outcome : World → List ℕ × ℕ
outcome (world is rs) = (rs, length is)

unfoldable pub reached : Example → List ℕ × ℕ
reached (example ws ρ events rs n) = outcome (run (code ws) ρ events)

unfoldable pub expected : Example → List ℕ × ℕ
expected (example ws ρ events rs n) = (rs, n)

-- ---- messages: a value, and what is sent of it

unfoldable pub messages : List (Value × Value)
messages =
    -- undefined and functions vanish, and nothing else does; a record may lose all its fields
    (fields (field 0 undefined (field 1 (function 4 closed) (field 2 unit (field 3 (cell 0) empty)))), fields (field 2 unit (field 3 (cell 0) empty)))
    ∷ (fields (field 0 undefined empty), fields empty)
    -- at every depth
    ∷ (
      fields (field 0 (fields (field 0 (fields (field 0 undefined (field 1 unit empty))) empty)) empty),
      fields (field 0 (fields (field 0 (fields (field 1 unit empty)) empty)) empty),
    )
    -- a key that is there twice
    ∷ (fields (field 0 undefined (field 0 unit (field 1 unit empty))), fields (field 1 unit empty))
    ∷ (fields (field 0 unit (field 0 undefined empty)), fields (field 0 unit empty))
    -- a message that is no record stays as it is
    ∷ (undefined, undefined)
    ∷ (function 4 closed, function 4 closed)
    ∷ []
