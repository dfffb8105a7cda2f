-- The converters between narrow and wide tables: the same words with word 0 of the other kind (document 02, wish 13).
use Rattle.std.specs.Prelude.{ℕ, suc, Bool, true, false, ◌&&◌, ◌||◌, List, [], ◌∷◌, ◌++◌, eqb, leb, ltb, length, get_or, drop}
use Rattle.table.specs.Words.{kind, argument, word_of, narrow}
use Rattle.table.specs.Scan.{Outcome, accepted, refused, reading}
use Rattle.table.specs.Code.{Code}

-- the words with word 0 of a kind
unfoldable pub rekinded : (kind : ℕ) → List ℕ → List ℕ
rekinded k [] = []
rekinded k (w ∷ ws) = word_of k (argument w) ∷ ws

abbrev pub widened : List ℕ → List ℕ
widened = rekinded 5

abbrev pub narrowed : List ℕ → List ℕ
narrowed = rekinded 1

-- made wide, or narrow
abbrev pub kind_for : (wide : Bool) → ℕ
kind_for true = 5
kind_for false = 1

abbrev pub converted : (wide : Bool) → List ℕ → List ℕ
converted wide = rekinded (kind_for wide)

-- the code of words with another number of names
abbrev pub with_names : ℕ → Code → Code
with_names n c =
    record {
      size = c.size;
      names = n;
      blocks = c.blocks;
      node = c.node;
      scope = c.scope;
      home = c.home;
    }

-- ---- the refusals

-- a table whose word 0 has the kind: 1 for the other kind, then the table's numbers
unfoldable pub read_as : (kind : ℕ) → List ℕ → Outcome
read_as k ws = elim (eqb (kind (get_or ws 0 0)) k) [ true ↦ reading ws | false ↦ refused 1 0 ]

-- a word with a name that no narrow table has
unfoldable pub wide_name : ℕ → Bool
wide_name w = leb narrow (argument w) && (eqb (kind w) 2 || eqb (kind w) 19)

-- 56 at the first word with such a name, of the words from the place `at` on
unfoldable pub names_fit : List ℕ → (at : ℕ) → Outcome
names_fit [] at = accepted
names_fit (w ∷ ws) at = elim (wide_name w) [ true ↦ refused 56 at | false ↦ names_fit ws (suc at) ]

-- 55 for too many handlers, then 56
unfoldable pub fits_narrow : List ℕ → Outcome
fits_narrow ws = elim (ltb narrow (argument (get_or ws 0 0))) [ true ↦ refused 55 0 | false ↦ names_fit ws 0 ]

-- a wide table that can be made narrow
unfoldable pub narrowable : List ℕ → Outcome
narrowable ws = elim (read_as 5 ws) [ refused n p ↦ refused n p | accepted ↦ fits_narrow ws ]

-- a table that can be made wide, or narrow
unfoldable pub convertible : (wide : Bool) → List ℕ → Outcome
unfolding narrowable
convertible true ws = read_as 1 ws
convertible false ws = narrowable ws

-- ---- the answer, and the output slice afterwards

-- how many words were written, or the refusal
pub data Answer : Type 0 where
  written : (words : ℕ) → Answer
  refusal : (number place : ℕ) → Answer

-- 57 last, where so many words have no room
unfoldable pub answer : Outcome → (words room : ℕ) → Answer
answer (refused n p) words room = refusal n p
answer accepted words room = elim (ltb room words) [ true ↦ refusal 57 0 | false ↦ written words ]

unfoldable pub convert_answer : (wide : Bool) → List ℕ → (room : ℕ) → Answer
convert_answer wide ws room = answer (convertible wide ws) (length ws) room

unfoldable pub out_after : Answer → (words out : List ℕ) → List ℕ
out_after (written n) ws out = ws ++ drop n out
out_after (refusal n p) ws out = out

unfoldable pub convert_out : (wide : Bool) (words out : List ℕ) → List ℕ
convert_out wide ws out = out_after (convert_answer wide ws (length out)) (converted wide ws) out
