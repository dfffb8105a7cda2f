-- What the program prints for the bytes of its standard input (document 01, "Refused" and "Parts and program").
use Rattle.std.specs.Prelude.{ℕ, zero, suc, ◌%◌, Bool, true, false, not, List, [], ◌∷◌, ◌++◌, eqb, ltb, length, get_or, drop}
use Rattle.little_endian.specs.LittleEndian.{words_of}
use Rattle.table.specs.Words.{kind}
use Rattle.table.specs.Scan.{first_of}
use Rattle.table.specs.Code.{Code, code}
use Rattle.calculus.specs.Constraint.{L}
use Rattle.calculus.specs.Rules.{name_of, guarded}
use Rattle.calculus.specs.Layout.{sets, estimate_words}
use Rattle.calculus.specs.Estimate.{whole, estimate, permissions_at}
use Rattle.calculus.specs.Answer.{Answer, refused, verdict, answer, work_words}
use Rattle.report.specs.Lines.{refusal_line, verdict_line, handler_line}

-- what the feeder may get wrong, in order: more than 1,032 bytes, under 8, no whole words
unfoldable pub feeder_tests : ℕ → List (Bool × ℕ)
feeder_tests size = (ltb 1032 size, 31) ∷ (ltb size 8, 30) ∷ (not (eqb (size % 4) 0), 30) ∷ []

-- a line for each of the blocks bs, the first at this position
unfoldable pub handler_lines : Code → (ρ : ℕ) (estimate : List ℕ) (position : ℕ) → List ℕ → List ℕ
unfolding sets permissions_at
handler_lines c ρ ws position [] = []
handler_lines c ρ ws position (b ∷ bs) =
    handler_line position (name_of (c.node b)) (guarded (c.node b) ρ) (sets c ws (L b) 0) (permissions_at c ρ ws b)
    ++ handler_lines c ρ ws (suc position) bs

-- the first line of an answer
unfoldable pub first_line : Answer → List ℕ
first_line (refused number place) = refusal_line number place
first_line (verdict v) = verdict_line v

unfoldable pub answer_text : (ρ : ℕ) → List ℕ → Answer → List ℕ
unfolding estimate whole handler_lines
answer_text ρ ws (refused number place) = refusal_line number place
answer_text ρ ws (verdict v) = verdict_line v ++ whole (estimate (code ws) ρ) (λ est. handler_lines (code ws) ρ est 0 (code ws).blocks)

-- the program takes narrow tables only: one thing for a wide table, another for any other words
unfoldable pub unless_wide : {A : Type 0} → List ℕ → (wide other : A) → A
unless_wide ws wide other = elim (eqb (kind (get_or ws 0 0)) 5) [ true ↦ wide | false ↦ other ]

-- a system's text: its slices are never short
unfoldable pub system_text : (ρ bound : ℕ) → List ℕ → List ℕ
unfolding answer answer_text unless_wide
system_text ρ bound ws = answer_text ρ ws (unless_wide ws (refused 1 0) (answer ws ρ bound (estimate_words (code ws)) (work_words (length ws))))

-- the words are ρ, the bound and the system
unfoldable pub printed : List ℕ → List ℕ
unfolding feeder_tests system_text
printed input =
    elim (first_of (feeder_tests (length input))) [
      | zero ↦ system_text (get_or (words_of input) 0 0) (get_or (words_of input) 1 0) (drop 2 (words_of input))
      | suc n ↦ refusal_line (suc n) 0
    ]

-- ---- lent bytes

-- room for the text of every system: 33 lines of at most 96 bytes
abbrev pub room : ℕ
room = 3168

-- what a call on a slice of so many bytes leaves: nothing changes where it has less room
unfoldable pub with_room : {A : Type 0} → (size : ℕ) (before after : A) → A
with_room size before after = elim (ltb size room) [ true ↦ before | false ↦ after ]

-- the text at the start of the slice, and the rest untouched
unfoldable pub text_after : List ℕ → List ℕ → List ℕ
unfolding with_room
text_after text out = with_room (length out) out (text ++ drop (length text) out)

-- how many bytes are written
unfoldable pub text_size : List ℕ → (size : ℕ) → ℕ
unfolding with_room
text_size text size = with_room size 0 (length text)
