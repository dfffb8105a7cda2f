-- What `leak RHO BOUND CEILING` prints of a listing (document 02, wishes 1 and 7): the lines of document 01's program, or the refusal.
use Rattle.std.specs.Prelude.{ℕ, ◌-◌, ◌^◌, List, [], ◌∷◌, length}
use Rattle.table.specs.Code.{code}
use Rattle.calculus.specs.Layout.{estimate_words}
use Rattle.calculus.specs.Answer.{refused, work_words}
use Rattle.verdict.specs.Limits.{answer_under}
use Rattle.printout.specs.Program.{answer_text, unless_wide}
use Rattle.listing.specs.Listing.{words_of, read_as}
use Rattle.std.specs.Prelude.{Option, Some, None}
use Rattle.commands.specs.Arguments.{value_of}
use Rattle.commands.specs.Meanings.{help}
use Rattle.commands.specs.Printed as printed

-- a system's text under the ceiling n: its slices are never short
unfoldable pub system_leak : (ρ bound n : ℕ) → List ℕ → List ℕ
unfolding answer_text unless_wide
system_leak ρ bound n ws =
    answer_text ρ ws (unless_wide ws (refused 1 0) (answer_under ws ρ bound n (estimate_words (code ws)) (work_words (length ws))))

-- a listing's, or its refusal
unfoldable pub listing_leak : (ρ bound n : ℕ) (input : List ℕ) → List ℕ
unfolding system_leak printed.answer_text
listing_leak ρ bound n input = printed.answer_text (read_as input 1024) (system_leak ρ bound n (words_of input))

-- a number in a base, which may be left out
unfoldable pub value_or : (base default : ℕ) → List ℕ → Option ℕ
value_or base default [] = Some default
value_or base default (b ∷ bs) = value_of base (b ∷ bs)

-- a ceiling that refuses nothing
abbrev pub unlimited : ℕ
unlimited = 2 ^ 32 - 1

-- the text for a number, or the help
unfoldable pub given : Option ℕ → (ℕ → List ℕ) → List ℕ
given (Some n) text = text n
given None text = help

unfoldable pub values_text : (rho bound ceiling : Option ℕ) (input : List ℕ) → List ℕ
unfolding given listing_leak
values_text rho bound ceiling input = given rho (λ ρ. given bound (λ b. given ceiling (λ n. listing_leak ρ b n input)))

-- the bound is the empty set where it is left out, and the ceiling none
abbrev pub leak_text : (rho bound ceiling input : List ℕ) → List ℕ
leak_text rho bound ceiling input = values_text (value_of 16 rho) (value_or 16 0 bound) (value_or 10 unlimited ceiling) input
