-- The report on a class (document 02, wish 14): a line for each system of the stream, then the totals, or the line of the fault that ends the stream.
use Rattle.std.specs.Prelude.{ℕ, zero, suc, Bool, true, false, List, [], ◌∷◌, ◌++◌, map, length, Ok, Err}
use Rattle.permset.specs.Sets.{width, member}
use Rattle.little_endian.specs.LittleEndian.{words_of}
use Rattle.fingerprint.specs.Fnv.{fnv1a}
use Rattle.table.specs.Code.{code}
use Rattle.calculus.specs.Layout.{estimate_words}
use Rattle.calculus.specs.Answer.{Answer, refused, verdict, standing_bound, work_words, answer}
use Rattle.text.specs.Text.{bytes, decimal, set, hex_word}
use Rattle.report.specs.Lines.{refusal_line}
use Rattle.class_report.specs.Outcome.{Outcome}
use Rattle.class_report.specs.Stream.{System, Ending, whole, broken, number, most_systems, cut}

-- ---- the outcome of a system

unfoldable pub outcome_of : Answer → Outcome
outcome_of (refused n at) = Err (record { number = n; place = at })
outcome_of (verdict v) = Ok (record { bits = v.leak })

-- the answer to the words of a system: its slices are never short, and no bound is asked about
unfoldable pub answer_on : List ℕ → (ρ : ℕ) → Answer
unfolding answer
answer_on ws ρ = answer ws ρ standing_bound (estimate_words (code ws)) (work_words (length ws))

unfoldable pub outcome : System → Outcome
unfolding outcome_of answer_on
outcome s = outcome_of (answer_on (words_of s.bytes) s.rho)

-- ---- the line of a system

unfoldable pub outcome_text : Outcome → List ℕ
outcome_text (Ok s) = (bytes "leak " ++ set s.bits) ++ bytes "\n"
outcome_text (Err r) = refusal_line r.number r.place

-- position, fingerprint, outcome
unfoldable pub line : (position fingerprint : ℕ) → Outcome → List ℕ
unfolding outcome_text
line position fingerprint o = decimal position ++ (bytes " " ++ hex_word fingerprint) ++ bytes " " ++ outcome_text o

-- the lines of systems, the first at this position
unfoldable pub lines : (position : ℕ) → List System → List ℕ
unfolding line outcome
lines position [] = []
lines position (s ∷ ss) = line position (fnv1a s.bytes) (outcome s) ++ lines (suc position) ss

-- ---- the totals

unfoldable pub is_accepted : Outcome → Bool
is_accepted (Ok s) = true
is_accepted (Err r) = false

unfoldable pub is_refused : Outcome → Bool
is_refused (Ok s) = false
is_refused (Err r) = true

unfoldable pub leaks_it : (permission : ℕ) → Outcome → Bool
leaks_it i (Ok s) = member s.bits i
leaks_it i (Err r) = false

-- how many pass a test
unfoldable pub how_many : (Outcome → Bool) → List Outcome → ℕ
how_many q [] = 0
how_many q (o ∷ os) = elim (q o) [ true ↦ suc (how_many q os) | false ↦ how_many q os ]

unfoldable pub permission_line : (permission leaks of : ℕ) → List ℕ
permission_line i leaks of =
    (bytes "permission " ++ decimal i) ++ (bytes " leaks " ++ decimal leaks) ++ (bytes " of " ++ decimal of) ++ bytes "\n"

-- the lines of so many permissions from i on
unfoldable pub permission_lines : (count i of : ℕ) → (ℕ → ℕ) → List ℕ
unfolding permission_line
permission_lines zero i of leaks = []
permission_lines (suc n) i of leaks = permission_line i (leaks i) of ++ permission_lines n (suc i) of leaks

unfoldable pub count_line : (accepted refused : ℕ) → List ℕ
count_line n m = (bytes "accepted " ++ decimal n) ++ (bytes " refused " ++ decimal m) ++ bytes "\n"

unfoldable pub totals : (accepted refused : ℕ) → (ℕ → ℕ) → List ℕ
unfolding count_line permission_lines
totals n m leaks = count_line n m ++ permission_lines width 0 n leaks

unfoldable pub totals_of : List Outcome → List ℕ
unfolding totals how_many is_accepted is_refused leaks_it
totals_of os = totals (how_many is_accepted os) (how_many is_refused os) (λ i. how_many (leaks_it i) os)

-- ---- the report

-- what follows the lines of these systems
unfoldable pub conclusion : List System → Ending → List ℕ
unfolding totals_of outcome
conclusion ss whole = totals_of (map outcome ss)
conclusion ss (broken f) = refusal_line (number f) (length ss)

unfoldable pub report : List ℕ → List ℕ
unfolding cut lines conclusion
report stream = lines 0 (cut most_systems stream).systems ++ conclusion (cut most_systems stream).systems (cut most_systems stream).ending
