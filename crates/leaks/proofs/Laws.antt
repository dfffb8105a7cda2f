-- Laws of the text of `leak`: a system's under a ceiling, and a listing's.
use Prim.Native.Nat.{ℕ, ◌≤◌}
use mathlib.Core.Path.{◌≡◌, sym, ap}
use mathlib.Core.List.{List}
use lib.ListN.{length}
use Rattle.calculus.specs.Answer.{Answer, refused}
use Rattle.verdict.specs.Limits.{answer_under}
use Rattle.verdict.proofs.Room.{answer-largest}
use Rattle.solver.specs.Ceiling.{under}
use Rattle.listing.specs.Listing.{Answered, done, refusal, words_of, read_as}
use Rattle.report.specs.Lines.{refusal_line}
use Rattle.printout.specs.Program.{answer_text, unless_wide}
use Rattle.commands.specs.Printed as printed
use Rattle.leaks.specs.Leak.{system_leak, listing_leak}

pub leak-largest : (ws : List ℕ) (ρ bound n : ℕ) → length ws ≤ 1024
    → answer_text ρ ws (unless_wide ws (refused 1 0) (answer_under ws ρ bound n 72704 4096)) ≡ system_leak ρ bound n ws
unfolding system_leak
leak-largest ws ρ bound n h = ap (λ (a : Answer). answer_text ρ ws (unless_wide ws (refused 1 0) (under n a))) (answer-largest ws ρ bound h)

module _ (ρ bound n : ℕ) (input : List ℕ) where
  pub leak-listed : (k : ℕ) → read_as input 1024 ≡ done k → system_leak ρ bound n (words_of input) ≡ listing_leak ρ bound n input
  unfolding listing_leak printed.answer_text
  leak-listed k e = sym (ap (λ (a : Answered). printed.answer_text a (system_leak ρ bound n (words_of input))) e)

  pub leak-refused : (k p : ℕ) → read_as input 1024 ≡ refusal k p → refusal_line k p ≡ listing_leak ρ bound n input
  unfolding listing_leak printed.answer_text
  leak-refused k p e = sym (ap (λ (a : Answered). printed.answer_text a (system_leak ρ bound n (words_of input))) e)
