-- What a step of the reading leaves to be read: the outcome of the whole, in terms of where the step ended.
use Rattle.std.specs.Prelude.{◌≡◌, ℕ, zero, suc, ◌<◌, Result, Ok, Err, List, ◌∷◌, length, get_or, drop}
use Rattle.table.specs.declared.Refusal.{Refusal}
use Rattle.table.specs.declared.Refusal.TheVariants.{NotBlock}
use Rattle.table.specs.Words.{kind, argument}
use Rattle.table.specs.Scan.{Task, Outcome, accepted, refused, scan}
use Rattle.table.specs.Answer.{number, place}

-- what the fault of a word says
unfoldable pub judged : ℕ → ℕ → Outcome
judged zero at = accepted
judged (suc n) at = refused (suc n) at

-- the word at which a step ended, or why it refused
unfoldable pub after_step : Result ℕ Refusal → ℕ → List ℕ → List ℕ → List Task → Outcome
after_step (Ok p) names ws keys ts = scan names (drop p ws) keys p ts
after_step (Err r) names ws keys ts = refused (number r) (place r)

-- the argument of a word of a kind at a place, or that no such word is there
abbrev pub FoundAt : List ℕ → ℕ → ℕ → Result ℕ Refusal → Type 0
FoundAt ws at k (Ok a) = (at < length ws) × (kind (get_or ws at 0) ≡ k) × (a ≡ argument (get_or ws at 0))
FoundAt ws at k (Err r) = (r ≡ NotBlock at) × (at < length ws → kind (get_or ws at 0) ≡ k → ⊥)

-- the word at which a block ended, with its key
unfoldable pub after_block : Result (ℕ × ℕ) Refusal → ℕ → List ℕ → List ℕ → List Task → Outcome
after_block (Ok x) names ws keys ts = scan names (drop x.0 ws) (x.1 ∷ keys) x.0 ts
after_block (Err r) names ws keys ts = refused (number r) (place r)
