-- What the reading of two listings says.
use Rattle.std.specs.Prelude.{ℕ, ◌≤◌, ◌≡◌, List, take, Result, MatchResult}
use Rattle.listing.specs.Listing.{words_of}
use Rattle.overlay.specs.Lookup.{Place}
use Rattle.text.specs.Writing.{Wrote}
use Rattle.report.specs.Lines.{refusal_line}
use Rattle.commands.specs.declared.overlays.PairRefusal.{PairRefusal}
use Rattle.commands.specs.Printed.{pair_text, place_text}

-- both listings are read, into 1,024 words each
pub record Both (first second under over : List ℕ) (m n : ℕ) : Type 0 where
  pub text : (t : List ℕ) → pair_text first second t ≡ t
  pub base : take m under ≡ words_of first
  pub overlay : take n over ≡ words_of second
  pub few : m ≤ 1024
  pub fit : n ≤ 1024

abbrev pub PairAs : (first second under over : List ℕ) → Result (ℕ × ℕ) PairRefusal → Type 0
PairAs first second under over r =
    MatchResult r (λ n. Both first second under over n.0 n.1) (λ e. (t : List ℕ) → pair_text first second t ≡ refusal_line e.number e.place)

-- the lines of a block are written, where it stands
abbrev pub PlacedAs : (first second : List ℕ) → Place → (before after : List ℕ) (next : ℕ) → Type 0
PlacedAs first second place before after next = Wrote before 0 (place_text first second place) after next
