-- Rows of the digits that may be set, and what a test of the words of a slice against them says.
use Rattle.std.specs.Prelude.{ℕ, ◌-◌, ◌*◌, ◌<◌, ◌≤◌, ◌≡◌, Bool, not, ◌&&◌, List, eqb, ltb, length, get_or}
use Rattle.permset.specs.Sets.{within}
use Rattle.table.specs.Words.{kind}
use Rattle.table.specs.Scan.{accepted, reading}
use Rattle.table.specs.Code.{Code, code}
use Rattle.calculus.specs.Elements.{elements}
use Rattle.calculus.specs.Layout.{bit, estimate_words, Words}
use Rattle.masks.specs.Masks.{word_makes}
use Rattle.rows.specs.declared.layout.Layout.{Layout}
use Rattle.rows.specs.Laid.{LaidOut}
use Rattle.stray.specs.declared.Holding.{Holding}
use Rattle.stray.specs.declared.Holding.TheVariants as holdings
use Rattle.stray.specs.Stray.{holds, stray}

-- whether 64+i may stand in a row, by the word i
unfoldable pub word_named : Holding → ℕ → Bool
word_named holdings.Things w = not (eqb (word_makes w) 0)
word_named holdings.Blocks w = eqb (kind w) 2

-- the digits of m are the elements below n that may stand in a row
pub record Allowed (c : Code) (h : Holding) (n : ℕ) (m : List ℕ) : Type 0 where
  pub words : Words m
  pub digits : (v : ℕ) → v < 32 * length m → bit m v ≡ (ltb v n && holds c h v)

-- all digits of the first n words, and no others
pub record Leading (n : ℕ) (m : List ℕ) : Type 0 where
  pub full : (k : ℕ) → k < n → get_or m k 0 ≡ 4294967295
  pub rest : (k : ℕ) → n ≤ k → get_or m k 0 ≡ 0

-- word k of the slice has no digit outside the row that begins at `at`
abbrev pub inside : (est row : List ℕ) → (at k : ℕ) → Bool
inside est row at k = within (get_or est k 0) (get_or row (k - at) 0)

-- word k of the slice has no stray digit
abbrev pub clean : Code → List ℕ → ℕ → Bool
clean c est k = not (stray c k (get_or est k 0))

-- an accepted table, its layout, and as many words as an estimate has
pub record Slice (ws est : List ℕ) (l : Layout) : Type 0 where
  pub readable : reading ws ≡ accepted
  pub laid : LaidOut (code ws) l
  pub long : length est ≡ estimate_words (code ws)

-- the rows of what may stand in rows that hold things and blocks, each long enough
pub record Rows (c : Code) (l : Layout) (ts bs : List ℕ) : Type 0 where
  pub things : Allowed c holdings.Things (elements c) ts
  pub blocks : Allowed c holdings.Blocks (elements c) bs
  pub long : l.row ≤ length ts
  pub wide : l.row ≤ length bs
