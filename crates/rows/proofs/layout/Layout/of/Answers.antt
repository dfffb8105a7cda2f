-- `rows::layout::Layout::of` meets its contract: the plain elements of a table fill whole words, two or three.
-- Assumes nothing.
use mathlib.Core.Path.{◌≡◌, refl}
use mathlib.Core.Logic.{⊎_elim}
use mathlib.Core.List.{List}
use Prim.Native.Nat.{ℕ, ◌+◌, ◌*◌, ◌/◌}
use native.Mathlib.Omega.{arith}
use lib.ListN.{length, get_or}
use Rattle.table.specs.Words.{names_of}
use Rattle.table.specs.Code.{code}
use Rattle.table.proofs.Widths.{either-width}
use Rattle.calculus.specs.Layout.{row_words}
use Rattle.rows.specs.declared.layout.Layout.{Layout}
use Rattle.rows.specs.Laid.{LaidOut}
use Rattle.rows.proofs.layout.Layout.of.Goals as goal

whole_words_lem : (w n : ℕ) → n ≡ names_of w → 32 + names_of w ≡ 32 * (1 + n / 32)
whole_words_lem w n e = ⊎_elim (λ h. omega arith) (λ h. omega arith) (either-width w)

laid : (ws : List ℕ) (l : Layout) (n : ℕ) → n ≡ names_of (get_or ws 0 0) → l.size ≡ length ws → l.lead ≡ 1 + n / 32
    → l.row ≡ (32 * l.lead + l.size + 31) / 32 → LaidOut (code ws) l
unfolding code row_words
laid ws l n e s d r =
    let h = whole_words_lem (get_or ws 0 0) n e in
    record { size = omega arith; row = omega arith; lead = omega arith }

pub returns : goal.returns
returns c = laid c.args.words.now _ _ c.names_in.ensures refl refl refl
