-- Stray bits (document 02, wish 12): which digits of an estimate may be set, and the first word of a slice with one that may not.
use Rattle.std.specs.Prelude.{ℕ, suc, ◌+◌, ◌-◌, ◌*◌, ◌/◌, ◌%◌, Bool, true, false, not, ◌&&◌, ◌||◌, List, [], ◌∷◌, eqb, leb, ltb}
use Rattle.permset.specs.Sets.{member}
use Rattle.table.specs.Code.{Code}
use Rattle.calculus.specs.Elements.{plain, is_function, is_record, is_cell, makes}
use Rattle.calculus.specs.Rules.{is_block}
use Rattle.calculus.specs.Layout.{row_words, used}
use Rattle.calculus.specs.Estimate.{any_from}
use Rattle.stray.specs.declared.Holding.{Holding}
use Rattle.stray.specs.declared.Holding.TheVariants as holdings

module _ (c : Code) where
  -- 64+i may stand in a row: word i makes a function, a record or a cell; or it is the first word of a block
  unfoldable pub names : Holding → ℕ → Bool
  names holdings.Things i = is_function (makes (c.node i)) || (is_record (makes (c.node i)) || is_cell (makes (c.node i)))
  names holdings.Blocks i = is_block (c.node i)

  -- of rows by their numbers, 2i for C(i) and 2i+1 for B(i): C(b) of a block's first word b
  unfoldable pub of_block : ℕ → Bool
  of_block r = eqb (r % 2) 0 && is_block (c.node (r / 2))

  -- that one holds blocks, the others hold things
  unfoldable pub holding : ℕ → Holding
  holding r = elim (of_block r) [ true ↦ holdings.Blocks | false ↦ holdings.Things ]

  -- element v may stand in a row: "all 64", or what the row may hold besides
  unfoldable pub holds : Holding → ℕ → Bool
  holds h v = ltb v (plain c) || names h (v - plain c)

  -- the digits of the rows C and B
  abbrev pub row_digits : ℕ
  row_digits = 32 * (2 * c.size * row_words c)

  -- digit n may be set: it is that of an element of a row ("other bits are zero"), and in a row C or B the element may stand there
  unfoldable pub proper : ℕ → Bool
  proper n = used c n && (leb row_digits n || holds (holding (n / (32 * row_words c))) (n % (32 * row_words c)))

  -- the word w, where it stands at the place k of the slice, has a digit that may not be set
  unfoldable pub stray : (k w : ℕ) → Bool
  stray k w = any_from 32 0 (λ d. member w d && not (proper (32 * k + d)))

  -- the place of the first such word, the first of these being at k; the place after the last where there is none
  unfoldable pub stray_from : ℕ → List ℕ → ℕ
  stray_from k [] = k
  stray_from k (w ∷ ws) = elim (stray k w) [ true ↦ k | false ↦ stray_from (suc k) ws ]

  unfoldable pub first_stray : List ℕ → ℕ
  unfolding stray_from
  first_stray ws = stray_from 0 ws
