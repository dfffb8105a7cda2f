-- `table::read::read` meets its contract: the tests of word 0 in their order, then the blocks.
-- Assumes nothing.
use mathlib.Core.Path.{◌≡◌, sym, ap, ap₂, ◌∙◌}
use mathlib.Core.Bool.{Bool, true, false, not, ◌||◌}
use lib.Dec.{eqb}
use mathlib.Core.List.{List, [], append-nil}
use Prim.Native.Nat.{ℕ, ◌<◌, ◌≤◌}
use native.Mathlib.Omega.{arith}
use lib.ListN.{length, get_or, drop, replicate}
use borrow.Author.Tests.{eqb-true, eqb-false, lt-ltb, le-ltb}
use Rattle.table.specs.Words.{kind, argument, size}
use Rattle.table.specs.Scan.{Task, head, name, refused, tests, fault, missing, keep, next, scan, names_at, reading}
use Rattle.table.specs.Answer.{number, place, outcome}
use Rattle.table.proofs.Widths.{names-most}
use Rattle.table.proofs.read.Steps.{hit, miss, none, none_left, goes_on}
use Rattle.table.proofs.read.BlockWords.{refuses}
use Rattle.table.proofs.read.read.Goals as goal

-- the reading, by the tests of word 0 that do not hold and the one that does
module _ (ws : List ℕ) where
  no_words : length ws ≡ 0 → reading ws ≡ refused 1 0
  unfolding reading missing
  no_words e = none_left (names_at ws) ws [] 0 (head (length ws)) [] (omega arith)

  module _ (some : 0 < length ws) where
    no_table : (eqb (kind (get_or ws 0 0)) 1 || eqb (kind (get_or ws 0 0)) 5) ≡ false → reading ws ≡ refused 1 0
    unfolding reading fault tests
    no_table k = refuses (names_at ws) ws [] 0 (head (length ws)) [] 0 some (hit _ 1 _ (ap not k))

    module _ (k : (eqb (kind (get_or ws 0 0)) 1 || eqb (kind (get_or ws 0 0)) 5) ≡ true) where
      too_long : size < length ws → reading ws ≡ refused 2 0
      unfolding reading fault tests
      too_long l =
          refuses (names_at ws) ws [] 0 (head (length ws)) [] 1 some (miss _ 1 _ (ap not k) ∙ hit _ 2 _ (lt-ltb size (length ws) l))

      module _ (l : length ws ≤ size) where
        too_many : names_at ws < argument (get_or ws 0 0) → reading ws ≡ refused 3 0
        unfolding reading fault tests
        too_many h =
            refuses (names_at ws) ws [] 0 (head (length ws)) [] 2 some
            (miss _ 1 _ (ap not k) ∙ miss _ 2 _ (le-ltb size (length ws) l) ∙ hit _ 3 _ (lt-ltb (names_at ws) _ h))

        the-blocks : argument (get_or ws 0 0) ≤ names_at ws → reading ws ≡ scan (names_at ws) (drop 1 ws) [] 1 (replicate (argument (get_or ws 0 0)) name)
        unfolding reading fault tests keep next
        the-blocks h =
            goes_on (names_at ws) ws [] 0 (head (length ws)) [] some
            (miss _ 1 _ (ap not k) ∙ miss _ 2 _ (le-ltb size (length ws) l) ∙ miss _ 3 _ (le-ltb (names_at ws) _ h) ∙ none)
            ∙ ap (λ (ts : List Task). scan (names_at ws) (drop 1 ws) [] 1 ts) (append-nil (replicate (argument (get_or ws 0 0)) name))

-- the test of the kind of word 0
told : (w : ℕ) {k : ℕ} {r : Bool} → r ≡ (eqb k 1 || eqb k 5) → k ≡ kind w → (eqb (kind w) 1 || eqb (kind w) 5) ≡ r
told w f e = sym (f ∙ ap (λ (k : ℕ). eqb k 1 || eqb k 5) e)

pub returns-then-is_empty : goal.returns-then-is_empty
unfolding outcome number place
returns-then-is_empty c = sym (no_words _ (eqb-true _ 0 (sym c.if-is_empty.ensures)))

-- a slice that is not empty has a word
some_words : (ws : List ℕ) → false ≡ eqb (length ws) 0 → 0 < length ws
some_words ws e = let n : length ws ≡ 0 → ⊥ = eqb-false (length ws) 0 (sym e) in omega arith

pub returns-then-not-starts_table : goal.returns-then-not-starts_table
unfolding outcome number place
returns-then-not-starts_table c = sym (no_table _ (some_words _ c.if-is_empty.ensures) (told (get_or c.args.words.now 0 0) c.starts_table.ensures c.kind_of.ensures ∙ c.if-not-starts_table.true))

pub returns-then-words-gt1024 : goal.returns-then-words-gt1024
unfolding outcome number place
returns-then-words-gt1024 c = sym (too_long _ (some_words _ c.if-is_empty.ensures) (told (get_or c.args.words.now 0 0) c.starts_table.ensures c.kind_of.ensures ∙ c.if-not-starts_table.false) (omega arith))

pub returns-then-names-count : goal.returns-then-names-count
unfolding outcome number place
returns-then-names-count c =
    sym (too_many _ (some_words _ c.if-is_empty.ensures) (told (get_or c.args.words.now 0 0) c.starts_table.ensures c.kind_of.ensures ∙ c.if-not-starts_table.false)
    (omega arith) (omega (arith, c.names_of-names.ensures, c.argument_of-count.ensures, c.if-names-count.true)))

pub blocks-requires : goal.blocks-requires
blocks-requires c =
    let n = names-most (get_or c.args.words.now 0 0) in
    (omega (arith, n, c.names_of-names.ensures, c.if-names-count.false), omega (arith, n, c.names_of-names.ensures))

pub returns : goal.returns
returns c =
    let ws = c.args.words.now in
    let n = c.names_of-names.ensures in
    let a = c.argument_of-count.ensures in
    c.blocks-2.ensures
    ∙ ap₂ (λ (k m : ℕ). scan k (drop 1 ws) [] 1 (replicate m name)) n a
    ∙ sym (the-blocks ws (some_words _ c.if-is_empty.ensures) (told (get_or c.args.words.now 0 0) c.starts_table.ensures c.kind_of.ensures ∙ c.if-not-starts_table.false)
    (omega arith) (omega (arith, n, a, c.if-names-count.false)))
