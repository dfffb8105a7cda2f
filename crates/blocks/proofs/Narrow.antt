-- The blocks of a narrow table, where a wide one is none: the laws of Tables.antt for 32 names and word 0 of kind 1.
use mathlib.Core.Path.{◌≡◌, refl, sym, ap, ◌∙◌, subst}
use mathlib.Core.Bool.{false}
use mathlib.Core.Logic.{inl, ⊎_elim}
use mathlib.Core.List.{List, map}
use Prim.Native.Nat.{ℕ, ◌≤◌, ◌<◌}
use native.Mathlib.Omega.{arith}
use borrow.Author.Tests.{ne_eqb}
use lib.Dec.{eqb}
use lib.ListN.{length, get_or, drop}
use Rattle.table.specs.Words.{kind, argument, word_of, narrow, names_of, size}
use Rattle.table.specs.Scan.{accepted, reading, narrow_reading}
use Rattle.table.proofs.TermWords.{kind-word_of}
use Rattle.table.proofs.Widths.{narrow-accepted, narrow-kind, narrow-read, narrow-names}
use Rattle.blocks.specs.Blocks.{blocks, table_of, key_of, Good, All, Distinct}
use Rattle.blocks.proofs.Tables.{Cuts}
use Rattle.blocks.proofs.Tables as tables

module _ (ws : List ℕ) (e : narrow_reading ws ≡ accepted) where
  pub readable : reading ws ≡ accepted
  readable = (narrow-accepted ws e).0

  pub names-are : names_of (get_or ws 0 0) ≡ narrow
  names-are = (narrow-accepted ws e).1

  headed : kind (get_or ws 0 0) ≡ 1
  headed =
      ⊎_elim (λ h. h) (λ h. absurd (narrow-kind ws e h)) (tables.table ws readable).headed

  pub record Table : Type 0 where
    pub inside : 0 < length ws
    pub few : argument (get_or ws 0 0) ≤ narrow
    pub short : length ws ≤ size
    pub cuts : Cuts narrow (argument (get_or ws 0 0)) (drop 1 ws)

  pub table : Table
  table =
      let t = tables.table ws readable in
      record {
        inside = t.inside;
        few = subst (λ (n : ℕ). argument (get_or ws 0 0) ≤ n) names-are t.few;
        short = t.short;
        cuts = subst (λ (n : ℕ). Cuts n (argument (get_or ws 0 0)) (drop 1 ws)) names-are t.cuts;
      }

  pub blocks-good : All (Good narrow) (blocks ws)
  blocks-good = subst (λ (n : ℕ). All (Good n) (blocks ws)) names-are (tables.blocks-good ws readable)

  pub blocks-distinct : Distinct (map key_of (blocks ws))
  blocks-distinct = tables.blocks-distinct ws readable

  pub blocks-whole : table_of 1 (blocks ws) ≡ ws
  blocks-whole = ap (λ (k : ℕ). table_of k (blocks ws)) (sym headed) ∙ tables.blocks-whole ws readable

-- good blocks with distinct keys, few enough and short enough, make a narrow table
pub table-accepted : (bs : List (List ℕ)) → All (Good narrow) bs → Distinct (map key_of bs) → length bs ≤ narrow → length (table_of 1 bs) ≤ size
    → narrow_reading (table_of 1 bs) ≡ accepted
unfolding table_of
table-accepted bs g d few short =
    narrow-read (table_of 1 bs) first ∙ tables.table-accepted 1 (inl refl) narrow (sym (narrow-names (word_of 1 0) (λ h. one-not-five 0 (omega arith) h))) bs g d few short
  where
    one-not-five : (n : ℕ) → n < 16777216 → kind (word_of 1 n) ≡ 5 → ⊥
    one-not-five n l h = let k = kind-word_of 1 n l in omega arith

    first : eqb (kind (get_or (table_of 1 bs) 0 0)) 5 ≡ false
    first = ne_eqb (kind (word_of 1 (length bs))) 5 (λ h. one-not-five (length bs) (omega arith) h)

pub blocks-table_of : (bs : List (List ℕ)) → All (Good narrow) bs → length bs < 16777216 → blocks (table_of 1 bs) ≡ bs
blocks-table_of bs g h = tables.blocks-table_of narrow 1 bs g h
