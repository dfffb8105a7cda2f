-- The blocks of a table put to the joined table one after the other: what is written, and what the blocks that are left give, is what all
-- blocks give.
use mathlib.Core.Path.{◌≡◌, sym, ap, subst, ◌∙◌}
use mathlib.Core.Logic.{◌⊎◌, ⊎_elim}
use mathlib.Core.List.{List, ◌∷◌, ◌++◌, map, flatten, append_assoc}
use mathlib.Core.Bool.{Bool}
use Prim.Native.Nat.{ℕ, ◌+◌, ◌-◌, ◌*◌, ◌≤◌, ◌<◌}
use native.Mathlib.Omega.{arith}
use lib.ListN.{length, take, drop}
use Rattle.table.specs.Words.{narrow}
use Rattle.table.specs.Scan.{accepted, narrow_reading}
use Rattle.blocks.specs.Blocks.{block_length, cut, blocks}
use Rattle.blocks.proofs.Tables.{Cuts}
use Rattle.blocks.proofs.Narrow.{table as accepted-table}
use Rattle.blocks.proofs.Places.{Here}
use Rattle.overlay.specs.Parts.{part, given, some, AppendedTo}
use Rattle.overlay.proofs.Seek.{sought-part}
use Rattle.overlay.proofs.Given.{given-short}
use Rattle.overlay.proofs.Appended.{appended-as, appended-on, some_more, some-none}

-- what blocks give
abbrev pub parts : Bool → List ℕ → List (List ℕ) → List (List ℕ)
parts new other bs = map (given new (blocks other)) bs

pub record Going (out₀ : List ℕ) (start : ℕ) (table other : List ℕ) (new : Bool) (out : List ℕ) (left at end count : ℕ) : Type 0 where
  pub inside : at ≤ length table
  pub cuts : Cuts narrow left (drop at table)
  pub room : end + 1024 * left ≤ start + 32768
  pub few : count + left ≤ 32
  pub same : length out ≡ length out₀
  pub counted : count + some (parts new other (cut left (drop at table))) ≡ some (parts new other (blocks table))
  pub done : List ℕ
  pub split : done ++ flatten (parts new other (cut left (drop at table))) ≡ flatten (parts new other (blocks table))
  pub written : AppendedTo start done out₀ out end

-- one block more
module _ {out₀ table other out : List ℕ} {start left at end count : ℕ} {new : Bool}
    (g : Going out₀ start table other new out left at end count) (ta : narrow_reading table ≡ accepted) (oa : narrow_reading other ≡ accepted)
    (some_left : 0 < left) (r : Here narrow table left at) where
  abbrev block : List ℕ
  block = take r.size (drop at table)

  abbrev given-words : List ℕ
  given-words = given new (blocks other) block

  abbrev left-parts : List (List ℕ)
  left-parts = parts new other (cut (left - 1) (drop (at + r.size) table))

  given-few : length given-words ≤ 1024
  given-few =
      let t = accepted-table table ta in
      let o = accepted-table other oa in
      given-short (blocks other) block new 1024 (let k = r.whole in let l = r.inside in let m = t.short in omega arith)
      (λ a w e. let q = sought-part _ _ other oa a w e in let m = o.short in omega (arith, q.0))

  first-parts : parts new other (cut left (drop at table)) ≡ given-words ∷ left-parts
  first-parts = ap (parts new other) r.split

  module _ {out' : List ℕ} {after count' : ℕ} (kept : length out' ≡ length out) (w : AppendedTo end given-words out out' after)
      (counts : ((count' ≡ count + 1) × (end < after)) ⊎ ((count' ≡ count) × (after ≤ end))) where
    counted-on : count' + some left-parts ≡ some (parts new other (blocks table))
    counted-on =
        let e = g.counted in
        let f = ap some first-parts in
        let k = w.ends in
        ⊎_elim
        (λ x. let m = some_more given-words left-parts (omega arith) in omega (arith, x.0))
        (λ x. let m = some-none given-words left-parts (omega arith) in omega (arith, x.0)) counts

    going_on : Going out₀ start table other new out' (left - 1) (at + r.size) after count'
    unfolding flatten
    going_on =
        let k = w.ends in
        record {
          inside = r.inside;
          cuts = r.rest;
          room = let f = given-few in let h = g.room in omega arith;
          few = let h = g.few in ⊎_elim (λ x. omega (arith, x.0)) (λ x. omega (arith, x.0)) counts;
          same = kept ∙ g.same;
          counted = counted-on;
          done = g.done ++ given-words;
          split = append_assoc g.done given-words (flatten left-parts)
              ∙ ap (λ (l : List (List ℕ)). g.done ++ flatten l) (sym first-parts)
              ∙ g.split;
          written = appended-on g.same g.written w;
        }

  pub goes_on : {out' : List ℕ} {after count' : ℕ} (next : ℕ) → next ≡ at + block_length (drop at table) → length out' ≡ length out
      → AppendedTo end (given new (blocks other) (part at next table)) out out' after
      → ((count' ≡ count + 1) × (end < after)) ⊎ ((count' ≡ count) × (after ≤ end))
      → Going out₀ start table other new out' (left - 1) next after count'
  goes_on {out' = out'} {after = after} {count' = count'} next e kept w counts =
      let there : at + r.size ≡ next = ap (λ (k : ℕ). at + k) r.sized ∙ sym e in
      let size : r.size ≡ next - at = omega arith in
      subst (λ (q : ℕ). Going out₀ start table other new out' (left - 1) q after count') there
      (going_on kept (appended-as (ap (λ (k : ℕ). given new (blocks other) (take k (drop at table))) size) w) counts)
