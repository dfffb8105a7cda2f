-- `overlay::join::put_block` meets its contract.
-- Assumes nothing.
use mathlib.Core.Path.{◌≡◌, sym, ap, ap₂, ◌∙◌}
use mathlib.Core.List.{List, []}
use Rattle.overlay.specs.declared.join.Wanted.{Wanted}
use Prim.Native.Nat.{ℕ, ◌+◌, ◌≤◌}
use native.Mathlib.Nat.{add-zero}
use native.Mathlib.Omega.{arith}
use lib.ListN.{length, get_or}
use borrow.Author.Rules.{rules}
use Rattle.table.specs.Words.{argument}
use Rattle.blocks.specs.Blocks.{blocks, name_of, perms_of}
use Rattle.blocks.proofs.Narrow.{table as accepted-table}
use Rattle.table.specs.Scan.{accepted, narrow_reading}
use Rattle.std.specs.Prelude.{Option, Some}
use Rattle.overlay.specs.Lookup.{Sought, found, seek, sought}
use Rattle.overlay.specs.Parts.{part, span_of, given, is_new}
use Rattle.overlay.proofs.Seek.{sought-part}
use Rattle.overlay.proofs.Places.{at-span, no_span}
use Rattle.overlay.proofs.Given.{part-word, length_part, given-own, given-none, given-other}
use Rattle.overlay.proofs.Appended.{appended-as, appended-none}
use Rattle.overlay.proofs.join.put_block.Goals as goal

-- the search for a block's key in the other table
abbrev search-of : (other block : List ℕ) → Sought
search-of other block = seek (name_of block) (perms_of block) 1 (blocks other)

-- where it is found
record There (other block : List ℕ) (a e : ℕ) : Type 0 where
  order : a ≤ e
  inside : e ≤ length other
  short : length other ≤ 1024
  block-there : search-of other block ≡ found a (part a e other)

-- by the first two words of a block of the table
module _ (other table : List ℕ) (start end : ℕ) (h : start + 2 ≤ end) {name perms : ℕ} (n : name ≡ argument (get_or table start 0))
    (p : perms ≡ argument (get_or table (start + 1) 0)) {r : Option (ℕ × ℕ)} (s : r ≡ span_of (sought other name perms)) where
  spanned : span_of (search-of other (part start end table)) ≡ r
  spanned =
      let named : name_of (part start end table) ≡ name =
      ap argument (part-word table start end 0 (omega arith) ∙ ap (λ (i : ℕ). get_or table i 0) (add-zero start)) ∙ sym n in
      let permitted : perms_of (part start end table) ≡ perms = ap argument (part-word table start end 1 (omega arith)) ∙ sym p in
      ap₂ (λ (i j : ℕ). span_of (sought other i j)) named permitted ∙ sym s

  there : {a e : ℕ} → narrow_reading other ≡ accepted → r ≡ Some (a, e) → There other (part start end table) a e
  there {a = a} {e = e} reads at =
      let q = at-span (search-of other (part start end table)) a e (spanned ∙ at) in
      let l = sought-part _ _ other reads a q.0 q.1 in
      record {
        order = let k = q.2 in omega arith;
        inside = let k = q.2 in let m = l.0 in omega arith;
        short = (accepted-table other reads).short;
        block-there = q.1 ∙ ap (found a) (sym (ap (λ (i : ℕ). part a i other) q.2 ∙ l.1));
      }

pub offset_bounds-other-a : goal.offset_bounds-other-a
offset_bounds-other-a c =
    let a = c.args in
    let q = there a.other.now a.table.now a.start a.end c.requires.1 c.argument_of-name.ensures c.argument_of-perms.ensures c.seek.ensures c.requires.4 c.in-Some.is in
    search rules

pub slice_bounds-append-count : goal.slice_bounds-append-count
slice_bounds-append-count c =
    let a = c.args in
    let q = there a.other.now a.table.now a.start a.end c.requires.1 c.argument_of-name.ensures c.argument_of-perms.ensures c.seek.ensures c.requires.4 c.in-Some.is in
    search rules

pub slice_bounds-append-start : goal.slice_bounds-append-start
slice_bounds-append-start c =
    let a = c.args in
    let q = there a.other.now a.table.now a.start a.end c.requires.1 c.argument_of-name.ensures c.argument_of-perms.ensures c.seek.ensures c.requires.4 c.in-Some.is in
    search rules

pub slice_bounds-append-end : goal.slice_bounds-append-end
slice_bounds-append-end c =
    let a = c.args in
    let q = there a.other.now a.table.now a.start a.end c.requires.1 c.argument_of-name.ensures c.argument_of-perms.ensures c.seek.ensures c.requires.4 c.in-Some.is in
    search rules

pub append-requires : goal.append-requires
append-requires c =
    let a = c.args in
    let q = there a.other.now a.table.now a.start a.end c.requires.1 c.argument_of-name.ensures c.argument_of-perms.ensures c.seek.ensures c.requires.4 c.in-Some.is in
    let l = length_part a.other.now c.in-Some.a c.in-Some.e q.inside in
    (search rules, omega arith)

pub returns-in-New : goal.returns-in-New
returns-in-New c =
    let a = c.args in
    let q = there a.other.now a.table.now a.start a.end c.requires.1 c.argument_of-name.ensures c.argument_of-perms.ensures c.seek.ensures c.requires.4 c.in-Some.is in
    let none : given (is_new a.wanted) (blocks a.other.now) (part a.start a.end a.table.now) ≡ [] =
    ap (λ (x : Wanted). given (is_new x) (blocks a.other.now) (part a.start a.end a.table.now)) c.in-New.is ∙ given-none _ _ _ _ q.block-there in
    appended-as none (appended-none a.at a.out.now)

pub returns-in-Each : goal.returns-in-Each
returns-in-Each c =
    let a = c.args in
    let q = there a.other.now a.table.now a.start a.end c.requires.1 c.argument_of-name.ensures c.argument_of-perms.ensures c.seek.ensures c.requires.4 c.in-Some.is in
    appended-as
    (ap (λ (x : Wanted). given (is_new x) (blocks a.other.now) (part a.start a.end a.table.now)) c.in-Each.is
    ∙ given-other _ _ _ _ q.block-there) c.append.ensures

pub returns-in-None : goal.returns-in-None
returns-in-None c =
    let a = c.args in
    let own = given-own _ _ (is_new a.wanted) (no_span _ (spanned a.other.now a.table.now a.start a.end c.requires.1 c.argument_of-name.ensures c.argument_of-perms.ensures c.seek.ensures ∙ c.in-None.is)) in
    appended-as own c.append-in-None.ensures
