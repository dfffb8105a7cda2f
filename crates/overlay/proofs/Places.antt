-- Where a block of the two tables is, by what is found in each, and that its words stand there.
use mathlib.Core.Path.{◌≡◌, refl, sym, ap, ap₂, ◌∙◌, subst}
use mathlib.Core.List.{List, []}
use Prim.Native.Nat.{ℕ, ◌+◌, ◌≤◌}
use native.Mathlib.Omega.{arith}
use lib.ListN.{length}
use Rattle.table.specs.Scan.{Outcome, accepted, refused}
use Rattle.std.specs.Prelude.{Some, None}
use Rattle.overlay.specs.Lookup.{tables_read, Sought, nothing, found, sought, Place, in_base, in_overlay, refusal, place_in, words_in, place_of, looked_up}
use Rattle.overlay.specs.Parts.{part, span_of}
use Rattle.overlay.proofs.Refusals.{tables-accepted}
use Rattle.overlay.proofs.Seek.{sought-part}

-- what the span of a search says of it
pub at-span : (q : Sought) (a e : ℕ) → span_of q ≡ Some (a, e) → (b : List ℕ) × (q ≡ found a b) × (e ≡ a + length b)
unfolding span_of
at-span nothing a e h =
    let z : ◌≡◌ {A = ℕ} 0 1 = cc in
    let f : ⊥ = omega arith in
    absurd f
at-span (found x b) a e h =
    let p : ◌≡◌ {A = ℕ × ℕ} (x, x + length b) (a, e) = cc in
    let y = ap (λ (q : ℕ × ℕ). q.0) p in
    let z = ap (λ (q : ℕ × ℕ). q.1) p in
    (b, ap (λ (i : ℕ). found i b) y, sym z ∙ ap (λ (i : ℕ). i + length b) y)

pub no_span : (q : Sought) → span_of q ≡ None → q ≡ nothing
unfolding span_of
no_span nothing h = refl
no_span (found x b) h =
    let z : ◌≡◌ {A = ℕ} 0 1 = cc in
    let f : ⊥ = omega arith in
    absurd f

module _ (base overlay : List ℕ) (n s : ℕ) where
  pub place-refused : (k p : ℕ) → tables_read base overlay ≡ refused k p → place_of base overlay n s ≡ refusal k p
  unfolding place_of
  place-refused k p e = rw (place_of, e)

  looked-refused : (k p : ℕ) → tables_read base overlay ≡ refused k p → looked_up base overlay n s ≡ []
  unfolding looked_up
  looked-refused k p e = rw (looked_up, e)

  module _ (t : tables_read base overlay ≡ accepted) (b o : Sought) (eb : sought base n s ≡ b) (eo : sought overlay n s ≡ o) where
    pub place_found : place_of base overlay n s ≡ place_in b o
    unfolding place_of
    place_found = rw (place_of, t) (ap₂ place_in eb eo)

    pub looked-found : looked_up base overlay n s ≡ words_in b o
    unfolding looked_up
    looked-found = rw (looked_up, t) (ap₂ words_in eb eo)

  -- the part of a table that a place names
  abbrev pub Stands : Place → Type 0
  Stands (in_overlay a e) = (a ≤ e) × (e ≤ length overlay) × (part a e overlay ≡ looked_up base overlay n s)
  Stands (in_base a e) = (a ≤ e) × (e ≤ length base) × (part a e base ≡ looked_up base overlay n s)
  Stands (refusal k p) = looked_up base overlay n s ≡ []

  pub place-stands : Stands (place_of base overlay n s)
  place-stands = go (tables_read base overlay) (sought base n s) (sought overlay n s) refl refl refl
    where
      go : (t : Outcome) (b o : Sought) → tables_read base overlay ≡ t → sought base n s ≡ b → sought overlay n s ≡ o
          → Stands (place_of base overlay n s)
      go (refused k p) b o t eb eo = subst Stands (sym (place-refused k p t)) (looked-refused k p t)
      go accepted b (found a w) t eb eo =
          let q = sought-part n s overlay (tables-accepted base overlay t).1 a w eo in
          subst Stands (sym (place_found t b (found a w) eb eo)) (omega arith, q.0, q.1 ∙ sym (looked-found t b (found a w) eb eo))
      go accepted (found a w) nothing t eb eo =
          let q = sought-part n s base (tables-accepted base overlay t).0 a w eb in
          subst Stands (sym (place_found t (found a w) nothing eb eo)) (omega arith, q.0, q.1 ∙ sym (looked-found t (found a w) nothing eb eo))
      go accepted nothing nothing t eb eo =
          subst Stands (sym (place_found t nothing nothing eb eo)) (looked-found t nothing nothing eb eo)
