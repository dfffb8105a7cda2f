-- A clause that may be fired writes into rows of the code alone: its operands say so, whatever the kind of its word.
use Prim.Native.Nat.{ℕ, zero, suc, ◌+◌, ◌*◌, ◌<◌}
use mathlib.Core.Path.{◌≡◌, refl, sym, ◌∙◌}
use mathlib.Core.Bool.{true}
use mathlib.Core.List.{List, Memᴰ}
use native.Mathlib.Decide.{dec_lt}
use native.Mathlib.Omega.{arith}
use lib.Dec.{T}
use Rattle.table.specs.Words.{operation_of}
use Rattle.table.specs.Code.{Code, code, Linked}
use Rattle.table.proofs.Nodes.{home-block}
use Rattle.calculus.specs.Elements.{plain, makes}
use Rattle.calculus.specs.Constraint.{Row, Rule}
use Rattle.calculus.specs.Rules.{name_of, permissions, part}
use Rattle.calculus.specs.Layout.{allowed, shift}
use Rattle.calculus.proofs.Digits.{T_true}
use Rattle.calculus.proofs.Ranges.{in-below, range-bound}
use Rattle.calculus.proofs.Places.{is-allowed}
use Rattle.calculus.proofs.Rows.{Alike}
use Rattle.calculus.proofs.RowRules.{ValueRow}
use Rattle.calculus.proofs.Firing.{Fits}
use Rattle.calculus.proofs.Fitting.{results-lt, may-C, may-B, may-P, may-L, PP}
use Rattle.rows.specs.declared.layout.Layout.{Layout}
use Rattle.clauses.specs.declared.Test.{Test}
use Rattle.clauses.specs.declared.Test.TheVariants as tests
use Rattle.clauses.specs.declared.What.{What}
use Rattle.clauses.specs.declared.What.TheVariants as whats
use Rattle.clauses.specs.declared.Clause.{Clause}
use Rattle.clauses.specs.Asks.{row_at, thing_at, under, for_thing, at_block, things, blocks, effect, asks}
use Rattle.clauses.specs.Clauses.{of}
use Rattle.clauses.proofs.Sorts.{row-C, row-B}
use Rattle.clauses.proofs.Numbered.{Numbered, in-C, in-B, numbered, value_row}
use Rattle.clauses.proofs.Asked.{gap-thing, admitted-listed}
use Rattle.queries.specs.Ready.{Ready}
use Rattle.queries.proofs.Given.{linked-code}
use Rattle.firing.specs.Placed.{Each, entering}
use Rattle.firing.specs.Sending.{Sending}
use Rattle.firing.specs.Suits.{Fitting, Suits}
use Rattle.firing.proofs.EachThing.{in-mask}

module _ {ws links masks : List ℕ} {l : Layout} (y : Ready ws links masks l) where
  abbrev c : Code
  c = code ws

  abbrev k : Linked c
  k = linked-code y

  inside : {q : ℕ} → q < l.size → q < c.size
  inside h = omega (arith, y.laid.size)

  -- ---- rows by their numbers

  row_of : (n : ℕ) → n < 2 * l.size → ValueRow c (row_at n)
  row_of n h = value_row c n (omega (arith, y.laid.size))

  may-row : (n v : ℕ) → n < 2 * l.size → v < plain c + c.size → T (allowed c (row_at n) v)
  may-row n v h b = let r = row_of n h in is-allowed c (row_at n) v r.mine (rw r.full b)

  unshifted : {r : Row} {n : ℕ} → Numbered r n → shift c r ≡ 0
  unfolding shift
  unshifted (in-C e) = refl
  unshifted (in-B e) = refl

  alike : (i j : ℕ) → i < 2 * l.size → j < 2 * l.size → Alike c (row_at i) (row_at j)
  alike i j h g =
      let a = row_of i h in let b = row_of j g in
      record { from = a.mine; to = b.mine; spans = a.full ∙ sym b.full; unshifted-from = unshifted (numbered i); unshifted-to = unshifted (numbered j) }

  -- ---- things

  thing-inside : (z f : ℕ) → T (thing_at z (makes (c.node f))) → f < l.size
  thing-inside z f t = go (dec_lt f l.size)
    where
      go : Dec (f < l.size) → f < l.size
      go (yes h) = h
      go (no h) = absurd (gap-thing c k (λ r v. true) z f (omega (arith, y.laid.size)) t)

  things-fit : (w : What) (x r z f : ℕ) → ((g : ℕ) → g < l.size → T (thing_at z (makes (c.node g))) → Fits c (for_thing w x r g))
      → Fits c (things c w x r z f)
  unfolding things
  things-fit w x r z zero p = λ g m t. p g (thing-inside z g t) t
  things-fit w x r z (suc f) p = λ t. p (suc f) (thing-inside z (suc f) t) t

  -- a thing that has a body
  body : {w : What} {x r z : ℕ} → Each l masks (of w x r z) → entering w ≡ true → (f : ℕ) → f < l.size → T (thing_at z (makes (c.node f)))
      → suc f < c.size
  body {z = z} e q f h t =
      let b : f + 1 < l.size = e.bodies q f h (sym (in-mask z e.mask y.laid y.masked f (inside h)) ∙ T_true (thing_at z (makes (c.node f))) t) in
      omega (arith, y.laid.size)

  -- ---- blocks

  pub block-fits : {x r z : ℕ} → Sending ws l x r z → (b : ℕ) → Memᴰ b c.blocks → Fits c (at_block c x r z b)
  block-fits {x} s b m =
      λ d.
      let i : b < c.size = (k.listed b m).0 in
      let h = (k.listed (c.home x) (home-block ws y.readable y.slice y.room x s.term s.there)).0 in
      ((may-L c k i, ((λ v n t. may-B c k i (in-below n)), PP c k i (inside (omega (arith, s.word))))), may-C c k i (omega arith))

  blocks-fit : (x r z f : ℕ) → Sending ws l x r z → Fits c (blocks c x r z f)
  unfolding blocks
  blocks-fit x r z zero s = block-fits s
  blocks-fit x r z (suc f) s =
      λ d. block-fits s (suc f) (admitted-listed c k (λ a v. true) (name_of (c.node (suc f))) z (permissions c x) (suc f) d) d

  -- ---- effects, guards, clauses

  part-fits : {p q : ℕ} → p < l.size → q < l.size → Fits c (part p q)
  part-fits h g = (may-L c k (inside g), PP c k (inside g) (inside h))

  effect-fits : (w : What) (x r z f : ℕ) → Fitting l masks ws w x r z → Fits c (effect c w x r z f)
  unfolding effect for_thing entering
  effect-fits whats.Live x r z f p = may-L c k (inside p)
  effect-fits whats.Put x r z f p = may-row x r p.0 (omega (arith, p.1, y.laid.size, y.laid.lead))
  effect-fits whats.Fill x r z f p = λ v m. may-row x v p (omega (arith, range-bound _ _ v m))
  effect-fits whats.Flow x r z f p = alike x r p.0 p.1
  effect-fits whats.Pass x r z f p = λ v m t. may-row r v p.1 (in-below m)
  effect-fits whats.Permit x r z f p = λ i m t. may-P c k (inside p.0) (in-below m)
  effect-fits whats.Operate x r z f p =
      λ u mu v mv n mn. let b : n < 7 = results-lt c (operation_of z) u v n mn in may-C c k (inside (omega (arith, p.0))) (omega arith)
  effect-fits whats.Part x r z f p = part-fits p.0 p.1
  effect-fits whats.Parts x r z f p =
      let h : x < l.size = omega (arith, p.0) in (part-fits h p.0, ((λ t. part-fits h p.1), λ t. part-fits h p.2))
  effect-fits whats.Branches x r z f p =
      let h : x < l.size = omega (arith, p.0) in
      (part-fits h p.0, (PP c k (inside p.1) (inside h), λ t. PP c k (inside p.2) (inside h)))
  effect-fits whats.Enter x r z f p = things-fit whats.Enter x r z f (λ g h t. may-L c k (body p refl g h t))
  effect-fits whats.Lower x r z f p = things-fit whats.Lower x r z f (λ g h t. PP c k (body p refl g h t) (inside (omega (arith, p.word))))
  effect-fits whats.Hand x r z f p = things-fit whats.Hand x r z f (λ g h t. rw row-B at (alike r (2 * g + 1) p.row (omega arith)))
  effect-fits whats.Take x r z f p = things-fit whats.Take x r z f (λ g h t. rw row-B at (alike (2 * g + 1) r (omega arith) p.row))
  effect-fits whats.Back x r z f p =
      things-fit whats.Back x r z f (λ g h t. let b = body p refl g h t in rw row-C at (alike (2 * suc g) r (omega (arith, y.laid.size)) p.row))
  effect-fits whats.Send x r z f p = blocks-fit x r z f p

  under-fits : (t : Test) (d a v : ℕ) (i : Rule) → Fits c i → Fits c (under c t d a v i)
  unfolding under
  under-fits tests.Never d a v i o = tt
  under-fits tests.Free d a v i o = o
  under-fits tests.Has d a v i o = o
  under-fits tests.Some d a v i o = o
  under-fits tests.Text d a v i o = o
  under-fits tests.TextHas d a v i o = o
  under-fits tests.TextSome d a v i o = o

  pub clause-fits : (x : Clause) → Suits l masks ws x → (f : ℕ) → Fits c (asks c x f)
  unfolding asks
  clause-fits x s f =
      under-fits x.guard.test x.guard.d x.guard.a x.guard.v _
      (effect-fits x.effect.what x.effect.x x.effect.y x.effect.z f s.effect)
