-- The elements of the least estimate past the plain ones are functions, records and cells: each 64+i in it has a word i that makes one.
-- In the value set of a block's first word stand the opponent's record and blocks.
use Prim.Native.Nat.{ℕ, ◌-◌, ◌<◌}
use mathlib.Core.Path.{◌≡◌, refl, sym, subst}
use mathlib.Core.Bool.{Bool, true, false, ◌||◌, ◌&&◌}
use mathlib.Core.List.{List, Memᴰ}
use native.Mathlib.Omega.{arith}
use lib.Dec.{T, eqb, leb, ltb, lt→ltb, le→leb}
use Rattle.table.specs.Code.{Code, Node, Leaf, One, Two, gap, block, leaf, one, two, bind, while, branch, update, Linked}
use Rattle.table.specs.Code.{LeafLinked, NodeLinked, TwoLinked, IsBlock, IsTerm, Within}
use Rattle.table.specs.Code.{constant, number, literal, named, variable, function, empty, exercise, cell, read}
use Rattle.table.specs.Code.{apply, sequence, get, delete, assign, operation, send}
use Rattle.calculus.specs.Elements.{plain, made, undefined, unit, opponent_record, Making, nothing, a_function, a_record, a_cell, makes, leaf_makes, one_makes, making}
use Rattle.calculus.specs.Constraint.{C, B, P, L, Sets, Obeys}
use Rattle.calculus.specs.Rules.{is_block, guarded, leaf_rule, one_rule, two_rule, flow, entry, two_sender, sender, senders, rule, Estimate}
use Rattle.calculus.specs.Layout.{sets, LiesIn}
use Rattle.calculus.specs.Estimate.{estimate}
use Rattle.calculus.proofs.Digits.{T-or-left, T-or-right, T_and}
use Rattle.calculus.proofs.Ranges.{range-bound, in-below}
use Rattle.calculus.proofs.Fitting.{constant-lt, sign-lt, results-lt, body-within}
use Rattle.calculus.proofs.Least.{estimate-least}

unfoldable pub is_made : Making → Bool
is_made nothing = false
is_made a_function = true
is_made a_record = true
is_made a_cell = true

pub is_block_lem : (n : Node) → IsBlock n → T (is_block n)
unfolding is_block
is_block_lem gap h = absurd h
is_block_lem (block n s g) h = tt
is_block_lem (leaf l) h = absurd h
is_block_lem (one o a) h = absurd h
is_block_lem (two t a b) h = absurd h
is_block_lem (bind a b) h = absurd h
is_block_lem (while a b) h = absurd h
is_block_lem (branch a b d) h = absurd h
is_block_lem (update a b d) h = absurd h

pub block-is : (n : Node) → T (is_block n) → IsBlock n
unfolding is_block
block-is gap t = absurd t
block-is (block n s g) t = tt
block-is (leaf l) t = absurd t
block-is (one o a) t = absurd t
block-is (two u a b) t = absurd t
block-is (bind a b) t = absurd t
block-is (while a b) t = absurd t
block-is (branch a b d) t = absurd t
block-is (update a b d) t = absurd t

-- one of two sets, that of blocks or that of other words
unfoldable pub chosen : Node → (at_block other : Bool) → Bool
chosen gap s t = t
chosen (block n p g) s t = s
chosen (leaf l) s t = t
chosen (one o a) s t = t
chosen (two u a b) s t = t
chosen (bind a b) s t = t
chosen (while a b) s t = t
chosen (branch a b d) s t = t
chosen (update a b d) s t = t

at-term : (n : Node) (s t : Bool) → IsTerm n → T (chosen n s t) → T t
unfolding chosen
at-term gap s t h x = absurd h
at-term (block n p g) s t h x = absurd h
at-term (leaf l) s t h x = x
at-term (one o a) s t h x = x
at-term (two u a b) s t h x = x
at-term (bind a b) s t h x = x
at-term (while a b) s t h x = x
at-term (branch a b d) s t h x = x
at-term (update a b d) s t h x = x

to-term : (n : Node) (s t : Bool) → IsTerm n → T t → T (chosen n s t)
unfolding chosen
to-term gap s t h x = absurd h
to-term (block n p g) s t h x = absurd h
to-term (leaf l) s t h x = x
to-term (one o a) s t h x = x
to-term (two u a b) s t h x = x
to-term (bind a b) s t h x = x
to-term (while a b) s t h x = x
to-term (branch a b d) s t h x = x
to-term (update a b d) s t h x = x

to_block_lem : (n : Node) (s t : Bool) → IsBlock n → T s → T (chosen n s t)
unfolding chosen
to_block_lem gap s t h x = absurd h
to_block_lem (block n p g) s t h x = x
to_block_lem (leaf l) s t h x = absurd h
to_block_lem (one o a) s t h x = absurd h
to_block_lem (two u a b) s t h x = absurd h
to_block_lem (bind a b) s t h x = absurd h
to_block_lem (while a b) s t h x = absurd h
to_block_lem (branch a b d) s t h x = absurd h
to_block_lem (update a b d) s t h x = absurd h

at-block : (n : Node) (s t : Bool) → IsBlock n → T (chosen n s t) → T s
unfolding chosen
at-block gap s t h x = absurd h
at-block (block n p g) s t h x = x
at-block (leaf l) s t h x = absurd h
at-block (one o a) s t h x = absurd h
at-block (two u a b) s t h x = absurd h
at-block (bind a b) s t h x = absurd h
at-block (while a b) s t h x = absurd h
at-block (branch a b d) s t h x = absurd h
at-block (update a b d) s t h x = absurd h

guarded-block : (n : Node) (ρ : ℕ) → T (guarded n ρ) → IsBlock n
unfolding guarded
guarded-block gap ρ t = absurd t
guarded-block (block n s g) ρ t = tt
guarded-block (leaf l) ρ t = absurd t
guarded-block (one o a) ρ t = absurd t
guarded-block (two u a b) ρ t = absurd t
guarded-block (bind a b) ρ t = absurd t
guarded-block (while a b) ρ t = absurd t
guarded-block (branch a b d) ρ t = absurd t
guarded-block (update a b d) ρ t = absurd t

module _ (c : Code) where
  -- plain, or made by a word that makes something
  unfoldable pub proper : ℕ → Bool
  proper v = ltb v (plain c) || is_made (making c v)

  -- the opponent, or a block
  unfoldable pub sending : ℕ → Bool
  sending v = eqb v opponent_record || (leb (plain c) v && is_block (c.node (v - plain c)))

  -- the sets with every proper element, in a block's value set the opponent and every block, every permission and every flag
  unfoldable pub full : Sets
  full (C i) v = chosen (c.node i) (sending v) (proper v)
  full (B i) v = proper v
  full (P i) v = true
  full (L i) v = true

  is_plain : {v : ℕ} → v < plain c → T (proper v)
  unfolding proper
  is_plain {v} h = T-or-left (ltb v (plain c)) (is_made (making c v)) (lt→ltb v (plain c) h)

  is_made_lem : (p : ℕ) → T (is_made (makes (c.node p))) → T (proper (made c p))
  unfolding proper making
  is_made_lem p h =
      let e : made c p - plain c ≡ p = omega arith in
      T-or-right (ltb (made c p) (plain c)) (is_made (making c (made c p))) (subst (λ (q : ℕ). T (is_made (makes (c.node q)))) (sym e) h)

  -- a value set of a term, read and written
  from-C : {q h : ℕ} {s : List ℕ} → Within c q h s → (v : ℕ) → T (full (C q) v) → T (proper v)
  unfolding full
  from-C {q} w v t = at-term (c.node q) (sending v) (proper v) w.term t

  module _ (k : Linked c) (p : ℕ) (is : IsTerm (c.node p)) where
    to-C : (v : ℕ) → T (proper v) → T (full (C p) v)
    unfolding full
    to-C v t = to-term (c.node p) (sending v) (proper v) is t

    plain-C : (v : ℕ) → v < plain c → T (full (C p) v)
    plain-C v l = to-C v (is_plain l)

    leaf-full : (l : Leaf) → LeafLinked c p l → (T (is_made (leaf_makes l)) → T (proper (made c p))) → Obeys full (leaf_rule c p l)
    unfolding leaf_rule full leaf_makes is_made
    leaf-full (constant d) n m = plain-C _ (omega (arith, constant-lt d))
    leaf-full (number x) n m = plain-C _ (omega (arith, sign-lt x))
    leaf-full (literal x) n m = plain-C _ (omega arith)
    leaf-full (named x) n m = plain-C _ (omega arith)
    leaf-full (variable x) n m = λ v h. to-C v h
    leaf-full function n m = to-C _ (m tt)
    leaf-full empty n m = to-C _ (m tt)
    leaf-full (exercise r) n m = λ t. ((λ i l u. tt), plain-C unit (omega arith))

    one-full : (o : One) (a : ℕ) → Within c a (c.home p) (c.scope p) → (T (is_made (one_makes o)) → T (proper (made c p))) → Obeys full (one_rule c p o a)
    unfolding one_rule full one_makes is_made
    one-full cell a w m = (to-C _ (m tt), λ v h. from-C w v h)
    one-full read a w m = λ q i t g v h. to-C v h

    two-full : (t : Two) (a d : ℕ) → TwoLinked c p t → Within c a (c.home p) (c.scope p) → Within c d (c.home p) (c.scope p) → Obeys full (two_rule c p t a d)
    unfolding two_rule full making
    two-full apply a d x w y =
        λ f m t g.
        let b = body-within c k f (in-below m) t in
        (tt, ((λ v h. from-C y v h), ((λ v h. to-C v (from-C b v h)), λ v h. tt)))
    two-full sequence a d x w y = λ v h. to-C v (from-C y v h)
    two-full get a d x w y =
        λ v t h. ((λ q m t g. ((λ v h. to-C v h), plain-C undefined (omega arith))), λ g v m. plain-C v (omega (arith, range-bound _ _ v m)))
    two-full delete a d x w y = λ v t h u m q g. to-C u (from-C w u g)
    two-full assign a d x w y = λ q m t g. ((λ v h. to-C v (from-C y v h)), λ v h. from-C y v h)
    two-full (operation o) a d x w y = λ z i g u j h r m. plain-C r (omega (arith, results-lt c o z u r m))
    two-full (send r) a d x w y = (plain-C unit (omega arith), λ v q g b m t n. (tt, ((λ u i s g. from-C y u g), λ x h. tt)))

  module _ (k : Linked c) (p : ℕ) (m : T (is_made (makes (c.node p))) → T (proper (made c p))) where
    there : (n : Node) → c.node p ≡ n → IsTerm n → IsTerm (c.node p)
    there n e h = subst IsTerm (sym e) h

    made_at : (n : Node) → c.node p ≡ n → T (is_made (makes n)) → T (proper (made c p))
    made_at n e h = m (subst (λ (z : Node). T (is_made (makes z))) (sym e) h)

    flow-full : (n : Node) → c.node p ≡ n → NodeLinked c p n → Obeys full (flow c p n)
    unfolding flow full makes is_made
    flow-full gap e l = tt
    flow-full (block n s g) e l = (tt, λ v h. tt)
    flow-full (leaf d) e l = leaf-full k p (there (leaf d) e tt) d l (made_at (leaf d) e)
    flow-full (one o a) e l = ((tt, λ v h. tt), one-full k p (there (one o a) e tt) o a l (made_at (one o a) e))
    flow-full (two t a d) e l = ((tt, λ v h. tt), ((tt, λ v h. tt), two-full k p (there (two t a d) e tt) t a d l.0 l.1 l.2))
    flow-full (bind a d) e l =
        let is = there (bind a d) e tt in
        ((tt, λ v h. tt), ((tt, λ v h. tt), ((λ v h. from-C l.0 v h), λ v h. to-C k p is v (from-C l.1 v h))))
    flow-full (while a d) e l =
        let is = there (while a d) e tt in ((tt, λ v h. tt), ((λ v h. tt), ((λ g. tt), λ g. plain-C k p is undefined (omega arith))))
    flow-full (branch a b d) e l =
        let is = there (branch a b d) e tt in (
          (tt, λ v h. tt),
          (
            (λ v h. tt),
            (
              (λ v h. tt),
              ((λ g. tt), ((λ g. tt), ((λ v h. to-C k p is v (from-C l.1 v h)), λ v h. to-C k p is v (from-C l.2 v h)))),
            ),
          ),
        )
    flow-full (update a b d) e l =
        let is = there (update a b d) e tt in (
          (tt, λ v h. tt),
          (
            (tt, λ v h. tt),
            (
              (tt, λ v h. tt),
              λ v t h. (
                (λ u q g. (to-C k p is _ (made_at (update a b d) e tt), λ v h. from-C l.2 v h)),
                ((λ q i t g v h. h), λ g v i. is_plain (omega (arith, range-bound _ _ v i))),
              ),
            ),
          ),
        )

  -- a block that sends to b
  module _ (k : Linked c) (b : ℕ) (is : IsBlock (c.node b)) where
    sends-to : (p : ℕ) → Memᴰ (c.home p) c.blocks → T (full (C b) (made c (c.home p)))
    unfolding full sending
    sends-to p l =
        let h = c.home p in
        to_block_lem (c.node b) (sending (made c h)) (proper (made c h)) is
        (T-or-right (eqb (made c h) opponent_record) (leb (plain c) (made c h) && is_block (c.node (made c h - plain c)))
        (T_and (leb (plain c) (made c h)) (is_block (c.node (made c h - plain c))) (le→leb (plain c) (made c h) (omega arith))
        (let e : h ≡ made c h - plain c = omega arith in
        subst (λ (z : ℕ). T (is_block (c.node z))) e (is_block_lem (c.node h) (k.listed h l).1))))

    two-sends : (p : ℕ) (t : Two) (a d : ℕ) → TwoLinked c p t → Obeys full (two_sender c b p t a d)
    unfolding two_sender
    two-sends p apply a d l = tt
    two-sends p sequence a d l = tt
    two-sends p get a d l = tt
    two-sends p delete a d l = tt
    two-sends p assign a d l = tt
    two-sends p (operation o) a d l = tt
    two-sends p (send r) a d l = λ g v q h t n. sends-to p l.1

    node-sends : (p : ℕ) (n : Node) → NodeLinked c p n → Obeys full (sender c b p n)
    unfolding sender
    node-sends p gap l = tt
    node-sends p (block n s g) l = tt
    node-sends p (leaf f) l = tt
    node-sends p (one o a) l = tt
    node-sends p (two t a d) l = two-sends p t a d l.0
    node-sends p (bind a d) l = tt
    node-sends p (while a d) l = tt
    node-sends p (branch a d e) l = tt
    node-sends p (update a d e) l = tt

  module _ (k : Linked c) (ρ : ℕ) where
    full-obeys : Estimate c ρ full
    unfolding rule entry senders full sending
    full-obeys p h = (
      (
        (λ t. (
          tt,
          (
            (λ v i. is_plain (omega (arith, range-bound _ _ v i))),
            to_block_lem (c.node p) (sending opponent_record) (proper opponent_record) (guarded-block (c.node p) ρ t) tt,
          ),
        )),
        λ t q m. node-sends k p (block-is (c.node p) t) q (c.node q) (k.nodes q (in-below m)),
      ),
      λ g. flow-full k p (is_made_lem p) (c.node p) refl (k.nodes p h),
    )

    pub values-proper : (i v : ℕ) → IsTerm (c.node i) → T (sets c (estimate c ρ) (C i) v) → T (proper v)
    unfolding full
    values-proper i v t h = at-term (c.node i) (sending v) (proper v) t (estimate-least c k ρ full full-obeys (C i) v h)

    -- the value set of a block's first word: who may have sent
    pub senders-proper : (b v : ℕ) → IsBlock (c.node b) → T (sets c (estimate c ρ) (C b) v) → T (sending v)
    unfolding full
    senders-proper b v t h = at-block (c.node b) (sending v) (proper v) t (estimate-least c k ρ full full-obeys (C b) v h)

    pub held-proper : (i v : ℕ) → T (sets c (estimate c ρ) (B i) v) → T (proper v)
    unfolding full
    held-proper i v h = estimate-least c k ρ full full-obeys (B i) v h

    -- each set of the least estimate
    pub estimate-full : LiesIn c (estimate c ρ) full
    estimate-full = estimate-least c k ρ full full-obeys
