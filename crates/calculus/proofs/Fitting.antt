-- The flow rules of a linked code write into rows of the code alone.
use Prim.Native.Nat.{ℕ, zero, suc, ◌^◌, ◌<◌}
use mathlib.Core.Path.{refl}
use mathlib.Core.List.Memᴰ
use mathlib.Core.List.{List, [], ◌∷◌, Memᴰ}
use mathlib.Core.Bool.{Bool, true, false, ◌&&◌}
use mathlib.Core.Logic.{⊎_elim}
use native.Mathlib.Omega.{arith}
use lib.Dec.{T, eqb, ltb, ltb→lt, lit<}
use lib.ListN.{get_or}
use Rattle.permset.specs.Sets.{width}
use Rattle.table.specs.declared.Constant.{Constant}
use Rattle.table.specs.declared.Constant.TheVariants as constants
use Rattle.table.specs.declared.Operation.{Operation}
use Rattle.table.specs.declared.Operation.TheVariants as operations
use Rattle.table.specs.Words.{constant_number}
use Rattle.table.specs.Code.{Code, Node, Leaf, One, Two, gap, block, leaf, one, two, bind, while, branch, update, Linked}
use Rattle.table.specs.Code.{NodeLinked, LeafLinked, TwoLinked, Within}
use Rattle.table.specs.Code.{constant, number, literal, named, variable, function, empty, exercise, cell, read}
use Rattle.table.specs.Code.{apply, sequence, get, delete, assign, operation, send}
use Rattle.calculus.specs.Elements.{elements, constant_element, sign, leaf_makes, one_makes, makes, is_function, by_signs}
use Rattle.calculus.specs.Elements.{sum_signs, less_signs, equal_results, results}
use Rattle.calculus.specs.Elements.{is_sign, sign_place, comparable, is_many, truth, falsehood}
use Rattle.calculus.specs.Constraint.{C, B, P, L}
use Rattle.calculus.specs.Rules.{part, leaf_rule, one_rule, two_rule, flow, entry, two_sender, sender, senders, rule}
use Rattle.calculus.specs.Layout.{owner, span, shift, allowed}
use Rattle.calculus.proofs.Digits.{T-fst, T-snd}
use Rattle.calculus.proofs.Places.{is-allowed}
use Rattle.calculus.proofs.Rows.{Alike}
use Rattle.calculus.proofs.Firing.{Fits}
use Rattle.calculus.proofs.Ranges.{in-below, range-bound}

-- ---- results are truths and signs, all below 7

pub constant-lt : (k : Constant) → constant_element k < 7
unfolding constant_element constant_number
constant-lt constants.Undefined = lit< tt
constant-lt constants.Unit = lit< tt
constant-lt constants.True = lit< tt
constant-lt constants.False = lit< tt

pub sign-lt : (n : ℕ) → sign n < 7
unfolding sign
sign-lt n = go (eqb n 0) (ltb n (2 ^ 23))
  where
    go : (a b : Bool) → elim a [ true ↦ 5 | false ↦ elim b [ true ↦ 6 | false ↦ 4 ] ] < 7
    go true b = lit< tt
    go false true = lit< tt
    go false false = lit< tt

-- each number of a list is below 7, and each of a table's lists
pub lows : List ℕ → Bool
lows [] = true
lows (x ∷ xs) = ltb x 7 && lows xs

low_rows : List (List ℕ) → Bool
low_rows [] = true
low_rows (r ∷ rs) = lows r && low_rows rs

pub lows-mem : (xs : List ℕ) → T (lows xs) → (z : ℕ) → Memᴰ z xs → z < 7
unfolding lows
lows-mem [] h z m = absurd (Memᴰ.not-nil m)
lows-mem (x ∷ xs) h z m =
    ⊎_elim (λ e. let l : x < 7 = ltb→lt x 7 (T-fst (ltb x 7) (lows xs) h) in omega arith)
    (λ k. lows-mem xs (T-snd (ltb x 7) (lows xs) h) z k) (Memᴰ.cases_cons m)

low-at : (rs : List (List ℕ)) → T (low_rows rs) → (k : ℕ) → T (lows (get_or rs k []))
unfolding low_rows lows
low-at [] h k = tt
low-at (r ∷ rs) h zero = T-fst (lows r) (low_rows rs) h
low-at (r ∷ rs) h (suc k) = low-at rs (T-snd (lows r) (low_rows rs) h) k

by-signs : (t : List (List ℕ)) → T (low_rows t) → (x y : ℕ) → T (lows (by_signs t x y))
unfolding by_signs lows
by-signs t h x y = go (is_sign x && is_sign y)
  where
    go : (b : Bool) → T (lows (elim b [ true ↦ get_or t (sign_place x y) [] | false ↦ [] ]))
    go true = low-at t h (sign_place x y)
    go false = tt

pub results-low : (c : Code) (o : Operation) (x y : ℕ) → T (lows (results c o x y))
unfolding results sum_signs less_signs equal_results lows low_rows
results-low c operations.Add x y = by-signs sum_signs tt x y
results-low c operations.Less x y = by-signs less_signs tt x y
results-low c operations.Equal x y = go (comparable c x && comparable c y) (eqb x y) (is_many x)
  where
    go : (a b d : Bool)
        → T
        (lows
        (elim a [
          | true ↦ elim b [ true ↦ elim d [ true ↦ truth ∷ falsehood ∷ [] | false ↦ truth ∷ [] ] | false ↦ falsehood ∷ [] ]
          | false ↦ []
        ]))
    go true true true = tt
    go true true false = tt
    go true false d = tt
    go false b d = tt

pub results-lt : (c : Code) (o : Operation) (x y z : ℕ) → Memᴰ z (results c o x y) → z < 7
results-lt c o x y z m = lows-mem (results c o x y) (results-low c o x y) z m

module _ (c : Code) (k : Linked c) where
  -- ---- elements and rows of words of the code

  pub may-C : {i v : ℕ} → i < c.size → v < elements c → T (allowed c (C i) v)
  unfolding owner span
  may-C {i} {v} h l = is-allowed c (C i) v h l

  pub may-B : {i v : ℕ} → i < c.size → v < elements c → T (allowed c (B i) v)
  unfolding owner span
  may-B {i} {v} h l = is-allowed c (B i) v h l

  pub may-P : {i v : ℕ} → i < c.size → v < width → T (allowed c (P i) v)
  unfolding owner span
  may-P {i} {v} h l = is-allowed c (P i) v h l

  pub may-L : {i : ℕ} → i < c.size → T (allowed c (L i) 0)
  unfolding owner span
  may-L {i} h = is-allowed c (L i) 0 h (lit< tt)

  pub CC : {i j : ℕ} → i < c.size → j < c.size → Alike c (C i) (C j)
  unfolding owner span shift
  CC h l = record { from = h; to = l; spans = refl; unshifted-from = refl; unshifted-to = refl }

  pub CB : {i j : ℕ} → i < c.size → j < c.size → Alike c (C i) (B j)
  unfolding owner span shift
  CB h l = record { from = h; to = l; spans = refl; unshifted-from = refl; unshifted-to = refl }

  pub BC : {i j : ℕ} → i < c.size → j < c.size → Alike c (B i) (C j)
  unfolding owner span shift
  BC h l = record { from = h; to = l; spans = refl; unshifted-from = refl; unshifted-to = refl }

  pub BB : {i j : ℕ} → i < c.size → j < c.size → Alike c (B i) (B j)
  unfolding owner span shift
  BB h l = record { from = h; to = l; spans = refl; unshifted-from = refl; unshifted-to = refl }

  pub PP : {i j : ℕ} → i < c.size → j < c.size → Alike c (P i) (P j)
  unfolding owner span shift
  PP h l = record { from = h; to = l; spans = refl; unshifted-from = refl; unshifted-to = refl }

  -- a function's body is a word of the code
  pub body-within : (f : ℕ) → f < c.size → T (is_function (makes (c.node f))) → Within c (suc f) (c.home f) (f ∷ c.scope f)
  unfolding makes leaf_makes one_makes is_function
  body-within f h t = go (c.node f) (k.nodes f h) t
    where
      go-leaf : (l : Leaf) → LeafLinked c f l → T (is_function (leaf_makes l)) → Within c (suc f) (c.home f) (f ∷ c.scope f)
      go-leaf (constant d) n t = absurd t
      go-leaf (number d) n t = absurd t
      go-leaf (literal d) n t = absurd t
      go-leaf (named d) n t = absurd t
      go-leaf (variable d) n t = absurd t
      go-leaf function n t = n
      go-leaf empty n t = absurd t
      go-leaf (exercise d) n t = absurd t

      go-one : (o : One) → T (is_function (one_makes o)) → Within c (suc f) (c.home f) (f ∷ c.scope f)
      go-one cell t = absurd t
      go-one read t = absurd t

      go : (n : Node) → NodeLinked c f n → T (is_function (makes n)) → Within c (suc f) (c.home f) (f ∷ c.scope f)
      go gap l t = absurd t
      go (block n s g) l t = absurd t
      go (leaf d) l t = go-leaf d l t
      go (one o a) l t = go-one o t
      go (two o a b) l t = absurd t
      go (bind a b) l t = absurd t
      go (while a b) l t = absurd t
      go (branch a b d) l t = absurd t
      go (update a b d) l t = absurd t

  pub body-lt : (f : ℕ) → f < c.size → T (is_function (makes (c.node f))) → suc f < c.size
  body-lt f h t = (body-within f h t).inside

  -- ---- the rule of a word; where `omega` finds a bound, any word of the code would do

  module _ (p : ℕ) (h : p < c.size) where
    part-fits : {q : ℕ} → q < c.size → Fits c (part p q)
    part-fits l = (may-L l, PP l h)

    leaf-fits : (l : Leaf) → LeafLinked c p l → Fits c (leaf_rule c p l)
    unfolding leaf_rule
    leaf-fits (constant d) l = may-C h (omega (arith, constant-lt d))
    leaf-fits (number n) l = may-C h (omega (arith, sign-lt n))
    leaf-fits (literal n) l = may-C h (omega arith)
    leaf-fits (named n) l = may-C h (omega arith)
    leaf-fits (variable n) l = BC (k.binders p n h l) h
    leaf-fits function l = may-C h (omega arith)
    leaf-fits empty l = may-C h (omega arith)
    leaf-fits (exercise r) l = λ t. (λ i m d. may-P h (in-below m), may-C h (omega arith))

    one-fits : (o : One) (a : ℕ) → a < c.size → Fits c (one_rule c p o a)
    unfolding one_rule
    one-fits cell a l = (may-C h (omega arith), CB l h)
    one-fits read a l = λ q m t. BC (in-below m) h

    two_fits : (t : Two) (a d : ℕ) → a < c.size → d < c.size → Fits c (two_rule c p t a d)
    unfolding two_rule
    two_fits apply a d l n =
        λ f m t.
        let b : suc f < c.size = body-lt f (in-below m) t in
        (may-L b, (CB n (in-below m), (CC b h, PP (omega arith) (omega arith))))
    two_fits sequence a d l n = CC n h
    two_fits get a d l n =
        ((λ q m t. (BC (in-below m) h, may-C h (omega arith))), λ v m. may-C h (omega (arith, range-bound _ _ v m)))
    two_fits delete a d l n = λ v m t. may-C h (in-below m)
    two_fits assign a d l n = λ q m t. (CC n h, CB n (in-below m))
    two_fits (operation o) a d l n =
        λ x mx y my z mz. let b : z < 7 = results-lt c o x y z mz in may-C h (omega arith)
    two_fits (send r) a d l n = (
      may-C h (omega arith),
      λ b m t.
          let q : b < c.size = (k.listed b m).0 in
          (may-L q, ((λ v i s. may-B q (in-below i)), PP (omega arith) (omega arith))),
    )

    flow-fits : (n : Node) → NodeLinked c p n → Fits c (flow c p n)
    unfolding flow
    flow-fits gap l = tt
    flow-fits (block n s g) l = part-fits l.3.inside
    flow-fits (leaf f) l = leaf-fits f l
    flow-fits (one o a) l = (part-fits l.inside, one-fits o a l.inside)
    flow-fits (two t a d) l = (part-fits l.1.inside, (part-fits l.2.inside, two_fits t a d l.1.inside l.2.inside))
    flow-fits (bind a d) l =
        (part-fits l.0.inside, (part-fits l.1.inside, (CB l.0.inside h, CC l.1.inside h)))
    flow-fits (while a d) l = (part-fits l.0.inside, (PP l.1.inside h, (may-L l.1.inside, may-C h (omega arith))))
    flow-fits (branch a b d) l = (
      part-fits l.0.inside,
      (
        PP l.1.inside h,
        (PP l.2.inside h, (may-L (omega arith), (may-L (omega arith), (CC l.1.inside h, CC l.2.inside h)))),
      ),
    )
    flow-fits (update a b d) l = (
      part-fits l.0.inside,
      (
        part-fits l.1.inside,
        (
          part-fits l.2.inside,
          (
            (may-C h (omega arith), CB l.2.inside h),
            (
              (λ q m t. let i : q < c.size = in-below m in BB (omega arith) (omega arith)),
              λ v m. may-B h (omega (arith, range-bound _ _ v m)),
            ),
          ),
        ),
      ),
    )

    -- what the word q asks of the block p
    two-sender-fits : (q : ℕ) (t : Two) (a d : ℕ) → TwoLinked c q t → Fits c (two_sender c p q t a d)
    unfolding two_sender
    two-sender-fits q apply a d l = tt
    two-sender-fits q sequence a d l = tt
    two-sender-fits q get a d l = tt
    two-sender-fits q delete a d l = tt
    two-sender-fits q assign a d l = tt
    two-sender-fits q (operation o) a d l = tt
    two-sender-fits q (send r) a d l = λ t. may-C h (omega (arith, (k.listed (c.home q) l.1).0))

    pub sender-fits : (q : ℕ) (n : Node) → NodeLinked c q n → Fits c (sender c p q n)
    unfolding sender
    sender-fits q gap l = tt
    sender-fits q (block n s g) l = tt
    sender-fits q (leaf f) l = tt
    sender-fits q (one o a) l = tt
    sender-fits q (two t a d) l = two-sender-fits q t a d l.0
    sender-fits q (bind a d) l = tt
    sender-fits q (while a d) l = tt
    sender-fits q (branch a b d) l = tt
    sender-fits q (update a b d) l = tt

    pub rule_fits : (ρ : ℕ) → Fits c (rule c ρ p)
    unfolding rule entry senders
    rule_fits ρ = (
      (
        (λ t. (may-L h, ((λ v m. may-B h (omega (arith, range-bound _ _ v m))), may-C h (omega arith)))),
        λ t q m. sender-fits q (c.node q) (k.nodes q (in-below m)),
      ),
      flow-fits (c.node p) (k.nodes p h),
    )
