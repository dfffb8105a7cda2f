-- An estimate that obeys the rules of a code, read for the code with another number of names, obeys that code's rules.
use Prim.Native.Nat.{ℕ, ◌+◌, ◌<◌}
use mathlib.Core.Path.{◌≡◌, refl, sym, subst}
use mathlib.Core.Bool.{Bool}
use mathlib.Core.List.Memᴰ
use mathlib.Core.List.{List, [], ◌∷◌, Memᴰ}
use mathlib.Core.Logic.{⊎_elim}
use native.Mathlib.Omega.{arith}
use lib.Dec.{T}
use Rattle.table.specs.declared.Operation.{Operation}
use Rattle.table.specs.Code.{Code, Node, Leaf, One, Two, gap, block, leaf, one, two, bind, while, branch, update, Linked, LeafLinked, NodeLinked}
use Rattle.table.specs.Code.{constant, number, literal, named, variable, function, empty, exercise, cell, read}
use Rattle.table.specs.Code.{apply, sequence, get, delete, assign, operation, send}
use Rattle.widths.specs.Converters.{with_names}
use Rattle.calculus.specs.Elements.{name_element}
use Rattle.calculus.specs.Elements.{plain, made, Making, is_function, is_record, is_cell}
use Rattle.calculus.specs.Constraint.{Row, C, B, P, L, Sets, Rule, Obeys, none, put, sub, given, some, only, each, ◌and◌}
use Rattle.calculus.specs.Rules.{name_of, permissions, is_block, fill, pass, each_made, delivering, part}
use Rattle.calculus.specs.Rules.{leaf_rule, one_rule, two_rule, flow, entry, two_sender, sender, senders, rule, Estimate}
use Rattle.permset.proofs.Digits.{T_and, T-fst, T-snd}
use Rattle.calculus.proofs.Ranges.{below_in, in-below}
use Rattle.calculus.proofs.Makers.{is_block_lem}
use Rattle.calculus.proofs.Fitting.{constant-lt, sign-lt, results-lt}
use Rattle.width_change.specs.Transfer.{all_of, origins_in, transfer}
use Rattle.width_change.proofs.Origins.{only_one, origins-shared, origins-made, Origin, origin, origin-plain, origin-element, Kept, strings-kept}
use Rattle.width_change.proofs.Origins.{sendable-kept, records-kept}
use Rattle.width_change.proofs.Results.{results-given}

all-has : (xs : List ℕ) (q : ℕ → Bool) → T (all_of xs q) → (w : ℕ) → Memᴰ w xs → T (q w)
unfolding all_of
all-has [] q t w m = absurd (Memᴰ.not-nil m)
all-has (x ∷ xs) q t w m =
    ⊎_elim (λ e. subst (λ (y : ℕ). T (q y)) (sym e) (T-fst (q x) (all_of xs q) t)) (λ k. all-has xs q (T-snd (q x) (all_of xs q) t) w k)
    (Memᴰ.cases_cons m)

has_all : (xs : List ℕ) (q : ℕ → Bool) → ((w : ℕ) → Memᴰ w xs → T (q w)) → T (all_of xs q)
unfolding all_of
has_all [] q h = tt
has_all (x ∷ xs) q h = T_and (q x) (all_of xs q) (h x (Memᴰ.head refl)) (has_all xs q (λ w m. h w (Memᴰ.tail m)))

-- a block has one of the names
name-lt : (c : Code) (b : ℕ) (n : Node) → NodeLinked c b n → T (is_block n) → name_of n < c.names
unfolding name_of is_block
name-lt c b gap l t = absurd t
name-lt c b (block n s g) l t = l.0
name-lt c b (leaf x) l t = absurd t
name-lt c b (one o a) l t = absurd t
name-lt c b (two t a x) l u = absurd u
name-lt c b (bind a x) l t = absurd t
name-lt c b (while a x) l t = absurd t
name-lt c b (branch a x y) l t = absurd t
name-lt c b (update a x y) l t = absurd t

module _ (c : Code) (n : ℕ) (k : Linked c) (l : Linked (with_names n c)) (e : Sets) where
  abbrev d : Code
  d = with_names n c

  abbrev f : Sets
  f = transfer c d e

  has-origin : (r : Row) (v : ℕ) → T (f r v) → (w : ℕ) → Memᴰ w (origins_in c d r v) → T (e r w)
  unfolding transfer
  has-origin r v t w m = all-has (origins_in c d r v) (e r) t w m

  is-there : (r : Row) (v : ℕ) → ((w : ℕ) → Memᴰ w (origins_in c d r v) → T (e r w)) → T (f r v)
  unfolding transfer
  is-there r v h = has_all (origins_in c d r v) (e r) h

  -- ---- rows and elements

  -- the element v of r has w alone for its origin
  abbrev Single : Row → ℕ → ℕ → Type 0
  Single r v w = origins_in c d r v ≡ w ∷ []

  single : (r : Row) (v : ℕ) → v < plain c → v < plain d → Single r v v
  unfolding origins_in
  single (C i) v h g = origins-shared c n h g
  single (B i) v h g = origins-shared c n h g
  single (P i) v h g = refl
  single (L i) v h g = refl

  single-made : (i j : ℕ) → Single (C i) (made d j) (made c j)
  unfolding origins_in
  single-made i j = origins-made c n j

  -- rows of one sort
  data Alike : Row → Row → Type 0 where
    CC : {i j : ℕ} → Alike (C i) (C j)
    CB : {i j : ℕ} → Alike (C i) (B j)
    BC : {i j : ℕ} → Alike (B i) (C j)
    BB : {i j : ℕ} → Alike (B i) (B j)
    PP : {i j : ℕ} → Alike (P i) (P j)

  alike : {a b : Row} → Alike a b → (v : ℕ) → origins_in c d b v ≡ origins_in c d a v
  unfolding origins_in
  alike CC v = refl
  alike CB v = refl
  alike BC v = refl
  alike BB v = refl
  alike PP v = refl

  -- ---- one rule for another

  record Carries (j m : Rule) : Type 0 where
    go : Obeys e j → Obeys f m

  nothing : Carries none none
  nothing = record { go = λ o. tt }

  both : {j m j' m' : Rule} → Carries j j' → Carries m m' → Carries (j and m) (j' and m')
  both g h = record { go = λ o. (g.go o.0, h.go o.1) }

  onlys : {t : Bool} {j m : Rule} → (T t → Carries j m) → Carries (only t j) (only t m)
  onlys h = record { go = λ o w. (h w).go (o w) }

  eachs : {xs : List ℕ} {j m : ℕ → Rule} → ((x : ℕ) → Memᴰ x xs → Carries (j x) (m x)) → Carries (each xs j) (each xs m)
  eachs h = record { go = λ o x w. (h x w).go (o x w) }

  puts-by : {r : Row} {v w : ℕ} → Single r v w → Carries (put r w) (put r v)
  puts-by {r} {v} {w} s =
      record { go = λ o. is-there r v (λ x m. subst (λ (y : ℕ). T (e r y)) (sym (only_one (subst (Memᴰ x) s m))) o) }

  givens-by : {r : Row} {v w : ℕ} {j m : Rule} → Single r v w → Carries j m → Carries (given r w j) (given r v m)
  givens-by {r} {v} {w} s h =
      record { go = λ o t. h.go (o (has-origin r v t w (subst (Memᴰ w) (sym s) (Memᴰ.head refl)))) }

  -- of elements that both codes have
  puts : {r : Row} {v : ℕ} → v < plain c → v < plain d → Carries (put r v) (put r v)
  puts {r} {v} h g = puts-by (single r v h g)

  puts_low : {r : Row} {v : ℕ} → v < 32 → Carries (put r v) (put r v)
  puts_low h = puts (omega arith) (omega arith)

  givens-low : {r : Row} {v : ℕ} {j m : Rule} → v < 32 → Carries j m → Carries (given r v j) (given r v m)
  givens-low {r} {v} h = givens-by (single r v (omega arith) (omega arith))

  subs : {a b : Row} → Alike a b → Carries (sub a b) (sub a b)
  subs {a} {b} s = record { go = λ o v t. is-there b v (λ w m. o w (has-origin a v t w (subst (Memᴰ w) (alike s v) m))) }

  somes : {i : ℕ} {q u : ℕ → Bool} {j m : Rule} → Kept c n q u → Carries j m → Carries (some (C i) q j) (some (C i) u m)
  unfolding origins_in
  somes {i} s h =
      record { go = λ o v t w. let x = origin c n v in h.go (o x.0 (s v x.0 x.1 t) (has-origin (C i) v w x.0 x.1)) }

  fills : {r : Row} → Alike (C 0) r → Carries (fill c r) (fill d r)
  unfolding origins_in
  fills {r} s =
      record {
        go = λ o v m. is-there r v (λ w i. o w (below_in (origin-plain c n v w (in-below m) (subst (Memᴰ w) (alike s v) i))));
      }

  passes : {i : ℕ} {r : Row} {q u : ℕ → Bool} → Alike (C i) r → Kept c n q u → Carries (pass c (C i) q r) (pass d (C i) u r)
  unfolding origins_in
  passes {i} {r} s h =
      record {
        go =
            λ o v m t g. is-there r v
            (λ w x.
            let y : Origin c n v w = subst (Memᴰ w) (alike s v) x in
            o w (below_in (origin-element c n v w (in-below m) y)) (h v w y t) (has-origin (C i) v g w y));
      }

  mades : (q : Making → Bool) {i : ℕ} {j m : ℕ → Rule} → ((x : ℕ) → Carries (j x) (m x)) → Carries (each_made c q (C i) j) (each_made d q (C i) m)
  mades q {i = i} h = eachs (λ x w. onlys (λ t. givens-by (single-made i x) (h x)))

  -- ---- the rules

  parts : (p q : ℕ) → Carries (part p q) (part p q)
  parts p q = both (puts_low (omega arith)) (subs PP)

  delivers : (p r a h : ℕ) {j m : Rule} → T (is_block (c.node h)) → h < c.size → Carries j m
      → Carries (delivering c p r a h j) (delivering d p r a h m)
  unfolding permissions
  delivers p r a h t i g =
      let x : name_of (c.node h) < c.names = name-lt c h (c.node h) (k.nodes h i) t in
      let y : name_of (c.node h) < n = name-lt d h (c.node h) (l.nodes h i) t in
      onlys (λ u. givens-by (single (C a) (name_element (name_of (c.node h))) (omega arith) (omega arith)) g)

  module _ (p : ℕ) where
    leaf-carried : (x : Leaf) → LeafLinked c p x → LeafLinked d p x → Carries (leaf_rule c p x) (leaf_rule d p x)
    unfolding leaf_rule permissions
    leaf-carried (constant j) i g = puts_low (omega (arith, constant-lt j))
    leaf-carried (number m) i g = puts_low (omega (arith, sign-lt m))
    leaf-carried (literal m) i g = puts_low (omega arith)
    leaf-carried (named m) i g = puts (omega arith) (omega arith)
    leaf-carried (variable m) i g = subs BC
    leaf-carried function i g = puts-by (single-made p p)
    leaf-carried empty i g = puts-by (single-made p p)
    leaf-carried (exercise r) i g =
        onlys (λ t. both (eachs (λ x m. onlys (λ u. puts_low (let h : x < 24 = in-below m in omega arith)))) (puts_low (omega arith)))

    one-carried : (o : One) (a : ℕ) → Carries (one_rule c p o a) (one_rule d p o a)
    unfolding one_rule
    one-carried cell a = both (puts-by (single-made p p)) (subs CB)
    one-carried read a = mades is_cell (λ q. subs BC)

    operates : (a b : ℕ) (o : Operation) → Carries (two_rule c p (operation o) a b) (two_rule d p (operation o) a b)
    unfolding two_rule origins_in
    operates a b o =
        record {
          go =
              λ j x mx tx y my ty z mz.
              let g = results-given c n o x y z (in-below mx) (in-below my) mz in
              let low : z < 7 = results-lt d o x y z mz in
              (puts_low {r = C p} {v = z} (omega arith)).go
              (j g.left (below_in (origin-plain c n x g.left (in-below mx) g.of_left)) (has-origin (C a) x tx g.left g.of_left)
              g.right (below_in (origin-plain c n y g.right (in-below my) g.of_right))
              (has-origin (C b) y ty g.right g.of_right) z g.gives);
        }

    two-carried : (t : Two) (a b : ℕ) → Carries (two_rule c p t a b) (two_rule d p t a b)
    unfolding two_rule
    two-carried apply a b = mades is_function (λ g. both (puts_low (omega arith)) (both (subs CB) (both (subs CC) (subs PP))))
    two-carried sequence a b = subs CC
    two-carried get a b =
        somes (strings-kept c n)
        (both (mades is_record (λ q. both (subs BC) (puts_low (omega arith)))) (givens-low (omega arith) (fills CC)))
    two-carried delete a b = somes (strings-kept c n) (passes CC (records-kept c n))
    two-carried assign a b = mades is_cell (λ q. both (subs CC) (subs CB))
    two-carried (operation o) a b = operates a b o
    two-carried (send r) a b =
        both (puts_low (omega arith))
        (somes (sendable-kept c n)
        (eachs (λ h m. delivers p r a h (is_block_lem (c.node h) (k.listed h m).1) (k.listed h m).0
        (both (puts_low (omega arith)) (both (passes CB (sendable-kept c n)) (subs PP))))))

    flow-carried : (x : Node) → NodeLinked c p x → NodeLinked d p x → Carries (flow c p x) (flow d p x)
    unfolding flow
    flow-carried gap i j = nothing
    flow-carried (block m s g) i j = parts p (p + 3)
    flow-carried (leaf x) i j = leaf-carried x i j
    flow-carried (one o a) i j = both (parts p a) (one-carried o a)
    flow-carried (two t a b) i j = both (parts p a) (both (parts p b) (two-carried t a b))
    flow-carried (bind a b) i j = both (parts p a) (both (parts p b) (both (subs CB) (subs CC)))
    flow-carried (while a b) i j =
        both (parts p a)
        (both (subs PP)
        (both (givens-low (omega arith) (puts_low (omega arith))) (givens-low (omega arith) (puts_low (omega arith)))))
    flow-carried (branch a b x) i j =
        both (parts p a)
        (both (subs PP)
        (both (subs PP)
        (both (givens-low (omega arith) (puts_low (omega arith)))
        (both (givens-low (omega arith) (puts_low (omega arith))) (both (subs CC) (subs CC))))))
    flow-carried (update a b x) i j =
        both (parts p a)
        (both (parts p b)
        (both (parts p x)
        (somes (strings-kept c n)
        (both (somes (records-kept c n) (both (puts-by (single-made p p)) (subs CB)))
        (both (mades is_record (λ q. subs BB)) (givens-low (omega arith) (fills CB)))))))

    -- the senders of the block p
    module _ (i : p < c.size) (t : T (is_block (c.node p))) where
      two-sender-carried : (q : ℕ) (x : Two) (a b : ℕ) → Carries (two_sender c p q x a b) (two_sender d p q x a b)
      unfolding two_sender
      two-sender-carried q apply a b = nothing
      two-sender-carried q sequence a b = nothing
      two-sender-carried q get a b = nothing
      two-sender-carried q delete a b = nothing
      two-sender-carried q assign a b = nothing
      two-sender-carried q (operation o) a b = nothing
      two-sender-carried q (send r) a b =
          givens-low (omega arith) (somes (sendable-kept c n) (delivers q r a p t i (puts-by (single-made p (c.home q)))))

      sender-carried : (q : ℕ) (x : Node) → Carries (sender c p q x) (sender d p q x)
      unfolding sender
      sender-carried q gap = nothing
      sender-carried q (block m s g) = nothing
      sender-carried q (leaf x) = nothing
      sender-carried q (one o a) = nothing
      sender-carried q (two x a b) = two-sender-carried q x a b
      sender-carried q (bind a b) = nothing
      sender-carried q (while a b) = nothing
      sender-carried q (branch a b x) = nothing
      sender-carried q (update a b x) = nothing

    rule-carried : (ρ : ℕ) → p < c.size → Carries (rule c ρ p) (rule d ρ p)
    unfolding rule entry senders
    rule-carried ρ i =
        both
        (both
        (onlys (λ t. both (puts_low (omega arith)) (both (fills CB) (puts_low (omega arith)))))
        (onlys (λ t. eachs (λ q m. sender-carried i t q (c.node q)))))
        (givens-low (omega arith) (flow-carried (c.node p) (k.nodes p i) (l.nodes p i)))

  pub transferred : (ρ : ℕ) → Estimate c ρ e → Estimate d ρ (transfer c d e)
  transferred ρ o p i = (rule-carried p ρ i).go (o p i)

  pub same-permissions : (b x : ℕ) → T (transfer c d e (P b) x) → T (e (P b) x)
  unfolding origins_in
  same-permissions b x t = has-origin (P b) x t x (Memᴰ.head refl)
