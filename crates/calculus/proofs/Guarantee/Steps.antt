-- Every step of a good instance is good: one lemma for each kind of step, by cases on the node of the word.
use Prim.Native.Nat.{ℕ, suc}
use mathlib.Core.Path.{◌≡◌, refl, sym, subst}
use mathlib.Core.Logic.{inr}
use mathlib.Core.Bool.{Bool, true, false}
use mathlib.Core.Option.{Option, none, some}
use mathlib.Core.List.{List, [], ◌∷◌, ◌++◌}
use lib.ListN.{get_or, get_elem?}
use lib.Dec.{T, lt→ltb}
use Rattle.permset.specs.Sets.{width, within}
use Rattle.table.specs.declared.Constant.TheVariants as constants
use Rattle.table.specs.declared.Operation.{Operation}
use Rattle.table.specs.Words.{constant_number}
use Rattle.table.specs.Code.{Code, Node, Leaf, One, Two, Within, Linked, NodeLinked, LeafLinked}
use Rattle.calculus.specs.Constraint.{C, B, P, L, Sets, Obeys}
use Rattle.calculus.specs.Elements as E
use Rattle.calculus.specs.Elements.{constant_element, is_function, is_record, is_cell, leaf_makes, one_makes, makes}
use Rattle.calculus.specs.Rules.{Estimate, flow, perms_of, permissions, leaf_rule, one_rule, two_rule, part}
use Rattle.calculus.specs.Values.{constant, number, text, named, known}
use Rattle.calculus.specs.Values.{Value, atom, function, fields, cell, Environment, bound, Fields, empty}
use Rattle.calculus.specs.Values.{undefined, unit, whole, look, get_field, set_field, delete_field, operate}
use Rattle.calculus.specs.Values.{on_atom, on_function, on_fields, on_cell, on_text, on_name, on_truth}
use Rattle.calculus.specs.Machine.{Control, eval, give, stopped, Frame, first, second, third, again, Effect, Move, stop, begin, yield, found}
use Rattle.calculus.specs.Machine.{leaf_step, term_step, one_step, choose, first_step, with_field, two_step, second_step, frame_step, step}
use Rattle.calculus.proofs.Digits.{member-lt}
use Rattle.calculus.proofs.Ranges.{below_in}
use Rattle.calculus.proofs.Guarantee.Relation.{Sub, text_element, element, part_of, In}
use Rattle.calculus.proofs.Guarantee.Relation.{Found, Cells, Runs, Wait, Good, GoodMove}
use Rattle.calculus.proofs.Guarantee.Values.{mono, weaken, below}
use Rattle.calculus.proofs.Guarantee.Values.{look_in, read-in, write-in, append-in, last-at, weaken-cells}
use Rattle.calculus.proofs.Guarantee.Operations.{operate-in}
use Rattle.calculus.proofs.Guarantee.Elements.{whole-sign, text-literal}
use Rattle.calculus.proofs.Guarantee.Records.{get-good, delete-good, set-good}
use Rattle.calculus.proofs.Guarantee.Words.{sent-good, wait-mono, part-sub, wait-more, enter, part-runs, flows}

module _ (c : Code) (linked : Linked c) (ρ : ℕ) (e : Sets) (est : Estimate c ρ e) (h : ℕ) where
  -- the instance's permissions
  abbrev held : ℕ
  held = perms_of (c.node h)

  abbrev Fine : Move → Type 0
  Fine m = GoodMove c ρ e h m

  stop-good : Fine stop
  stop-good = (tt, ([], tt, tt))

  -- what an instance has when it steps: cells that were made at ty, and frames
  module _ (ty : List ℕ) (cs : List Value) (cells : Cells c e h ty cs ty) (fs : List Frame) where
    abbrev Has : Value → (ℕ → Bool) → Type 0
    Has v S = In c e h ty v S

    abbrev Waits : List Frame → (ℕ → Bool) → Type 0
    Waits gs S = Wait c ρ e h ty gs S

    more : (v : Value) (S U : ℕ → Bool) → Sub S U → Has v S → Has v U
    more v S U s i = mono c e h ty v S U s i

    yield-good : (v : Value) (S : ℕ → Bool) → Has v S → Waits fs S → Fine (yield v fs cs)
    yield-good v S i w = (tt, (ty, cells, (S, i, w)))

    begin-good : (q : ℕ) (us : Environment) (gs : List Frame) → Runs c ρ e h ty q us → Waits gs (e (C q)) → Fine (begin q us gs cs)
    begin-good q us gs r w = (tt, (ty, cells, (r, w)))

    found-good : (o : Option Value) (S U : ℕ → Bool) → Sub S U → Found c e h ty o S → Waits fs U → Fine (found o fs cs)
    unfolding found
    found-good none S U s i w = stop-good
    found-good (some v) S U s i w = yield-good v U (more v S U s i) w

    choose-good : (v : Value) (S : ℕ → Bool) (l r : Move) → Has v S → (T (S E.truth) → Fine l) → (T (S E.falsehood) → Fine r)
        → Fine (choose v l r)
    unfolding choose on_atom on_truth constant_element constant_number
    choose-good (atom (constant constants.Undefined)) S l r i f g = stop-good
    choose-good (atom (constant constants.Unit)) S l r i f g = stop-good
    choose-good (atom (constant constants.True)) S l r i f g = f i.1
    choose-good (atom (constant constants.False)) S l r i f g = g i.1
    choose-good (atom (number z)) S l r i f g = stop-good
    choose-good (atom (text n)) S l r i f g = stop-good
    choose-good (atom (named n)) S l r i f g = stop-good
    choose-good (function p vs) S l r i f g = stop-good
    choose-good (fields r') S l r i f g = stop-good
    choose-good (cell j) S l r i f g = stop-good

    field-good : (v w : Value) (S U : ℕ → Bool) (m : Fields → ℕ → Move) → Has v S → Has w U
        → ((r : Fields) (k : ℕ) → Has (fields r) S → T (U (text_element k)) → Fine (m r k))
        → Fine (with_field v w m)
    unfolding with_field on_fields on_atom on_text
    field-good (atom a) w S U m i j f = stop-good
    field-good (function p vs) w S U m i j f = stop-good
    field-good (cell k) w S U m i j f = stop-good
    field-good (fields r) (atom (constant k)) S U m i j f = stop-good
    field-good (fields r) (atom (number z)) S U m i j f = stop-good
    field-good (fields r) (atom (text n)) S U m i j f = f r n i j.1
    field-good (fields r) (atom (named n)) S U m i j f = stop-good
    field-good (fields r) (function p vs) S U m i j f = stop-good
    field-good (fields r) (fields r') S U m i j f = stop-good
    field-good (fields r) (cell k) S U m i j f = stop-good

    -- the term at p, which runs under vs, and what the frames below wait for
    module _ (p : ℕ) (vs : Environment) (runs : Runs c ρ e h ty p vs) (waits : Waits fs (e (C p))) where
      at-node : (f : Node → Bool) (n : Node) → c.node p ≡ n → T (f n) → T (f (c.node p))
      at-node f n q t = subst (λ (m : Node). T (f m)) (sym q) t

      -- a value of the part k of the node n is one of the same part at p
      part_at : (k : ℕ) (n : Node) → c.node p ≡ n → Sub (e (C (part_of n k))) (e (C (part_of (c.node p) k)))
      part_at k n q = part-sub c ρ e h ty p k n q

      part_in : (k : ℕ) (n : Node) (v : Value) → c.node p ≡ n → Has v (e (C (part_of n k))) → Has v (e (C (part_of (c.node p) k)))
      part_in k n v q i = more v (e (C (part_of n k))) (e (C (part_of (c.node p) k))) (part_at k n q) i

      -- a part of p runs, and what waits for p waits for a word whose values are p's
      runs-part : (q : ℕ) → Within c q (c.home p) (c.scope p) → T (e (L q) 0) → Sub (e (P q)) (e (P p)) → Runs c ρ e h ty q vs
      runs-part q w l s = part-runs c ρ e h ty p q vs runs w l s

      waits-for : (q : ℕ) → Sub (e (C q)) (e (C p)) → Waits fs (e (C q))
      waits-for q s = wait-mono c ρ e h ty fs (e (C q)) (e (C p)) s waits

      -- ---- terms with no part that runs

      leaf-good : (l : Leaf) → c.node p ≡ Node.leaf l → LeafLinked c p l → Obeys e (leaf_rule c p l) → Fine (leaf_step held p vs l fs cs)
      unfolding leaf_step leaf_rule known constant_element constant_number permissions is_record makes leaf_makes
      leaf-good (Leaf.constant k) q l o = yield-good (atom (constant k)) (e (C p)) (tt, o) waits
      leaf-good (Leaf.number n) q l o =
          yield-good (atom (number (whole n))) (e (C p)) (tt, subst (λ (x : ℕ). T (e (C p) x)) (sym (whole-sign n l)) o) waits
      leaf-good (Leaf.literal n) q l o =
          yield-good (atom (text n)) (e (C p)) (tt, subst (λ (x : ℕ). T (e (C p) x)) (sym (text-literal n l)) o) waits
      leaf-good (Leaf.named n) q l o = yield-good (atom (named n)) (e (C p)) (lt→ltb n c.names l, o) waits
      leaf-good (Leaf.variable n) q l o =
          found-good (look vs n) (e (B (get_or (c.scope p) n 0))) (e (C p)) o (look_in c e h ty vs (c.scope p) n runs.binders) waits
      leaf-good Leaf.function q l o =
          yield-good (function p vs) (e (C p)) (runs.inside, q, runs.home, o, runs.binders) waits
      leaf-good Leaf.empty q l o =
          yield-good (fields empty) (e (C p)) (inr (p, (runs.inside, at-node (λ n. is_record (makes n)) (Node.leaf Leaf.empty) q tt), o, tt)) waits
      leaf-good (Leaf.exercise r) q l o = go (within r held) refl
        where
          -- the permissions of the word's block are the instance's
          owned : within r held ≡ true → T (within r (permissions c p))
          owned t = subst (λ (b : ℕ). T (within r (perms_of (c.node b)))) (sym runs.home) (subst T (sym t) tt)

          go : (t : Bool) → within r held ≡ t → Fine (elim t [ true ↦ Move.go (Effect.exercises r) (give unit) fs cs | false ↦ stop ])
          go true t = (
            λ x m. runs.leaks x ((o (owned t)).0 x (below_in (member-lt width r x l m)) m),
            (ty, cells, (e (C p), (tt, (o (owned t)).1), waits)),
          )
          go false t = stop-good

      -- ---- parts that run

      first-begins : (n : Node) → c.node p ≡ n → Within c (part_of n 0) (c.home p) (c.scope p) → Obeys e (part p (part_of n 0))
          → Fine (begin (part_of n 0) vs (first p vs ∷ fs) cs)
      first-begins n q w o =
          begin-good (part_of n 0) vs (first p vs ∷ fs) (runs-part (part_of n 0) w o.0 o.1) (runs, part_at 0 n q, waits)

      second-begins : (n : Node) (v : Value) → c.node p ≡ n → Within c (part_of n 1) (c.home p) (c.scope p) → Obeys e (part p (part_of n 1))
          → Has v (e (C (part_of n 0)))
          → Fine (begin (part_of n 1) vs (second p vs v ∷ fs) cs)
      second-begins n v q w o i =
          begin-good (part_of n 1) vs (second p vs v ∷ fs) (runs-part (part_of n 1) w o.0 o.1) (runs, part_in 0 n v q i, part_at 1 n q, waits)

      term-good : (n : Node) → c.node p ≡ n → NodeLinked c p n → Obeys e (flow c p n) → Fine (term_step held p vs n fs cs)
      unfolding term_step flow
      term-good Node.gap q l o = stop-good
      term-good (Node.block n s g) q l o = stop-good
      term-good (Node.leaf k) q l o = leaf-good k q l o
      term-good (Node.one k a) q l o = first-begins (Node.one k a) q l o.0
      term-good (Node.two k a b) q l o = first-begins (Node.two k a b) q l.1 o.0
      term-good (Node.bind a b) q l o = first-begins (Node.bind a b) q l.0 o.0
      term-good (Node.while a b) q l o = first-begins (Node.while a b) q l.0 o.0
      term-good (Node.branch a b d) q l o = first-begins (Node.branch a b d) q l.0 o.0
      term-good (Node.update a b d) q l o = first-begins (Node.update a b d) q l.0 o.0

      -- ---- after the first part

      one-good : (k : One) (a : ℕ) (v : Value) → c.node p ≡ Node.one k a → Obeys e (one_rule c p k a) → Has v (e (C a))
          → Fine (one_step k v fs cs)
      unfolding one_step one_rule on_cell is_cell makes one_makes
      one-good One.cell a v q o i = (
        tt,
        (
          ty ++ (p ∷ []),
          append-in c e h (ty ++ (p ∷ [])) cs ty v p
              (weaken c e h ty (p ∷ []) v (e (B p)) (more v (e (C a)) (e (B p)) o.1 i))
              (weaken-cells c e h ty (p ∷ []) cs ty cells),
          (
            e (C p),
            (p, (runs.inside, at-node (λ n. is_cell (makes n)) (Node.one One.cell a) q tt), o.0, last-at c e h ty cs ty p cells),
            wait-more c ρ e h ty p fs (e (C p)) waits,
          ),
        ),
      )
      one-good One.read a (atom b) q o i = stop-good
      one-good One.read a (function f us) q o i = stop-good
      one-good One.read a (fields r) q o i = stop-good
      one-good One.read a (cell j) q o i =
          found-good (get_elem? cs j) (e (B i.0)) (e (C p)) (o i.0 (below_in i.1.0) i.1.1 i.2)
          (read-in c e h ty cs ty j i.0 i.3 cells)
          waits

      first_good : (n : Node) (v : Value) → c.node p ≡ n → NodeLinked c p n → Obeys e (flow c p n) → Has v (e (C (part_of n 0)))
          → Fine (first_step p vs n v fs cs)
      unfolding first_step flow known constant_element constant_number
      first_good Node.gap v q l o i = stop-good
      first_good (Node.block n s g) v q l o i = stop-good
      first_good (Node.leaf k) v q l o i = stop-good
      first_good (Node.one k a) v q l o i = one-good k a v q o.1 i
      first_good (Node.two k a b) v q l o i = second-begins (Node.two k a b) v q l.2 o.1.0 i
      first_good (Node.bind a b) v q l o i =
          begin-good b (bound v vs) fs
          (enter c ρ e h ty b (c.home p) (p ∷ c.scope p) (bound v vs) l.1 runs.home o.1.0.0
          (λ x t. runs.leaks x (o.1.0.1 x t))
          (more v (e (C a)) (e (B p)) o.1.1.0 i, runs.binders))
          (waits-for b o.1.1.1)
      first_good (Node.while a b) v q l o i =
          choose-good v (e (C a)) (begin b vs (again p vs ∷ fs) cs) (yield undefined fs cs) i
          (λ t. begin-good b vs (again p vs ∷ fs) (runs-part b l.1 (o.1.1.0 t) o.1.0) (runs, waits))
          (λ t. yield-good undefined (e (C p)) (tt, o.1.1.1 t) waits)
      first_good (Node.branch a b d) v q l o i =
          choose-good v (e (C a)) (begin b vs fs cs) (begin d vs fs cs) i
          (λ t. begin-good b vs fs (runs-part b l.1 (o.1.1.1.0 t) o.1.0) (waits-for b o.1.1.1.1.1.0))
          (λ t. begin-good d vs fs (runs-part d l.2 (o.1.1.1.1.0 t) o.1.1.0) (waits-for d o.1.1.1.1.1.1))
      first_good (Node.update a b d) v q l o i = second-begins (Node.update a b d) v q l.1 o.1.0 i

      -- ---- after the second part

      apply-good : (a d : ℕ) (v w : Value) → Obeys e (two_rule c p Two.apply a d) → Has v (e (C a)) → Has w (e (C d))
          → Fine (two_step Two.apply v w fs cs)
      unfolding two_step two_rule on_function is_function makes leaf_makes
      apply-good a d (atom b) w o i j = stop-good
      apply-good a d (fields r) w o i j = stop-good
      apply-good a d (cell k) w o i j = stop-good
      apply-good a d (function f us) w o i j =
          let g = o f (below_in i.0) (subst (λ (n : Node). T (is_function (makes n))) (sym i.1) tt) i.3 in
          begin-good (suc f) (bound w us) fs
          (enter c ρ e h ty (suc f) (c.home f) (f ∷ c.scope f) (bound w us)
          (subst (λ (n : Node). NodeLinked c f n) i.1 (linked.nodes f i.0))
          i.2
          g.0
          (λ x t. runs.leaks x (g.1.1.1 x t))
          (more w (e (C d)) (e (B f)) g.1.0 j, i.4))
          (waits-for (suc f) g.1.1.0)

      assign-good : (a d : ℕ) (v w : Value) → Obeys e (two_rule c p Two.assign a d) → Has v (e (C a)) → Has w (e (C d))
          → Fine (two_step Two.assign v w fs cs)
      unfolding two_step two_rule on_cell
      assign-good a d (atom b) w o i j = stop-good
      assign-good a d (function f us) w o i j = stop-good
      assign-good a d (fields r) w o i j = stop-good
      assign-good a d (cell k) w o i j =
          let g = o i.0 (below_in i.1.0) i.1.1 i.2 in (
            tt,
            (
              ty,
              write-in c e h ty cs ty k i.0 w i.3 (more w (e (C d)) (e (B i.0)) g.1 j) cells,
              (e (C p), more w (e (C d)) (e (C p)) g.0 j, waits),
            ),
          )

      operation-good : (f : Operation) (a d : ℕ) (v w : Value) → Obeys e (two_rule c p (Two.operation f) a d) → Has v (e (C a))
          → Has w (e (C d))
          → Fine (two_step (Two.operation f) v w fs cs)
      unfolding two_step two_rule on_atom
      operation-good f a d (function g us) w o i j = stop-good
      operation-good f a d (fields r) w o i j = stop-good
      operation-good f a d (cell k) w o i j = stop-good
      operation-good f a d (atom x) (function g us) o i j = stop-good
      operation-good f a d (atom x) (fields r) o i j = stop-good
      operation-good f a d (atom x) (cell k) o i j = stop-good
      operation-good f a d (atom x) (atom y) o i j =
          found-good (operate f x y) (e (C p)) (e (C p)) (λ z t. t)
          (operate-in c e h ty (e (C p)) f x y i.0 j.0
          (o (element x) (below_in (below c x i.0)) i.1 (element y)
          (below_in (below c y j.0))
          j.1))
          waits

      send-good : (r a d : ℕ) (v w : Value) → Obeys e (two_rule c p (Two.send r) a d) → Has v (e (C a)) → Has w (e (C d))
          → Fine (two_step (Two.send r) v w fs cs)
      unfolding two_step two_rule on_atom on_name known constant_element constant_number
      send-good r a d (function g us) w o i j = stop-good
      send-good r a d (fields f) w o i j = stop-good
      send-good r a d (cell k) w o i j = stop-good
      send-good r a d (atom (constant k)) w o i j = stop-good
      send-good r a d (atom (number z)) w o i j = stop-good
      send-good r a d (atom (text n)) w o i j = stop-good
      send-good r a d (atom (named n)) w o i j =
          (λ b k t. sent-good c linked ρ e est h ty p r a d n b w runs.home runs.leaks o i.1 j k t, (ty, cells, (e (C p), (tt, o.0), waits)))

      two_good : (t : Two) (a d : ℕ) (v w : Value) → Obeys e (two_rule c p t a d) → Has v (e (C a)) → Has w (e (C d))
          → Fine (two_step t v w fs cs)
      unfolding two_step two_rule
      two_good Two.apply a d v w o i j = apply-good a d v w o i j
      two_good Two.assign a d v w o i j = assign-good a d v w o i j
      two_good (Two.operation f) a d v w o i j = operation-good f a d v w o i j
      two_good (Two.send r) a d v w o i j = send-good r a d v w o i j
      two_good Two.sequence a d v w o i j = yield-good w (e (C p)) (more w (e (C d)) (e (C p)) o j) waits
      two_good Two.get a d v w o i j =
          field-good v w (e (C a)) (e (C d)) (λ r k. yield (get_field r k) fs cs) i j
          (λ r k x t. yield-good (get_field r k) (e (C p)) (get-good c e h ty p a d k r o x t) waits)
      two_good Two.delete a d v w o i j =
          field-good v w (e (C a)) (e (C d)) (λ r k. yield (fields (delete_field r k)) fs cs) i j
          (λ r k x t. yield-good (fields (delete_field r k)) (e (C p)) (delete-good c e h ty p a d k r o x t) waits)

      second-good : (n : Node) (v w : Value) → c.node p ≡ n → NodeLinked c p n → Obeys e (flow c p n)
          → Has v (e (C (part_of n 0)))
          → Has w (e (C (part_of n 1)))
          → Fine (second_step p vs n v w fs cs)
      unfolding second_step flow
      second-good Node.gap v w q l o i j = stop-good
      second-good (Node.block n s g) v w q l o i j = stop-good
      second-good (Node.leaf k) v w q l o i j = stop-good
      second-good (Node.one k a) v w q l o i j = stop-good
      second-good (Node.two t a d) v w q l o i j = two_good t a d v w o.1.1 i j
      second-good (Node.bind a d) v w q l o i j = stop-good
      second-good (Node.while a d) v w q l o i j = stop-good
      second-good (Node.branch a b d) v w q l o i j = stop-good
      second-good (Node.update a b d) v w q l o i j =
          begin-good d vs (third p vs v w ∷ fs) (runs-part d l.2 o.1.1.0.0 o.1.1.0.1) (runs, (a, b, d, q, i, j, λ x t. t), waits)

      -- ---- after the third part

      third-good : (a b d : ℕ) (v w u : Value) → c.node p ≡ Node.update a b d → Obeys e (flow c p (Node.update a b d))
          → Has v (e (C a))
          → Has w (e (C b))
          → Has u (e (C d))
          → Fine (with_field v w (λ r k. yield (fields (set_field r k u)) fs cs))
      third-good a b d v w u q o i j m =
          field-good v w (e (C a)) (e (C b)) (λ r k. yield (fields (set_field r k u)) fs cs) i j
          (λ r k x t. yield-good (fields (set_field r k u)) (e (C p)) (set-good c e h ty p a b d k r u runs.inside q o x t m) waits)

  -- ---- every step

  -- what the rules say at a running word
  flow-at : (ty : List ℕ) (p : ℕ) (vs : Environment) → Runs c ρ e h ty p vs → Obeys e (flow c p (c.node p))
  flow-at ty p vs r = flows c linked ρ e est p r.inside r.live

  frame-good : (ty : List ℕ) (cs : List Value) (f : Frame) (fs : List Frame) (v : Value) (S : ℕ → Bool) → Cells c e h ty cs ty
      → In c e h ty v S
      → Wait c ρ e h ty (f ∷ fs) S
      → Fine (frame_step c f v fs cs)
  unfolding frame_step
  frame-good ty cs (first p vs) fs v S k i w =
      first_good ty cs k fs p vs w.0 w.2 (c.node p) v refl (linked.nodes p w.0.inside) (flow-at ty p vs w.0)
      (mono c e h ty v S (e (C (part_of (c.node p) 0))) w.1 i)
  frame-good ty cs (second p vs u) fs v S k i w =
      second-good ty cs k fs p vs w.0 w.3 (c.node p) u v refl (linked.nodes p w.0.inside) (flow-at ty p vs w.0) w.1
      (mono c e h ty v S (e (C (part_of (c.node p) 1))) w.2 i)
  frame-good ty cs (third p vs u t) fs v S k i w =
      let d = w.1 in
      third-good ty cs k fs p vs w.0 w.2 d.0 d.1 d.2 u t v d.3
      (subst (λ (n : Node). Obeys e (flow c p n)) d.3 (flow-at ty p vs w.0))
      d.4
      d.5
      (mono c e h ty v S (e (C d.2)) d.6 i)
  frame-good ty cs (again p vs) fs v S k i w = (tt, (ty, k, w))

  pub step-good : (k : Control) (fs : List Frame) (cs : List Value) → Good c ρ e h k fs cs → Fine (step c held k fs cs)
  unfolding step
  step-good (eval p vs) fs cs g =
      let r = g.2.0 in
      term-good g.0 cs g.1 fs p vs r g.2.1 (c.node p) refl (linked.nodes p r.inside) (flow-at g.0 p vs r)
  step-good (give v) [] cs g = tt
  step-good (give v) (f ∷ fs) cs g = frame-good g.0 cs f fs v g.2.0 g.1 g.2.1 g.2.2
  step-good stopped fs cs g = tt
