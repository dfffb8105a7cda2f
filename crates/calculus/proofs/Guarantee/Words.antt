-- What the rules give at a live word: its parts may run, more values may be waited for, and a handler may start.
use Prim.Native.Nat.{ℕ, ◌<◌, ◌≤◌, ◌+◌}
use mathlib.Core.Path.{◌≡◌, refl, sym, subst, ◌∙◌}
use mathlib.Core.Bool.{Bool, true, false, not}
use mathlib.Core.List.{List, [], ◌∷◌, ◌++◌, Memᴰ}
use lib.Dec.{T, ltb, ltb→lt, nltb→le}
use Rattle.table.specs.Code.{Code, Node, Two, Within, Linked, NodeLinked}
use Rattle.delivery.specs.Delivery.{delivered}
use Rattle.calculus.specs.Constraint.{C, B, P, L, Sets, Obeys}
use Rattle.calculus.specs.Elements.{name_element}
use Rattle.calculus.specs.Rules.{Estimate, rule, entry, flow, two_rule, name_of, perms_of, permissions, guarded, delivery_to}
use Rattle.calculus.specs.Values.{Value, Environment, closed, bound, plain, sent_as, datum}
use Rattle.calculus.specs.Machine.{Frame, first, second, third, again}
use Rattle.calculus.proofs.Ranges.{below_in}
use Rattle.calculus.proofs.Deliveries.{delivered-parts}
use Rattle.calculus.proofs.Guarantee.Relation.{Sub, part_of, In, Bound, Leaks, Runs, Wait, Starts}
use Rattle.calculus.proofs.Guarantee.Values.{moved, datum-in, weaken, weaken-bound}
use Rattle.calculus.proofs.Guarantee.Messages.{sent-in}
use Rattle.calculus.proofs.Guarantee.Elements.{stands}

-- ---- the frames

module _ (c : Code) (ρ : ℕ) (e : Sets) (h : ℕ) (ty : List ℕ) where
  pub wait-mono : (fs : List Frame) (S U : ℕ → Bool) → Sub S U → Wait c ρ e h ty fs U → Wait c ρ e h ty fs S
  wait-mono [] S U s w = tt
  wait-mono (first p vs ∷ fs) S U s w = (w.0, λ x t. w.1 x (s x t), w.2)
  wait-mono (second p vs v ∷ fs) S U s w = (w.0, w.1, λ x t. w.2 x (s x t), w.3)
  wait-mono (third p vs u v ∷ fs) S U s w =
      let k = w.1 in (w.0, (k.0, k.1, k.2, k.3, k.4, k.5, λ x t. k.6 x (s x t)), w.2)
  wait-mono (again p vs ∷ fs) S U s w = w

  -- a part of the word p by its number, where n stands at p
  pub part-sub : (p k : ℕ) (n : Node) → c.node p ≡ n → Sub (e (C (part_of n k))) (e (C (part_of (c.node p) k)))
  part-sub p k n q = subst (λ (m : Node). Sub (e (C (part_of n k))) (e (C (part_of m k)))) (sym q) (λ x t. t)

  -- one cell more
  pub runs-more : (q m : ℕ) (vs : Environment) → Runs c ρ e h ty q vs → Runs c ρ e h (ty ++ (m ∷ [])) q vs
  runs-more q m vs r =
      record {
        inside = r.inside;
        home = r.home;
        live = r.live;
        leaks = r.leaks;
        binders = weaken-bound c e h ty (m ∷ []) vs (c.scope q) r.binders;
      }

  pub wait-more : (m : ℕ) (fs : List Frame) (S : ℕ → Bool) → Wait c ρ e h ty fs S → Wait c ρ e h (ty ++ (m ∷ [])) fs S
  wait-more m [] S w = tt
  wait-more m (first p vs ∷ fs) S w = (runs-more p m vs w.0, w.1, wait-more m fs (e (C p)) w.2)
  wait-more m (second p vs v ∷ fs) S w =
      (runs-more p m vs w.0, weaken c e h ty (m ∷ []) v (e (C (part_of (c.node p) 0))) w.1, w.2, wait-more m fs (e (C p)) w.3)
  wait-more m (third p vs u v ∷ fs) S w =
      let k = w.1 in (
        runs-more p m vs w.0,
        (k.0, k.1, k.2, k.3, weaken c e h ty (m ∷ []) u (e (C k.0)) k.4, weaken c e h ty (m ∷ []) v (e (C k.1)) k.5, k.6),
        wait-more m fs (e (C p)) w.2,
      )
  wait-more m (again p vs ∷ fs) S w = (runs-more p m vs w.0, wait-more m fs (e (C p)) w.1)

  -- a word under the binders s may run
  pub enter : (q g : ℕ) (s : List ℕ) (vs : Environment) → Within c q g s → g ≡ h → T (e (L q) 0) → Leaks c ρ e q
      → Bound c e h ty vs s
      → Runs c ρ e h ty q vs
  enter q g s vs w k l m b =
      record {
        inside = w.inside;
        home = w.home ∙ k;
        live = l;
        leaks = m;
        binders = subst (Bound c e h ty vs) (sym w.scope) b;
      }

  -- a part of the running word p
  pub part-runs : (p q : ℕ) (vs : Environment) → Runs c ρ e h ty p vs → Within c q (c.home p) (c.scope p) → T (e (L q) 0)
      → Sub (e (P q)) (e (P p))
      → Runs c ρ e h ty q vs
  part-runs p q vs r w l s = enter q (c.home p) (c.scope p) vs w r.home l (λ x t. r.leaks x (s x t)) r.binders

-- ---- handlers

module _ (c : Code) (linked : Linked c) (ρ : ℕ) (e : Sets) (est : Estimate c ρ e) where
  pub flows : (p : ℕ) → p < c.size → T (e (L p) 0) → Obeys e (flow c p (c.node p))
  unfolding rule
  flows p i l = (est p i).1 l

  -- only a block has a guard
  pub guard-inside : (b s : ℕ) → T (guarded (c.node b) s) → b < c.size
  unfolding guarded
  guard-inside b s g = go (ltb b c.size) (ltb→lt b c.size) (nltb→le b c.size)
    where
      go : (t : Bool) → (T t → b < c.size) → (T (not t) → c.size ≤ b) → b < c.size
      go true f k = f tt
      go false f k = absurd (subst (λ (n : Node). T (guarded n s)) (linked.outside b (k tt)) g)

  pub block_listed : (b s : ℕ) → T (guarded (c.node b) s) → Memᴰ b c.blocks
  unfolding guarded
  block_listed b s g = go (c.node b) g (linked.nodes b (guard-inside b s g))
    where
      go : (n : Node) → T (guarded n s) → NodeLinked c b n → Memᴰ b c.blocks
      go Node.gap t l = absurd t
      go (Node.block n u k) t l = l.4
      go (Node.leaf k) t l = absurd t
      go (Node.one o a) t l = absurd t
      go (Node.two o a d) t l = absurd t
      go (Node.bind a d) t l = absurd t
      go (Node.while a d) t l = absurd t
      go (Node.branch a d k) t l = absurd t
      go (Node.update a d k) t l = absurd t

  -- a live block, whose permissions are in the leak, may start on a message that it holds
  pub start-good : (b s : ℕ) (v : Value) → T (guarded (c.node b) s) → T (e (L b) 0) → Leaks c ρ e b → In c e b [] v (e (B b))
      → Starts c ρ e b v
  unfolding guarded flow
  start-good b s v g l m i = go (c.node b) g (linked.nodes b (guard-inside b s g)) (flows b (guard-inside b s g) l)
    where
      go : (n : Node) → T (guarded n s) → NodeLinked c b n → Obeys e (flow c b n) → Starts c ρ e b v
      go Node.gap t k o = absurd t
      go (Node.block n u z) t k o =
          let r = enter c ρ e b [] (b + 3) b (b ∷ []) (bound v closed) k.3 refl o.0 (λ x p. m x (o.1 x p)) (i, tt) in
          (b, refl, ([], tt, (r, tt)))
      go (Node.leaf z) t k o = absurd t
      go (Node.one z a) t k o = absurd t
      go (Node.two z a d) t k o = absurd t
      go (Node.bind a d) t k o = absurd t
      go (Node.while a d) t k o = absurd t
      go (Node.branch a d z) t k o = absurd t
      go (Node.update a d z) t k o = absurd t

  -- the opponent's start
  pub opponent-good : (b : ℕ) (v : Value) → T (guarded (c.node b) ρ) → T (datum v c.names) → Starts c ρ e b v
  unfolding rule entry
  opponent-good b v g d =
      let o = (est b (guard-inside b ρ g)).0.0 g in
      start-good b ρ v g o.0 (λ x t. (b, block_listed b ρ g, g, t))
      (datum-in c e b [] (e (B b)) (λ x l. o.1.0 x (below_in l)) v d)

  -- A handler that the send at the word p of the block h may start is live and holds the message.
  pub sent-good : (h : ℕ) (ty : List ℕ) (p r a d n b : ℕ) (v : Value) → c.home p ≡ h → Leaks c ρ e p
      → Obeys e (two_rule c p (Two.send r) a d)
      → T (e (C a) (name_element n))
      → In c e h ty v (e (C d))
      → T (plain (sent_as v))
      → T (delivered (delivery_to n r (perms_of (c.node h)) (c.node b)))
      → Starts c ρ e b (sent_as v)
  unfolding two_rule permissions
  sent-good h ty p r a d n b v q leaks o i j k t =
      let held = perms_of (c.node h) in
      let f : T (guarded (c.node b) held) = (delivered-parts n r held (c.node b) t).2 in
      let name : n ≡ name_of (c.node b) = sym (delivered-parts n r held (c.node b) t).0 in
      let s = stands c e h ty (sent_as v) (e (C d)) (sent-in c e h ty v (e (C d)) j) in
      let g =
      o.1 s.0 (s.3 k) s.2 b (block_listed b held f)
      (subst (λ (z : ℕ). T (delivered (delivery_to (name_of (c.node b)) r (perms_of (c.node z)) (c.node b)))) (sym q)
      (subst (λ (z : ℕ). T (delivered (delivery_to z r held (c.node b)))) name t))
      (subst (λ (z : ℕ). T (e (C a) (name_element z))) name i)
      in
      start-good b held (sent_as v) f g.0 (λ x u. leaks x (g.1.1 x u))
      (moved c e h ty b [] (sent_as v) (e (B b)) k (s.4 (e (B b)) (g.1.0 s.0 (below_in s.1) (s.3 k) s.2)))
