-- Every event leaves a good world, and so does every list of events from nothing.
use Prim.Native.Nat.{ℕ, zero, suc}
use mathlib.Core.Path.{refl, sym, subst}
use mathlib.Core.Bool.{Bool, true, false, ◌&&◌}
use mathlib.Core.Option.{Option, none, some}
use mathlib.Core.List.{List, [], ◌∷◌, ◌++◌, Memᴰ}
use lib.ListN.{set, get_elem?}
use lib.Dec.{T}
use Rattle.permset.specs.Sets.{member}
use Rattle.table.specs.Code.{Code, Linked}
use Rattle.calculus.specs.Constraint.{Sets}
use Rattle.delivery.specs.Delivery.{delivered}
use Rattle.calculus.specs.Rules.{Estimate, leak_of, perms_of, guarded, delivery_to}
use Rattle.calculus.specs.Values.{Value, plain, sent_as, datum}
use Rattle.calculus.specs.Machine.{Effect, silent, exercises, sends, Move, stay, go, step}
use Rattle.calculus.specs.Run.{Instance, running, World, world, nothing, Event, steps, starts, started, joined, sent, effect, moved, stepped, act}
use Rattle.calculus.specs.Run.{after, run, exercised}
use Rattle.calculus.proofs.Guarantee.Relation.{GoodInstance, GoodEffect, GoodMove, GoodInstances, GoodSets, GoodWorld}
use Rattle.calculus.proofs.Guarantee.Values.{both}
use Rattle.calculus.proofs.Guarantee.Words.{opponent-good}
use Rattle.calculus.proofs.Guarantee.Steps.{step-good}

module _ (c : Code) (linked : Linked c) (ρ : ℕ) (e : Sets) (est : Estimate c ρ e) where
  abbrev Every : List Instance → Type 0
  Every is = GoodInstances c ρ e is

  abbrev One : Option Instance → Type 0
  One none = Unit {0}
  One (some x) = GoodInstance c ρ e x

  get-instance : (is : List Instance) (i : ℕ) → Every is → One (get_elem? is i)
  get-instance [] i g = tt
  get-instance (x ∷ is) zero g = g.0
  get-instance (x ∷ is) (suc i) g = get-instance is i g.1

  set-instance : (is : List Instance) (i : ℕ) (x : Instance) → GoodInstance c ρ e x → Every is → Every (set is i x)
  set-instance [] i x k g = tt
  set-instance (y ∷ is) zero x k g = (k, g.1)
  set-instance (y ∷ is) (suc i) x k g = (g.0, set-instance is i x k g.1)

  add-instance : (is : List Instance) (x : Instance) → GoodInstance c ρ e x → Every is → Every (is ++ (x ∷ []))
  add-instance [] x k g = (k, tt)
  add-instance (y ∷ is) x k g = (g.0, add-instance is x k g.1)

  -- a handler started where a test allows it, and a world that stays where not
  starts-good : (t : Bool) (is : List Instance) (rs : List ℕ) (x : Instance) (before : World) → (T t → GoodInstance c ρ e x) → Every is
      → GoodSets c ρ e rs
      → GoodWorld c ρ e before
      → GoodWorld c ρ e (joined t x is rs before)
  unfolding joined
  starts-good true is rs x before k g s w = (add-instance is x (k tt) g, s)
  starts-good false is rs x before k g s w = w

  sent-good : (h r n : ℕ) (v : Value) (choice : Option ℕ) (is : List Instance) (rs : List ℕ) (before : World)
      → GoodEffect c ρ e h (sends r n v)
      → Every is
      → GoodSets c ρ e rs
      → GoodWorld c ρ e before
      → GoodWorld c ρ e (sent c (perms_of (c.node h)) r n v choice is rs before)
  unfolding sent
  sent-good h r n v none is rs before k g s w = (g, s)
  sent-good h r n v (some b) is rs before k g s w =
      starts-good (plain (sent_as v) && delivered (delivery_to n r (perms_of (c.node h)) (c.node b))) is rs (started (perms_of (c.node b)) b (sent_as v)) before
      (λ t. let p = both (plain (sent_as v)) (delivered (delivery_to n r (perms_of (c.node h)) (c.node b))) t in k b p.0 p.1)
      g
      s
      w

  effect-good : (h : ℕ) (f : Effect) (choice : Option ℕ) (is : List Instance) (rs : List ℕ) (before : World) → GoodEffect c ρ e h f
      → Every is
      → GoodSets c ρ e rs
      → GoodWorld c ρ e before
      → GoodWorld c ρ e (effect c (perms_of (c.node h)) f choice is rs before)
  unfolding effect
  effect-good h silent choice is rs before k g s w = (g, s)
  effect-good h (exercises r) choice is rs before k g s w = (g, (k, s))
  effect-good h (sends r n v) choice is rs before k g s w = sent-good h r n v choice is rs before k g s w

  moved-good : (h i : ℕ) (choice : Option ℕ) (m : Move) (is : List Instance) (rs : List ℕ) → GoodMove c ρ e h m → Every is
      → GoodSets c ρ e rs
      → GoodWorld c ρ e (moved c (perms_of (c.node h)) i choice m is rs)
  unfolding moved
  moved-good h i choice stay is rs k g s = (g, s)
  moved-good h i choice (go f l fs cs) is rs k g s =
      let x = running (perms_of (c.node h)) l fs cs in
      effect-good h f choice (set is i x) rs (world is rs) k.0 (set-instance is i x (h, refl, k.1) g) s (g, s)

  stepped-good : (i : ℕ) (choice : Option ℕ) (o : Option Instance) (is : List Instance) (rs : List ℕ) → One o → Every is
      → GoodSets c ρ e rs
      → GoodWorld c ρ e (stepped c i choice o is rs)
  unfolding stepped
  stepped-good i choice none is rs k g s = (g, s)
  stepped-good i choice (some (running held l fs cs)) is rs k g s =
      let h = k.0 in
      subst (λ (a : ℕ). GoodWorld c ρ e (moved c a i choice (step c a l fs cs) is rs)) (sym k.1)
      (moved-good h i choice (step c (perms_of (c.node h)) l fs cs) is rs (step-good c linked ρ e est h l fs cs k.2) g s)

  act-good : (w : World) (x : Event) → GoodWorld c ρ e w → GoodWorld c ρ e (act c ρ w x)
  unfolding act
  act-good (world is rs) (steps i choice) g = stepped-good i choice (get_elem? is i) is rs (get-instance is i g.0) g.0 g.1
  act-good (world is rs) (starts b v) g =
      starts-good (datum v c.names && guarded (c.node b) ρ) is rs (started (perms_of (c.node b)) b v) (world is rs)
      (λ t. let p = both (datum v c.names) (guarded (c.node b) ρ) t in opponent-good c linked ρ e est b v p.1 p.0)
      g.0
      g.1
      g

  after-good : (es : List Event) (w : World) → GoodWorld c ρ e w → GoodWorld c ρ e (after c ρ w es)
  unfolding after
  after-good [] w g = g
  after-good (x ∷ es) w g = after-good es (act c ρ w x) (act-good w x g)

  pub run-good : (es : List Event) → GoodWorld c ρ e (run c ρ es)
  unfolding run
  run-good es = after-good es nothing (tt, tt)

  -- every set that a good world has exercised is in the leak
  listed : (rs : List ℕ) → GoodSets c ρ e rs → (r x : ℕ) → Memᴰ r rs → T (member r x) → leak_of c ρ e x
  listed (q ∷ rs) g r x (Memᴰ.head k) m = g.0 x (subst (λ (y : ℕ). T (member y x)) k m)
  listed (q ∷ rs) g r x (Memᴰ.tail k) m = listed rs g.1 r x k m
  listed [] g r x x5 m = elim x5 [ ]

  pub exercised-good : (w : World) → GoodWorld c ρ e w → (r x : ℕ) → Memᴰ r (exercised w) → T (member r x) → leak_of c ρ e x
  unfolding exercised
  exercised-good (world is rs) g r x k m = listed rs g.1 r x k m
