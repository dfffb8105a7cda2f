-- What it is for a value to lie in a set of elements, for a word to run and for frames to wait, by the sets of an estimate.
use Prim.Native.Nat.{ℕ, zero, suc, ◌<◌}
use mathlib.Core.Path.{◌≡◌}
use mathlib.Core.Logic.{◌⊎◌}
use mathlib.Core.Bool.{Bool, true, false}
use mathlib.Core.Option.{Option, none, some}
use mathlib.Core.List.{List, [], ◌∷◌}
use lib.ListN.{get_or, get_elem?}
use lib.Dec.{T, ltb}
use lib.IntN.{ℤ, pos, negsuc}
use Rattle.permset.specs.Sets.{member}
use Rattle.table.specs.Words.{literals}
use Rattle.table.specs.Code.{Code, Node, Leaf}
use Rattle.calculus.specs.Constraint.{C, B, P, L, Sets}
use Rattle.calculus.specs.Elements.{constant_element, literal_element, name_element, negative, nought, positive}
use Rattle.calculus.specs.Elements.{other_string, opponent_record, made, makes, is_record, is_cell}
use Rattle.delivery.specs.Delivery.{delivered}
use Rattle.calculus.specs.Rules.{leak_of, perms_of, delivery_to}
use Rattle.calculus.specs.Values.{Atom, constant, number, text, named, known, data_fields, plain, sent_as}
use Rattle.calculus.specs.Values.{Value, atom, function, fields, cell, Environment, closed, bound, Fields, empty, field}
use Rattle.calculus.specs.Machine.{Control, eval, give, stopped, Frame, first, second, third, again}
use Rattle.calculus.specs.Machine.{Effect, silent, exercises, sends, Move, stay, go}
use Rattle.calculus.specs.Run.{Instance, running, started, World, world}

abbrev pub Sub : (ℕ → Bool) → (ℕ → Bool) → Type 0
Sub S U = (x : ℕ) → T (S x) → T (U x)

-- the element that stands for a constant, a number, a string or a name
abbrev pub sign_of : ℤ → ℕ
sign_of (pos zero) = nought
sign_of (pos (suc n)) = positive
sign_of (negsuc n) = negative

abbrev pub string_element : Bool → ℕ → ℕ
string_element true n = literal_element n
string_element false n = other_string

abbrev pub text_element : ℕ → ℕ
text_element n = string_element (ltb n literals) n

abbrev pub element : Atom → ℕ
element (constant k) = constant_element k
element (number z) = sign_of z
element (text n) = text_element n
element (named n) = name_element n

-- The parts of a term that run, by number.
abbrev pub part_of : Node → ℕ → ℕ
part_of Node.gap k = 0
part_of (Node.block n s g) k = 0
part_of (Node.leaf l) k = 0
part_of (Node.one o a) k = a
part_of (Node.two t a b) k = get_or (a ∷ b ∷ []) k 0
part_of (Node.bind a b) k = get_or (a ∷ b ∷ []) k 0
part_of (Node.while a b) k = get_or (a ∷ b ∷ []) k 0
part_of (Node.branch a b d) k = get_or (a ∷ b ∷ d ∷ []) k 0
part_of (Node.update a b d) k = get_or (a ∷ b ∷ d ∷ []) k 0

-- q makes the element of a record, or of a cell
abbrev pub RecordAt : Code → ℕ → Type 0
RecordAt c q = (q < c.size) × T (is_record (makes (c.node q)))

abbrev pub CellAt : Code → ℕ → Type 0
CellAt c q = (q < c.size) × T (is_cell (makes (c.node q)))

-- Of an instance of the block h, whose cells were made at the words ty.
module _ (c : Code) (e : Sets) (h : ℕ) (ty : List ℕ) where
  abbrev mutual
    -- v is in the set S: an element of S stands for it
    pub In : Value → (ℕ → Bool) → Type 0
    In (atom a) S = T (known a c.names) × T (S (element a))
    In (function f vs) S = (f < c.size) × (c.node f ≡ Node.leaf Leaf.function) × (c.home f ≡ h) × T (S (made c f)) × Bound vs (c.scope f)
    In (fields r) S =
        (T (data_fields r c.names) × T (S opponent_record))
        ⊎ ((q : ℕ) × RecordAt c q × T (S (made c q)) × FieldsIn r (e (B q)))
    In (cell i) S = (q : ℕ) × CellAt c q × T (S (made c q)) × (get_elem? ty i ≡ some q)

    -- each value is in the held set of its binder
    pub Bound : Environment → List ℕ → Type 0
    Bound closed [] = Unit {0}
    Bound closed (b ∷ s) = ⊥
    Bound (bound v vs) [] = ⊥
    Bound (bound v vs) (b ∷ s) = In v (e (B b)) × Bound vs s

    pub FieldsIn : Fields → (ℕ → Bool) → Type 0
    FieldsIn empty S = Unit {0}
    FieldsIn (field k v r) S = In v S × FieldsIn r S

  -- the value, if there is one, is in S
  abbrev pub Found : Option Value → (ℕ → Bool) → Type 0
  Found none S = Unit {0}
  Found (some v) S = In v S

  -- each cell holds a value of the held set of the word that made it
  abbrev pub Cells : List Value → List ℕ → Type 0
  Cells [] [] = Unit {0}
  Cells [] (q ∷ qs) = ⊥
  Cells (v ∷ vs) [] = ⊥
  Cells (v ∷ vs) (q ∷ qs) = In v (e (B q)) × Cells vs qs

-- every permission of the set of word q is in the leak
abbrev pub Leaks : Code → ℕ → Sets → ℕ → Type 0
Leaks c ρ e q = (x : ℕ) → T (e (P q) x) → leak_of c ρ e x

-- the word q may run: it is live, its permissions are in the leak, and its variables are bound to what their binders hold
pub record Runs (c : Code) (ρ : ℕ) (e : Sets) (h : ℕ) (ty : List ℕ) (q : ℕ) (vs : Environment) : Type 0 where
  pub inside : q < c.size
  pub home : c.home q ≡ h
  pub live : T (e (L q) 0)
  pub leaks : Leaks c ρ e q
  pub binders : Bound c e h ty vs (c.scope q)

module _ (c : Code) (ρ : ℕ) (e : Sets) (h : ℕ) where
  -- the frames may be given any value of S
  abbrev pub Wait : List ℕ → List Frame → (ℕ → Bool) → Type 0
  Wait ty [] S = Unit {0}
  Wait ty (first p vs ∷ fs) S = Runs c ρ e h ty p vs × Sub S (e (C (part_of (c.node p) 0))) × Wait ty fs (e (C p))
  Wait ty (second p vs v ∷ fs) S =
      Runs c ρ e h ty p vs
      × In c e h ty v (e (C (part_of (c.node p) 0)))
      × Sub S (e (C (part_of (c.node p) 1)))
      × Wait ty fs (e (C p))
  Wait ty (third p vs v w ∷ fs) S =
      Runs c ρ e h ty p vs
      × ((a b d : ℕ)
      × (c.node p ≡ Node.update a b d)
      × In c e h ty v (e (C a))
      × In c e h ty w (e (C b))
      × Sub S (e (C d)))
      × Wait ty fs (e (C p))
  Wait ty (again p vs ∷ fs) S = Runs c ρ e h ty p vs × Wait ty fs (e (C p))

  abbrev pub Holds : List ℕ → Control → List Frame → Type 0
  Holds ty (eval q vs) fs = Runs c ρ e h ty q vs × Wait ty fs (e (C q))
  Holds ty (give v) fs = (S : ℕ → Bool) × In c e h ty v S × Wait ty fs S
  Holds ty stopped fs = Unit {0}

  abbrev pub Good : Control → List Frame → List Value → Type 0
  Good k fs cs = (ty : List ℕ) × Cells c e h ty cs ty × Holds ty k fs

module _ (c : Code) (ρ : ℕ) (e : Sets) where
  -- the instance runs a handler with its permissions
  abbrev pub GoodInstance : Instance → Type 0
  GoodInstance (running held k fs cs) = (h : ℕ) × (held ≡ perms_of (c.node h)) × Good c ρ e h k fs cs

  abbrev pub Starts : ℕ → Value → Type 0
  Starts b v = GoodInstance (started (perms_of (c.node b)) b v)

  -- what is exercised is in the leak, and any instance that a send may start is good
  abbrev pub GoodEffect : ℕ → Effect → Type 0
  GoodEffect h silent = Unit {0}
  GoodEffect h (exercises r) = (x : ℕ) → T (member r x) → leak_of c ρ e x
  GoodEffect h (sends r n v) =
      (b : ℕ) → T (plain (sent_as v)) → T (delivered (delivery_to n r (perms_of (c.node h)) (c.node b))) → Starts b (sent_as v)

  abbrev pub GoodMove : ℕ → Move → Type 0
  GoodMove h stay = Unit {0}
  GoodMove h (go f k fs cs) = GoodEffect h f × Good c ρ e h k fs cs

  abbrev pub GoodInstances : List Instance → Type 0
  GoodInstances [] = Unit {0}
  GoodInstances (i ∷ is) = GoodInstance i × GoodInstances is

  abbrev pub GoodSets : List ℕ → Type 0
  GoodSets [] = Unit {0}
  GoodSets (r ∷ rs) = ((x : ℕ) → T (member r x) → leak_of c ρ e x) × GoodSets rs

  abbrev pub GoodWorld : World → Type 0
  GoodWorld (world is rs) = GoodInstances is × GoodSets rs
