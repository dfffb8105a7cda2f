-- The clauses of each word, in the order and the words of document 01, "Flow rules": what the words and links of a table make of them.
use Rattle.std.specs.Prelude.{ℕ, ◌+◌, ◌*◌, true, false, List, [], ◌∷◌, get_or}
use Rattle.permset.specs.Sets.{within}
use Rattle.table.specs.declared.Item.{Item}
use Rattle.table.specs.declared.Item.TheVariants as items
use Rattle.table.specs.declared.Term.{Term}
use Rattle.table.specs.declared.Term.TheVariants as terms
use Rattle.table.specs.Words.{operation_number}
use Rattle.table.specs.Item.{item_at, item_perms}
use Rattle.table.specs.Links.{link_at}
use Rattle.calculus.specs.Elements.{constant_element, literal_element, name_element, undefined, unit, truth, falsehood, opponent_record, sign}
use Rattle.clauses.specs.declared.Test.{Test}
use Rattle.clauses.specs.declared.Test.TheVariants as tests
use Rattle.clauses.specs.declared.What.{What}
use Rattle.clauses.specs.declared.What.TheVariants as whats
use Rattle.clauses.specs.declared.Effect.{Effect}
use Rattle.clauses.specs.declared.Clause.{Clause}

-- ---- short forms

abbrev pub of : What → (x y z : ℕ) → Effect
of w x y z = record { what = w; x = x; y = y; z = z }

abbrev pub when : Test → (d a v : ℕ) → Effect → Clause
when t d a v e = record { guard = record { test = t; d = d; a = a; v = v }; effect = e }

-- the rows of a word
abbrev pub value : ℕ → ℕ
value p = 2 * p

abbrev pub held : ℕ → ℕ
held p = 2 * p + 1

abbrev pub alive : ℕ → Effect
alive q = of whats.Live q 0 0

abbrev pub put : ℕ → ℕ → Effect
put r v = of whats.Put r v 0

abbrev pub fill : ℕ → Effect
fill r = of whats.Fill r 0 0

abbrev pub flow : ℕ → ℕ → Effect
flow r s = of whats.Flow r s 0

abbrev pub parts : ℕ → ℕ → ℕ → Effect
parts p b d = of whats.Parts p b d

abbrev pub branches : ℕ → ℕ → ℕ → Effect
branches p b d = of whats.Branches p b d

abbrev pub never : Clause
never = when tests.Never 0 0 0 (alive 0)

abbrev pub free : Effect → Clause
free e = when tests.Free 0 0 0 e

abbrev pub has : ℕ → ℕ → Effect → Clause
has a v e = when tests.Has 0 a v e

abbrev pub some : ℕ → ℕ → Effect → Clause
some a v e = when tests.Some 0 a v e

abbrev pub text : ℕ → Effect → Clause
text d e = when tests.Text d 0 0 e

abbrev pub text_has : ℕ → ℕ → ℕ → Effect → Clause
text_has d a v e = when tests.TextHas d a v e

abbrev pub text_some : ℕ → ℕ → ℕ → Effect → Clause
text_some d a v e = when tests.TextSome d a v e

-- the masks, by their numbers
abbrev pub functions : ℕ
functions = 0

abbrev pub records : ℕ
records = 1

abbrev pub cells : ℕ
cells = 2

abbrev pub messages : ℕ
messages = 3

-- ---- the clauses of a term at p, whose second and third parts are at d and e

-- "its element in C(p)"
unfoldable pub of_value : (p v : ℕ) → List Clause
of_value p v = free (put (value p) v) ∷ []

-- "Variable: B of its binder in C(p)."
unfoldable pub of_variable : (p binder : ℕ) → List Clause
of_variable p binder = free (flow (held binder) (value p)) ∷ []

-- "Exercise r: if r is within the block's permissions, r in P(p) and unit in C(p)."
unfoldable pub of_permitted : (p set : ℕ) → List Clause
of_permitted p set = free (put (value p) unit) ∷ free (of whats.Permit p set 0) ∷ []

unfoldable pub of_exercise : (p set own : ℕ) → List Clause
of_exercise p set own = elim (within set own) [ true ↦ of_permitted p set | false ↦ [] ]

-- "Apply: for each function f in C(first), f's body is live, C(second) is in B(f), and the body's C and P are in C(p) and P(p)."
unfoldable pub of_apply : (p d : ℕ) → List Clause
of_apply p d =
    free (parts p d 0)
    ∷ free (of whats.Enter p 0 functions)
    ∷ free (of whats.Hand p (value d) functions)
    ∷ free (of whats.Back p (value p) functions)
    ∷ free (of whats.Lower p 0 functions)
    ∷ []

-- "Let: C(first) in B(p), C(second) in C(p)."
unfoldable pub of_let : (p d : ℕ) → List Clause
of_let p d = free (parts p d 0) ∷ free (flow (value (p + 1)) (held p)) ∷ free (flow (value d) (value p)) ∷ []

-- "Sequence: C(second) in C(p)."
unfoldable pub of_sequence : (p d : ℕ) → List Clause
of_sequence p d = free (parts p d 0) ∷ free (flow (value d) (value p)) ∷ []

-- "If: true or false in C(first) makes that branch live; both branches' C in C(p)."
unfoldable pub of_if : (p d e : ℕ) → List Clause
of_if p d e =
    free (branches p d e)
    ∷ has (p + 1) truth (alive d)
    ∷ has (p + 1) falsehood (alive e)
    ∷ free (flow (value d) (value p))
    ∷ free (flow (value e) (value p))
    ∷ []

-- "While: true makes the body live; false puts undefined in C(p)."
unfoldable pub of_while : (p d : ℕ) → List Clause
of_while p d =
    free (branches p d 0)
    ∷ has (p + 1) truth (alive d)
    ∷ has (p + 1) falsehood (put (value p) undefined)
    ∷ []

-- "Operations: for each pair of elements."
unfoldable pub of_operation : (p d o : ℕ) → List Clause
of_operation p d o = free (parts p d 0) ∷ free (of whats.Operate p d o) ∷ []

-- "Get: for each record q in C(first), B(q) and undefined in C(p); for 7, all 64."
unfoldable pub of_get : (p d : ℕ) → List Clause
of_get p d =
    free (parts p d 0)
    ∷ text_some d (p + 1) records (put (value p) undefined)
    ∷ text_has d (p + 1) opponent_record (fill (value p))
    ∷ text d (of whats.Take p (value p) records)
    ∷ []

-- "Set: if C(first) has a record or 7, then 64+p in C(p), C(third) in B(p), each B(q) in B(p), and for 7 all 64 in B(p)."
unfoldable pub of_set : (p d e own : ℕ) → List Clause
of_set p d e own =
    free (parts p d e)
    ∷ text_some d (p + 1) records (put (value p) own)
    ∷ text_some d (p + 1) records (flow (value e) (held p))
    ∷ text_has d (p + 1) opponent_record (fill (held p))
    ∷ text d (of whats.Take p (held p) records)
    ∷ []

-- "Delete: records and 7 pass to C(p)."
unfoldable pub of_delete : (p d : ℕ) → List Clause
of_delete p d = free (parts p d 0) ∷ text d (of whats.Pass (value (p + 1)) (value p) records) ∷ []

-- "new cell: 64+p in C(p); new cell also puts its part's C in B(p)."
unfoldable pub of_cell : (p own : ℕ) → List Clause
of_cell p own = free (parts p 0 0) ∷ free (put (value p) own) ∷ free (flow (value (p + 1)) (held p)) ∷ []

-- "Read cell: each cell's B in C(p)."
unfoldable pub of_read : (p : ℕ) → List Clause
of_read p = free (parts p 0 0) ∷ free (of whats.Take p (value p) cells) ∷ []

-- "Assign: if a cell is there, C(second) in C(p) and in each such B."
unfoldable pub of_assign : (p d : ℕ) → List Clause
of_assign p d =
    free (parts p d 0) ∷ some (p + 1) cells (flow (value d) (value p)) ∷ free (of whats.Hand p (value d) cells) ∷ []

-- "Send: unit in C(p). Let m be C(message) less functions and cells. If m is not empty, each handler h the machine could start .."
unfoldable pub of_send : (p d set : ℕ) → List Clause
of_send p d set = free (parts p d 0) ∷ free (put (value p) unit) ∷ some d messages (of whats.Send p d set) ∷ []

-- "A live b makes b+3 live. P(b+3) is in P(b)."
unfoldable pub of_block : (b : ℕ) → List Clause
of_block b = free (of whats.Part b (b + 3) 0) ∷ []

-- What the clauses of a term take from elsewhere: its own element, its binder, its block's permissions, its second and third parts.
pub record Site : Type 0 where
  pub own : ℕ
  pub binder : ℕ
  pub perms : ℕ
  pub second : ℕ
  pub third : ℕ

unfoldable pub of_term : ℕ → Term → Site → List Clause
of_term p (terms.Constant k) s = of_value p (constant_element k)
of_term p (terms.Number n) s = of_value p (sign n)
of_term p (terms.Literal n) s = of_value p (literal_element n)
of_term p (terms.Name n) s = of_value p (name_element n)
of_term p (terms.Variable n) s = of_variable p s.binder
of_term p terms.Function s = of_value p s.own
of_term p terms.Apply s = of_apply p s.second
of_term p terms.Let s = of_let p s.second
of_term p terms.Sequence s = of_sequence p s.second
of_term p terms.If s = of_if p s.second s.third
of_term p terms.While s = of_while p s.second
of_term p (terms.Operation o) s = of_operation p s.second (operation_number o)
of_term p terms.Record s = of_value p s.own
of_term p terms.Get s = of_get p s.second
of_term p terms.Set s = of_set p s.second s.third s.own
of_term p terms.Delete s = of_delete p s.second
of_term p terms.Cell s = of_cell p s.own
of_term p terms.Read s = of_read p
of_term p terms.Assign s = of_assign p s.second
of_term p (terms.Send r) s = of_send p s.second r.bits
of_term p (terms.Exercise r) s = of_exercise p r.bits s.perms

-- ---- the clauses of a word

module _ (ws links : List ℕ) (plain p : ℕ) where
  -- where what made things are starts at the element `plain`
  abbrev pub site_at : Site
  site_at =
      record {
        own = plain + p;
        binder = (link_at links p).binder;
        perms = item_perms (item_at ws (link_at links p).home);
        second = (link_at links (p + 1)).end;
        third = (link_at links (link_at links (p + 1)).end).end;
      }

  unfoldable pub of_item : Item → List Clause
  of_item items.Gap = []
  of_item (items.Block h) = of_block p
  of_item (items.Term t) = of_term p t site_at

  unfoldable pub clauses_at : List Clause
  clauses_at = of_item (item_at ws p)

  unfoldable pub clause_at : ℕ → Clause
  clause_at k = get_or clauses_at k never
