-- The sorts of elements: by what a word's item makes, and digits set in a list of words.
use Prim.Native.Nat.{ℕ, zero, suc, ◌+◌, ◌-◌, ◌*◌, ◌/◌, ◌%◌, ◌^◌, ◌≤◌, ◌<◌}
use mathlib.Core.Path.{◌≡◌, refl, sym, ap, ap₂, ◌∙◌}
use mathlib.Core.Bool.{Bool, true, false, not, ◌&&◌, ◌||◌}
use mathlib.Core.List.{List, [], ◌∷◌, map}
use mathlib.Core.Logic.{⊎_elim}
use native.Mathlib.Decide.{dec_lt, ℕ_discrete}
use native.Mathlib.Omega.{arith}
use borrow.Author.Tests.{ne_eqb, lt-ltb, le-ltb, le-leb, lt-leb}
use lib.Dec.{T, eqb, leb, ltb}
use lib.ListN.{length, get_or, take, drop, length-drop, get_or-map}
use lib.Seq.{get_or-take, get_or-drop, length-take-le}
use Rattle.permset.specs.Sets.{member}
use Rattle.table.specs.declared.Item.{Item}
use Rattle.table.specs.declared.Item.TheVariants as items
use Rattle.table.specs.declared.Term.{Term}
use Rattle.table.specs.declared.Term.TheVariants as terms
use Rattle.table.specs.Scan.{accepted, reading}
use Rattle.table.specs.Code.{Code, code, term_node}
use Rattle.table.specs.Words.{kind, argument, first_kind, terms_by_kind, term_of}
use Rattle.table.specs.Item.{handler_at, item_at}
use Rattle.table.proofs.Items.{item-block, item-gap, item-term}
use Rattle.table.proofs.Nodes.{item_node, node-item}
use Rattle.calculus.specs.Elements.{Making, nothing, a_function, a_record, a_cell, leaf_makes, one_makes, makes, making, plain, elements, is_function, is_record, is_cell}
use Rattle.calculus.specs.Elements.{sendable, any_record}
use Rattle.calculus.specs.Layout.{bit, mark, pour, row_words, Words}
use Rattle.calculus.proofs.Digits.{T_true}
use Rattle.calculus.proofs.Slices.{length-mark, mark-words, mark-adds, mark-new, mark-has, part-words}
use Rattle.masks.specs.declared.Sort.{Sort}
use Rattle.masks.specs.declared.Sort.TheVariants as sorts
use Rattle.rows.specs.Mask.{Mask}
use Rattle.masks.specs.Masks.{property, making_number, makes_by_kind, word_makes, sort_has, mark_if}

-- ---- what the item of a word makes

-- whatever the places of its parts
term-makes : (t : Term) (a b d : ℕ) → makes (term_node t a b d) ≡ makes (term_node t 0 0 0)
unfolding makes term_node
term-makes (terms.Constant k) a b d = refl
term-makes (terms.Number n) a b d = refl
term-makes (terms.Literal n) a b d = refl
term-makes (terms.Name n) a b d = refl
term-makes (terms.Variable n) a b d = refl
term-makes terms.Function a b d = refl
term-makes terms.Apply a b d = refl
term-makes terms.Let a b d = refl
term-makes terms.Sequence a b d = refl
term-makes terms.If a b d = refl
term-makes terms.While a b d = refl
term-makes (terms.Operation o) a b d = refl
term-makes terms.Record a b d = refl
term-makes terms.Get a b d = refl
term-makes terms.Set a b d = refl
term-makes terms.Delete a b d = refl
term-makes terms.Cell a b d = refl
term-makes terms.Read a b d = refl
term-makes terms.Assign a b d = refl
term-makes (terms.Send s) a b d = refl
term-makes (terms.Exercise s) a b d = refl

item-parts : (x : Item) (a b d : ℕ) → makes (item_node x a b d) ≡ makes (item_node x 0 0 0)
unfolding item_node makes
item-parts items.Gap a b d = refl
item-parts (items.Block h) a b d = refl
item-parts (items.Term t) a b d = term-makes t a b d

item-makes : (ws : List ℕ) → reading ws ≡ accepted → (p : ℕ) (x : Item) → item_at ws p ≡ x → makes (item_node x 0 0 0) ≡ makes ((code ws).node p)
item-makes ws e p x h =
    sym (ap makes (node-item ws e ws (omega arith) p) ∙ item-parts (item_at ws p) _ _ _ ∙ ap (λ (y : Item). makes (item_node y 0 0 0)) h)

-- by the kind of its word
term_makes : Term → ℕ
term_makes t = making_number (makes (term_node t 0 0 0))

term-table : (a : ℕ) → map term_makes (terms_by_kind a) ≡ makes_by_kind
unfolding term_makes terms_by_kind makes_by_kind making_number makes leaf_makes one_makes term_node
term-table a = refl

term-word : (w : ℕ) → word_makes w ≡ term_makes (term_of w)
unfolding word_makes term_of term_makes making_number makes leaf_makes term_node
term-word w =
    ap (λ (xs : List ℕ). get_or xs (kind w - first_kind) 2) (sym (term-table (argument w)))
    ∙ get_or-map term_makes (terms_by_kind (argument w)) (kind w - first_kind) terms.Record

pub other_word : (w : ℕ) → kind w < 16 → word_makes w ≡ 0
unfolding word_makes makes_by_kind
other_word w h = let e : kind w - first_kind ≡ 0 = omega arith in ap (λ (k : ℕ). get_or makes_by_kind k 2) e

pub word-making : (ws : List ℕ) → reading ws ≡ accepted → (p : ℕ) → word_makes (get_or ws p 0) ≡ making_number (makes ((code ws).node p))
unfolding item_node makes making_number term_makes
word-making ws e p = go (dec_lt (kind (get_or ws p 0)) 16) (ℕ_discrete (kind (get_or ws p 0)) 2)
  where
    go : Dec (kind (get_or ws p 0) < 16) → Dec (kind (get_or ws p 0) ≡ 2) → word_makes (get_or ws p 0) ≡ making_number (makes ((code ws).node p))
    go (yes h) (yes k) = other_word (get_or ws p 0) h ∙ ap making_number (item-makes ws e p (items.Block (handler_at ws p)) (item-block ws p k))
    go (yes h) (no k) = other_word (get_or ws p 0) h ∙ ap making_number (item-makes ws e p items.Gap (item-gap ws p k h))
    go (no h) k =
        term-word (get_or ws p 0)
        ∙ ap making_number (item-makes ws e p (items.Term (term_of (get_or ws p 0))) (item-term ws p (omega arith)))

-- ---- the property of a sort, by tests

-- the plain elements of a sort
unfoldable pub plain_has : Sort → ℕ → Bool
plain_has sorts.Function v = false
plain_has sorts.Record v = eqb v 7
plain_has sorts.Cell v = false
plain_has sorts.Message v = true

pub and_no : (a b : Bool) → a ≡ false → false ≡ (a && b)
and_no a b e = sym (ap (λ (x : Bool). x && b) e)

pub and_yes : (a b : Bool) → a ≡ true → b ≡ (a && b)
and_yes a b e = sym (ap (λ (x : Bool). x && b) e)

or_no : (a b : Bool) → b ≡ false → a ≡ (a || b)
or_no true b e = refl
or_no false b e = sym e

or-first : (a b : Bool) → a ≡ false → b ≡ (a || b)
or-first a b e = sym (ap (λ (x : Bool). x || b) e)

or_yes : (a b : Bool) → a ≡ true → true ≡ (a || b)
or_yes a b e = sym (ap (λ (x : Bool). x || b) e)

function-number : (m : Making) → eqb (making_number m) 1 ≡ is_function m
unfolding making_number is_function
function-number nothing = refl
function-number a_function = refl
function-number a_record = refl
function-number a_cell = refl

record-number : (m : Making) → eqb (making_number m) 2 ≡ is_record m
unfolding making_number is_record
record-number nothing = refl
record-number a_function = refl
record-number a_record = refl
record-number a_cell = refl

cell-number : (m : Making) → eqb (making_number m) 3 ≡ is_cell m
unfolding making_number is_cell
cell-number nothing = refl
cell-number a_function = refl
cell-number a_record = refl
cell-number a_cell = refl

module _ (c : Code) (v : ℕ) where
  pub plain-property : (s : Sort) → v < plain c → plain_has s v ≡ property s c v
  unfolding plain_has property any_record sendable
  plain-property sorts.Function h = and_no (leb (plain c) v) _ (lt-leb (plain c) v h)
  plain-property sorts.Record h = or_no (eqb v 7) _ (sym (and_no (leb (plain c) v) _ (lt-leb (plain c) v h)))
  plain-property sorts.Cell h = and_no (leb (plain c) v) _ (lt-leb (plain c) v h)
  plain-property sorts.Message h = or_yes (ltb v (plain c)) _ (lt-ltb v (plain c) h)

  pub made-property : (s : Sort) → plain c ≤ v → sort_has s (making_number (makes (c.node (v - plain c)))) ≡ property s c v
  unfolding sort_has property making any_record sendable
  made-property sorts.Function h = function-number _ ∙ and_yes (leb (plain c) v) _ (le-leb (plain c) v h)
  made-property sorts.Record h =
      record-number _ ∙ and_yes (leb (plain c) v) _ (le-leb (plain c) v h) ∙ or-first (eqb v 7) _ (ne_eqb v 7 (λ e. let z : ⊥ = omega arith in z))
  made-property sorts.Cell h = cell-number _ ∙ and_yes (leb (plain c) v) _ (le-leb (plain c) v h)
  made-property sorts.Message h =
      ap₂ (λ (a b : Bool). not (a || b)) (function-number _) (cell-number _) ∙ or-first (ltb v (plain c)) _ (le-ltb v (plain c) h)

-- ---- digits set

pub both : (a b : Bool) → (T a → T b) → (T b → T a) → a ≡ b
both true true f g = refl
both true false f g = absurd (f tt)
both false true f g = absurd (g tt)
both false false f g = refl

-- the words from k on, behind what is or-ed in
pub pour-rest : (ws : List ℕ) (at : ℕ) (xs : List ℕ) (k : ℕ) → at + length xs ≤ k → drop k (pour ws at xs) ≡ drop k ws
unfolding pour
pour-rest [] at xs k h = refl
pour-rest (w ∷ ws) zero [] k h = refl
pour-rest (w ∷ ws) zero (x ∷ xs) zero h = absurd (omega arith)
pour-rest (w ∷ ws) zero (x ∷ xs) (suc k) h = pour-rest ws zero xs k (omega arith)
pour-rest (w ∷ ws) (suc at) xs zero h = absurd (omega arith)
pour-rest (w ∷ ws) (suc at) xs (suc k) h = pour-rest ws at xs k (omega arith)

pub mark-rest : (ws : List ℕ) (n k : ℕ) → n < 32 * k → drop k (mark ws n) ≡ drop k ws
unfolding mark
mark-rest ws n k h = pour-rest ws (n / 32) (2 ^ (n % 32) ∷ []) k (omega arith)

module _ (ws : List ℕ) (n : ℕ) where
  if-same : (b : Bool) → n < 32 * length ws → bit ws n ≡ false → bit (mark_if b ws n) n ≡ b
  unfolding mark_if
  if-same true h e = T_true (bit (mark ws n) n) (mark-has ws n h)
  if-same false h e = e

  pub if-other : (b : Bool) (d : ℕ) → (d ≡ n → ⊥) → bit (mark_if b ws n) d ≡ bit ws d
  unfolding mark_if
  if-other true d h =
      both (bit (mark ws n) d) (bit ws d) (λ t. ⊎_elim (λ x. x) (λ e. absurd (h e)) (mark-new ws n d t)) (mark-adds ws n d)
  if-other false d h = refl

  pub if-length : (b : Bool) → length (mark_if b ws n) ≡ length ws
  unfolding mark_if
  if-length true = length-mark ws n
  if-length false = refl

  pub if-rest : (b : Bool) (k : ℕ) → n < 32 * k → drop k (mark_if b ws n) ≡ drop k ws
  unfolding mark_if
  if-rest true k h = mark-rest ws n k h
  if-rest false k h = refl

  pub if-words : (b : Bool) → Words ws → Words (mark_if b ws n)
  unfolding mark_if
  if-words true h = mark-words ws n h
  if-words false h = h

  -- at a digit that is n
  pub if-at : (b : Bool) (d : ℕ) → d ≡ n → d < 32 * length ws → bit ws d ≡ false → bit (mark_if b ws n) d ≡ b
  if-at b d e h f = ap (bit (mark_if b ws n)) e ∙ if-same b (omega arith) (ap (bit ws) (sym e) ∙ f)

-- a row of the list whose digits are those of a property is its mask
module _ (c : Code) (q : ℕ → Bool) (ws : List ℕ) (at row : ℕ) where
  part-digit : (v : ℕ) → v < 32 * row → bit (take row (drop at ws)) v ≡ bit ws (32 * at + v)
  unfolding bit
  part-digit v h =
      let d : (32 * at + v) / 32 ≡ at + v / 32 = omega arith in
      let m : (32 * at + v) % 32 ≡ v % 32 = omega arith in
      ap (λ (x : ℕ). member x (v % 32)) (get_or-take row (drop at ws) (v / 32) 0 (omega arith) ∙ get_or-drop at ws (v / 32) 0)
      ∙ sym (ap₂ (λ (k i : ℕ). member (get_or ws k 0) i) d m)

  pub mask-part : row ≡ row_words c → at + row ≤ length ws → Words ws → ((v : ℕ) → v < elements c → bit ws (32 * at + v) ≡ q v)
      → Mask c q (take row (drop at ws))
  unfolding row_words
  mask-part e l w f =
      record {
        long = length-take-le row (drop at ws) (simp length-drop (omega arith)) ∙ e;
        words = part-words row at ws w;
        digits = λ v h. part-digit v (omega arith) ∙ f v h;
      }
