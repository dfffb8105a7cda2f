-- What the functions on rows and words do to an estimate, as the firing of a rule.
use Prim.Native.Nat.{ℕ, ◌+◌, ◌*◌, ◌/◌, ◌%◌, ◌^◌, ◌≤◌, ◌<◌}
use mathlib.Core.Path.{◌≡◌, sym, ap, ap₂, ◌∙◌}
use mathlib.Core.Bool.{Bool, not}
use mathlib.Core.List.{List, [], ◌∷◌}
use native.Mathlib.Nat.{add-zero}
use native.Mathlib.Omega.{arith}
use borrow.Author.Tests.{eq-eqb, ne_eqb}
use lib.Dec.{eqb}
use lib.ListN.{length, get_or, take, drop, replicate}
use Rattle.permset.specs.Sets.{width, member}
use Rattle.table.specs.declared.Operation.{Operation}
use Rattle.table.specs.Code.{Code, operation}
use Rattle.calculus.specs.Constraint.{Row, P, L, Rule, put, sub, only, every, ◌and◌}
use Rattle.calculus.specs.Rules.{fill, pass, two_rule}
use Rattle.calculus.specs.Layout.{pour, masked, base, content, WellFormed}
use Rattle.calculus.specs.Estimate.{fire, facts}
use Rattle.calculus.proofs.Folds.{fire-and, fire-only, fire-only-not}
use Rattle.calculus.proofs.OperationResults.{operation_mask, fire-operation-mask}
use Rattle.calculus.proofs.RowOperations.{fire-put-C, fire-put-B, fire-live, fire-sub, fire-sub-P}
use Rattle.calculus.proofs.RowRules.{fire-pass, fire-fill, fire-members}
use Rattle.rows.specs.declared.layout.Layout.{Layout}
use Rattle.rows.specs.Laid.{LaidOut, Sized}
use Rattle.rows.specs.Mask.{Mask}
use Rattle.rows.specs.Rows.{Poured}
use Rattle.rows.proofs.Full.{full, full-bit, full-words, full-short}
use Rattle.rows.proofs.Laws.{facts-most}
use Rattle.clauses.specs.Asks.{row_at}
use Rattle.clauses.proofs.Numbered.{Numbered, in-C, in-B, numbered, base-row, content-row, value_row}
use Rattle.firing.specs.Fired.{FiredFor, FiredIn}

-- ---- where rows stand, and words of permissions and flag

module _ {c : Code} {l : Layout} (o : LaidOut c l) where
  base-at : (r : ℕ) → r * l.row ≡ base c (row_at r)
  base-at r = ap (λ (x : ℕ). r * x) (sym o.row) ∙ sym (base-row c r)

  content-at : (old : List ℕ) (r : ℕ) → take l.row (drop (r * l.row) old) ≡ content c old (row_at r)
  content-at old r = ap (λ (x : ℕ). take x (drop (r * x) old)) (sym o.row) ∙ sym (content-row c old r)

  flag-base : (p : ℕ) → 2 * l.size * l.row + p ≡ base c (P p)
  unfolding base
  flag-base p = ap₂ (λ (n r : ℕ). 2 * n * r + p) (sym o.size) (sym o.row)

fire-put : (c : Code) (old : List ℕ) {r : Row} {n : ℕ} → Numbered r n → (v : ℕ) → fire c (put r v) old ≡ pour old (base c r + v / 32) (2 ^ (v % 32) ∷ [])
fire-put c old (in-C {i} e) v = fire-put-C c i v old
fire-put c old (in-B {i} e) v = fire-put-B c i v old

module _ {l : Layout} {old new : List ℕ} {added : ℕ} where
  -- words that are or-ed in fire a rule, where the rule does that
  poured : {at : ℕ} {xs : List ℕ} {h : Code → Type 0} {k : Code → Rule} → Poured old new at xs added
      → ((c : Code) → LaidOut c l → h c → pour old at xs ≡ fire c (k c) old) → FiredFor l h k old new added
  poured p f = record { words = λ c o x. p.words ∙ f c o x; count = p.count }

  -- ---- a row

  pub put-fired : (r v : ℕ) → Poured old new (r * l.row + v / 32) (2 ^ (v % 32) ∷ []) added → FiredIn l (put (row_at r) v) old new added
  put-fired r v p = poured p (λ c o h. rw (base-at o r) (sym (fire-put c old (numbered r) v)))

  pub sub-fired : (a b : ℕ) → Poured old new (b * l.row) (take l.row (drop (a * l.row) old)) added → FiredIn l (sub (row_at a) (row_at b)) old new added
  sub-fired a b p = poured p (λ c o h. rw (content-at o old a, base-at o b) (sym (fire-sub c (row_at a) (row_at b) old)))

  pub pass-fired : {h : Code → Type 0} (q : Code → ℕ → Bool) {mask : List ℕ} (a b : ℕ) → a < 2 * l.size → b < 2 * l.size
      → ((c : Code) → LaidOut c l → h c → WellFormed c old × Mask c (q c) mask)
      → Poured old new (b * l.row) (masked mask (take l.row (drop (a * l.row) old))) added
      → FiredFor l h (λ c. pass c (row_at a) (q c) (row_at b)) old new added
  pass-fired q {mask} a b i j g p =
      poured p
      (λ c o x. let y = g c o x in
      rw (content-at o old a, base-at o b)
      (sym (fire-pass c old y.0 (q c) mask y.1.digits (row_at a) (row_at b) (value_row c a (omega (arith, o.size))) (value_row c b (omega (arith, o.size))))))

  -- so many full words from the start of a row: all plain elements
  pub fill-fired : (r : ℕ) → r < 2 * l.size → Poured old new (r * l.row) (replicate l.lead full) added
      → FiredFor l (λ c. WellFormed c old) (λ c. fill c (row_at r)) old new added
  fill-fired r h p =
      poured p
      (λ c o w.
      rw (base-at o r)
      (sym (fire-fill c old w (row_at r) (value_row c r (omega (arith, o.size))) (replicate l.lead full) (full-words l.lead)
      (λ v b. omega (arith, full-short l.lead v b, o.lead)) (λ v b. full-bit l.lead v (omega (arith, o.lead))))))

  -- the results of an operation in the first word of a row
  pub operated : (p d : ℕ) (o : Operation) {x : ℕ} → p + 1 < l.size → d < l.size → (d ≡ p → ⊥)
      → x ≡ operation_mask o (take l.lead (drop (2 * (p + 1) * l.row) old)) (take l.lead (drop (2 * d * l.row) old))
      → Poured old new (2 * p * l.row + 0) (x ∷ []) added
      → FiredFor l (λ c. WellFormed c old) (λ c. two_rule c p (operation o) (p + 1) d) old new added
  unfolding base
  operated p d t h k n e q =
      poured q
      (λ c o w.
      rw (e, add-zero, sym o.row)
      (sym (fire-operation-mask c l.lead o.lead old w p (p + 1) d (omega (arith, o.size)) (omega (arith, o.size)) (omega (arith, o.size)) (λ z. omega arith) n t)))

  -- ---- the word of P(p) and of p's flag

  pub live-fired : (p : ℕ) → Poured old new (2 * l.size * l.row + p) (16777216 ∷ []) added → FiredIn l (put (L p) 0) old new added
  unfolding base
  live-fired p q = poured q (λ c o h. ap (λ (k : ℕ). pour old k (16777216 ∷ [])) (flag-base o p) ∙ sym (fire-live c p old))

  pub lift-fired : (q p : ℕ) → Poured old new (2 * l.size * l.row + p) (get_or old (2 * l.size * l.row + q) 0 % 16777216 ∷ []) added
      → FiredIn l (sub (P q) (P p)) old new added
  lift-fired q p g = poured g (λ c o h. rw (flag-base o q, flag-base o p) (sym (fire-sub-P c q (P p) old)))

  pub permit-fired : (p r : ℕ) → p < l.size → r < 2 ^ width → Poured old new (2 * l.size * l.row + p) (r ∷ []) added
      → FiredFor l (λ c. WellFormed c old) (λ c. every width (λ i. only (member r i) (put (P p) i))) old new added
  permit-fired p r h k q = poured q (λ c o w. rw (flag-base o p) (sym (fire-members c old w p r (omega (arith, o.size)) k)))

  -- ---- rules for a part, which is one unless it is 0

  pub a-part : {k : Rule} (q : ℕ) → (q ≡ 0 → ⊥) → FiredIn l k old new added → FiredIn l (only (not (eqb q 0)) k) old new added
  a-part q e f = record { words = λ c o h. f.words c o tt ∙ sym (fire-only c _ _ old (ap not (ne_eqb q 0 e))); count = f.count }

pub no_part : {l : Layout} {old : List ℕ} {k : Rule} (q : ℕ) → q ≡ 0 → FiredIn l (only (not (eqb q 0)) k) old old 0
no_part {old = old} q e = record { words = λ c o h. sym (fire-only-not c _ _ old (ap not (eq-eqb q 0 e))); count = omega arith }

-- ---- one rule after another

module _ {l : Layout} {old mid new : List ℕ} {m n : ℕ} where
  pub and_then : {h g u : Code → Type 0} {k j : Code → Rule} → FiredFor l h k old mid m → FiredFor l g j mid new n
      → ((c : Code) → LaidOut c l → u c → h c × (mid ≡ fire c (k c) old → g c)) → FiredFor l u (λ c. k c and j c) old new (m + n)
  and_then {k = k} {j} p q f =
      record {
        words =
            λ c o x.
            let y = f c o x in let e = p.words c o y.0 in
            q.words c o (y.1 e) ∙ ap (fire c (j c)) e ∙ sym (fire-and c (k c) (j c) old);
        count = omega (arith, p.count, q.count);
      }

  pub and_in : {k j : Rule} → FiredIn l k old mid m → FiredIn l j mid new n → FiredIn l (k and j) old new (m + n)
  and_in p q = and_then p q (λ c o x. (tt, λ e. tt))

-- two additions fit, and three
pub sum_fits : (old mid new : List ℕ) (m n : ℕ) → facts mid ≡ facts old + m → facts new ≡ facts mid + n → m + n ≤ 32 * length new
sum_fits old mid new m n e f = omega (arith, facts-most new)

pub three_fit : {l : Layout} {h g u : Code → Type 0} {i j k : Code → Rule} {old a b new : List ℕ} {m n o : ℕ} → Sized l old
    → FiredFor l h i old a m → FiredFor l g j a b n → FiredFor l u k b new o
    → length a ≡ length old → length b ≡ length a → length new ≡ length b → m + (n + o) < 2 ^ 32
three_fit {new = new} s p q r e f g = omega (arith, p.count, q.count, r.count, facts-most new, s.short)
