-- The tests on the words of an estimate decide their rules: a row in a row, what a row has of a mask, all plain elements, permissions,
-- operations.
use Prim.Native.Nat.{ℕ, zero, suc, ◌+◌, ◌*◌, ◌/◌, ◌%◌, ◌^◌, ◌≤◌, ◌<◌}
use mathlib.Core.Path.{◌≡◌, refl, sym, ap, ap₂, ◌∙◌, subst}
use mathlib.Core.Bool.{Bool, true, false, not, ◌&&◌, ◌||◌}
use mathlib.Core.List.{List, [], ◌∷◌}
use native.Mathlib.Nat.{mod-lt, le_of_eq}
use native.Mathlib.Omega.{arith}
use lib.Dec.{T, lit<}
use lib.ListN.{length, get_or, take, drop}
use lib.Pow.{pow_pos}
use Rattle.permset.specs.Sets.{width, member, within}
use Rattle.permset.proofs.Laws.{within-member, member-within-below, same-below}
use Rattle.table.specs.declared.Operation.{Operation}
use Rattle.table.specs.Code.{Code, operation}
use Rattle.calculus.specs.Elements.{plain, elements}
use Rattle.calculus.specs.Constraint.{C, B, P, Sets, Rule, Obeys, put, sub, only, every}
use Rattle.calculus.specs.Rules.{fill, pass, two_rule}
use Rattle.calculus.specs.Layout.{bit, masked, base, span, sets, content, Words, WellFormed}
use Rattle.calculus.proofs.Digits.{T_and, T-fst, T-snd, T_true, member-low}
use Rattle.calculus.proofs.Slices.{◌≼◌, bit_at}
use Rattle.calculus.proofs.Masks.{bit_masked, masked-words}
use Rattle.calculus.proofs.Places.{span-lt}
use Rattle.calculus.proofs.Rows.{sets-allowed, content-words, content-sound}
use Rattle.calculus.proofs.Ranges.{below_in, in-below}
use Rattle.calculus.proofs.RowOperations.{sets-P}
use Rattle.calculus.proofs.OperationMasks.{results-in, results-only, side, side-bit, result_mask, results-lt as mask_lt}
use Rattle.calculus.proofs.OperationResults.{operation_mask, side-mask}
use Rattle.calculus.proofs.Fitting.{results-lt}
use Rattle.rows.specs.declared.layout.Layout.{Layout}
use Rattle.rows.specs.Laid.{LaidOut, Sized}
use Rattle.rows.specs.Mask.{Mask}
use Rattle.rows.specs.Rows.{lacking}
use Rattle.rows.proofs.Full.{full-digit}
use Rattle.rows.proofs.Laws.{length-row, get_or-row, length-masked-row}
use Rattle.clauses.specs.Asks.{row_at}
use Rattle.clauses.proofs.Sorts.{row-C, row-B}
use Rattle.clauses.proofs.Numbered.{base-row, content-row, value_row}
use Rattle.queries.proofs.Laws.{row_in, has-is, C-sets}
use Rattle.checker.specs.Decides.{Decides}

-- ---- words that lack nothing

morgan : (a b : Bool) → not (not a || b) ≡ a && not b
morgan true b = refl
morgan false b = refl

all-within : (xs ys : List ℕ) → length xs ≤ length ys → T (not (lacking xs ys)) → (k : ℕ) → T (within (get_or xs k 0) (get_or ys k 0))
unfolding lacking within
all-within [] ys h t k = tt
all-within (x ∷ xs) [] h t k = absurd (omega arith)
all-within (x ∷ xs) (y ∷ ys) h t zero = T-fst (within x y) (not (lacking xs ys)) (subst T (morgan (within x y) (lacking xs ys)) t)
all-within (x ∷ xs) (y ∷ ys) h t (suc k) = all-within xs ys (omega arith) (T-snd (within x y) (not (lacking xs ys)) (subst T (morgan (within x y) (lacking xs ys)) t)) k

within_all : (xs ys : List ℕ) → length xs ≤ length ys → ((k : ℕ) → T (within (get_or xs k 0) (get_or ys k 0))) → T (not (lacking xs ys))
unfolding lacking within
within_all [] ys h f = tt
within_all (x ∷ xs) [] h f = absurd (omega arith)
within_all (x ∷ xs) (y ∷ ys) h f =
    subst T (sym (morgan (within x y) (lacking xs ys))) (T_and (within x y) (not (lacking xs ys)) (f zero) (within_all xs ys (omega arith) (λ k. f (suc k))))

lacks-is : {e : Sets} {k : Rule} (xs ys : List ℕ) → length xs ≡ length ys → Words xs → (xs ≼ ys → Obeys e k) → (Obeys e k → xs ≼ ys)
    → Decides e k (not (lacking xs ys))
unfolding bit
lacks-is xs ys h w f g =
    record {
      yes = λ t. f (λ n b. within-member (get_or xs (n / 32) 0) (get_or ys (n / 32) 0) (n % 32) (all-within xs ys (le_of_eq h) t (n / 32)) b);
      no = λ o. within_all xs ys (le_of_eq h) (λ k. member-within-below 32 (get_or xs k 0) (get_or ys k 0) (w k)
          (λ i l m. subst T (bit_at ys k i l) (g o (32 * k + i) (subst T (sym (bit_at xs k i l)) m))));
    }

-- the digits below n
within-is : {e : Sets} {k : Rule} (n x y : ℕ) → x < 2 ^ n → (((i : ℕ) → i < n → T (member x i) → T (member y i)) → Obeys e k)
    → (Obeys e k → (i : ℕ) → i < n → T (member x i) → T (member y i)) → Decides e k (within x y)
within-is n x y h f g = record { yes = λ t. f (λ i j m. within-member x y i t m); no = λ o. member-within-below n x y h (g o) }

-- a row of an estimate of this layout
abbrev pub row_of : Layout → List ℕ → ℕ → List ℕ
row_of l est r = take l.row (drop (r * l.row) est)

module _ (l : Layout) (est : List ℕ) (s : Sized l est) (c : Code) (o : LaidOut c l) (w : WellFormed c est) where
  abbrev e : Sets
  e = sets c est

  word-in : {p : ℕ} → p < l.size → p < c.size
  word-in h = omega (arith, o.size)

  -- ---- a row by its words

  module _ (r : ℕ) (h : r < 2 * l.size) where
    row_is : content c est (row_at r) ≡ row_of l est r
    row_is = content-row c est r ∙ ap (λ (x : ℕ). take x (drop (r * x) est)) o.row

    row_words_lem : Words (row_of l est r)
    row_words_lem = subst Words row_is (content-words c est w (row_at r))

    has-row : (v : ℕ) → T (bit (row_of l est r) v) → T (e (row_at r) v)
    has-row v x =
        content-sound c est w (row_at r) v (value_row c r (omega (arith, o.size))).mine (subst (λ (xs : List ℕ). T (bit xs v)) (sym row_is) x)

    row_lt : (v : ℕ) → T (e (row_at r) v) → v < elements c
    row_lt v x = omega (arith, span-lt c (row_at r) v (sets-allowed c est (row_at r) v x), (value_row c r (omega (arith, o.size))).full)

    row_has : (v : ℕ) → T (e (row_at r) v) → T (bit (row_of l est r) v)
    unfolding bit
    row_has v x =
        let i : v < elements c = row_lt v x in
        subst T (sym (ap (λ (y : ℕ). member y (v % 32)) (get_or-row est (r * l.row) l.row (v / 32) (omega (arith, s.wide, o.size, o.lead))) ∙ has-is c l o est r v h i)) x

    row-long : length (row_of l est r) ≡ l.row
    row-long = length-row est (r * l.row) l.row (row_in s r h)

  module _ (a b : ℕ) (ha : a < 2 * l.size) (hb : b < 2 * l.size) where
    pub passed_is : Decides e (sub (row_at a) (row_at b)) (not (lacking (row_of l est a) (row_of l est b)))
    passed_is =
        lacks-is _ _ (row-long a ha ∙ sym (row-long b hb)) (row_words_lem a ha) (λ f v x. has-row b hb v (f v (row_has a ha v x)))
        (λ f v x. row_has b hb v (f v (has-row a ha v x)))

    pub passed-by-is : (q : ℕ → Bool) (m : List ℕ) → Mask c q m
        → Decides e (pass c (row_at a) q (row_at b)) (not (lacking (masked m (row_of l est a)) (row_of l est b)))
    passed-by-is q m k =
        lacks-is _ _ (length-masked-row m est (a * l.row) l.row (k.long ∙ o.row) (row_in s a ha) ∙ sym (row-long b hb)) (masked-words m _ (row_words_lem a ha))
        (λ f v n g x. has-row b hb v (f v (subst T (sym (bit_masked m (row_of l est a) v)) (T_and (bit m v) (bit (row_of l est a) v) (subst T (sym (k.digits v (in-below n))) g) (row_has a ha v x)))))
        (λ f v t. let d = subst T (bit_masked m (row_of l est a) v) t in
        let x = has-row a ha v (T-snd (bit m v) (bit (row_of l est a) v) d) in
        row_has b hb v (f v (below_in (row_lt a ha v x)) (subst T (k.digits v (row_lt a ha v x)) (T-fst (bit m v) (bit (row_of l est a) v) d)) x))

  -- ---- all plain elements

  module _ (r : ℕ) (h : r < 2 * l.size) where
    full-words : Obeys e (fill c (row_at r)) → (k : ℕ) → k < l.lead → get_or est (r * l.row + k) 0 ≡ 4294967295
    full-words x k i =
        same-below 32 (get_or est (r * l.row + k) 0) 4294967295 (w.words (r * l.row + k)) (lit< tt)
        (λ n j. T_true _ (digit n j) ∙ sym (full-digit n j))
      where
        digit : (n : ℕ) → n < 32 → T (member (get_or est (r * l.row + k) 0) n)
        digit n j =
            let q : (32 * k + n) / 32 ≡ k = omega arith in
            let z : (32 * k + n) % 32 ≡ n = omega arith in
            subst T (sym (has-is c l o est r (32 * k + n) h (omega (arith, o.lead))) ∙ ap₂ (λ (a b : ℕ). member (get_or est (r * l.row + a) 0) b) q z)
            (x (32 * k + n) (below_in (omega (arith, o.lead))))

    pub full_is : {b : Bool} → (T b → (k : ℕ) → k < l.lead → get_or est (r * l.row + k) 0 ≡ 4294967295)
        → (((k : ℕ) → k < l.lead → get_or est (r * l.row + k) 0 ≡ 4294967295) → T b) → Decides e (fill c (row_at r)) b
    full_is f g =
        record {
          yes = λ t v m. let i : v < 32 * l.lead = omega (arith, in-below m, o.lead) in
              subst T (has-is c l o est r v h (omega (arith, o.lead)))
              (subst T (sym (ap (λ (x : ℕ). member x (v % 32)) (f t (v / 32) (omega arith)) ∙ full-digit (v % 32) (omega arith))) tt);
          no = λ x. g (full-words x);
        }

  -- ---- permissions

  abbrev flags : ℕ → ℕ
  flags p = get_or est (2 * l.size * l.row + p) 0

  has-flag : (p : ℕ) → p < l.size → (i : ℕ) → i < width → e (P p) i ≡ member (flags p) i
  unfolding base
  has-flag p h i j = sets-P c p i est (word-in h) j ∙ ap₂ (λ (n r : ℕ). member (get_or est (2 * n * r + p) 0) i) o.size o.row

  module _ (p : ℕ) (hp : p < l.size) where
    pub permitted-is : (x : ℕ) → x < 2 ^ width → Decides e (every width (λ i. only (member x i) (put (P p) i))) (within x (flags p))
    permitted-is x h =
        within-is width x (flags p) h (λ f i n m. subst T (sym (has-flag p hp i (in-below n))) (f i (in-below n) m))
        (λ f i j m. subst T (has-flag p hp i j) (f i (below_in j) m))

    pub lifted-is : (q : ℕ) → q < l.size → Decides e (sub (P q) (P p)) (within (flags q % 2 ^ width) (flags p))
    unfolding span
    lifted-is q hq =
        within-is width (flags q % 2 ^ width) (flags p) (mod-lt (flags q) (pow_pos width))
        (λ f v u. let j : v < width = span-lt c (P q) v (sets-allowed c est (P q) v u) in
        subst T (sym (has-flag p hp v j)) (f v j (subst T (sym (member-low (flags q) width v j)) (subst T (has-flag q hq v j) u))))
        (λ f i j m. subst T (has-flag p hp i j) (f i (subst T (sym (has-flag q hq i j)) (subst T (member-low (flags q) width i j) m))))

  -- ---- operations

  module _ (p a d : ℕ) (hp : p < l.size) (ha : a < l.size) (hd : d < l.size) (f : Operation) where
    -- the words of a side
    abbrev from : ℕ → List ℕ
    from i = take l.lead (drop (2 * i * l.row) est)

    side-is : (i : ℕ) → side c l.lead est i ≡ from i
    side-is i = ap (λ (x : ℕ). take l.lead (drop x est)) (ap (base c) (sym (row-C i)) ∙ base-row c (2 * i) ∙ ap (λ (x : ℕ). 2 * i * x) o.row)

    in-side : (i : ℕ) → i < l.size → (x : ℕ) → x < plain c → e (C i) x ≡ bit (from i) x
    in-side i h x j = side-bit c l.lead o.lead est w i x (word-in h) j ∙ ap (λ (xs : List ℕ). bit xs x) (side-is i)

    -- a result is a digit of the first word
    low-set : (z : ℕ) → z < 7 → e (C p) z ≡ member (get_or est (2 * p * l.row) 0) z
    low-set z j =
        let q : 2 * p * l.row + z / 32 ≡ 2 * p * l.row = omega arith in
        let r : z % 32 ≡ z = omega arith in
        sym (C-sets c est p z) ∙ sym (has-is c l o est (2 * p) z (omega arith) (omega arith)) ∙ ap₂ (λ (x y : ℕ). member (get_or est x 0) y) q r

    pub operation-is : Decides e (two_rule c p (operation f) a d) (within (operation_mask f (from a) (from d)) (get_or est (2 * p * l.row) 0))
    unfolding two_rule
    operation-is =
        subst (λ (x : ℕ). Decides e (two_rule c p (operation f) a d) (within x (get_or est (2 * p * l.row) 0)))
        (ap₂ (result_mask c f) (sym (side-is a)) (sym (side-is d)) ∙ side-mask c l.lead o.lead est w a d (word-in ha) (word-in hd) f ∙ ap₂ (operation_mask f) (side-is a) (side-is d))
        (within-is 7 (result_mask c f (from a) (from d)) _ (mask_lt c f (from a) (from d))
        (λ t x mx tx y my ty z mz.
        subst T (sym (low-set z (results-lt c f x y z mz)))
        (t z (results-lt c f x y z mz)
        (results-in c f (from a) (from d) z
        (record {
          first = x;
          second = y;
          first_plain = in-below mx;
          second_plain = in-below my;
          in-first = subst T (in-side a ha x (in-below mx)) tx;
          in-second = subst T (in-side d hd y (in-below my)) ty;
          result = mz;
        }))))
        (λ r i j b. let g = results-only c f (from a) (from d) i b in
        subst T (low-set i j)
        (r g.first (below_in g.first_plain) (subst T (sym (in-side a ha g.first g.first_plain)) g.in-first)
        g.second (below_in g.second_plain) (subst T (sym (in-side d hd g.second g.second_plain)) g.in-second)
        i g.result)))

-- ---- rows by their words

module _ {e : Sets} {a b : ℕ} {r : Bool} where
  pub CC : Decides e (sub (row_at (2 * a)) (row_at (2 * b))) r → Decides e (sub (C a) (C b)) r
  CC d = rw (row-C a, row-C b) at d

  pub CB : Decides e (sub (row_at (2 * a)) (row_at (2 * b + 1))) r → Decides e (sub (C a) (B b)) r
  CB d = rw (row-C a, row-B b) at d

  pub BC : Decides e (sub (row_at (2 * a + 1)) (row_at (2 * b))) r → Decides e (sub (B a) (C b)) r
  BC d = rw (row-B a, row-C b) at d
