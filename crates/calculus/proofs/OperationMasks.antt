-- The rule of an operation as one word or-ed into a row: the word has a digit for each result of the operation on elements of the two
-- rows. The plain elements of a row are the digits of its first `lead` words: its side.
use Prim.Native.Nat.{ℕ, zero, suc, ◌*◌, ◌/◌, ◌%◌, ◌^◌, ◌<◌}
use mathlib.Core.Path.{◌≡◌, refl, sym, ap, ◌∙◌, subst}
use mathlib.Core.List.Memᴰ
use mathlib.Core.List.{List, [], ◌∷◌, Memᴰ}
use mathlib.Core.Logic.{⊎_elim}
use mathlib.Core.Bool.{Bool, true, false}
use native.Mathlib.Nat.{mod-lt}
use native.Mathlib.Decide.{dec_lt}
use native.Mathlib.Omega.{arith}
use lib.Dec.{T, lit<}
use lib.Bits.{bit_or}
use lib.Pow.{pow_pos}
use lib.ListN.{length, take, drop, length-take, length-drop}
use lib.Seq.{get_or-take, get_or-drop}
use Rattle.permset.specs.Sets.{member}
use Rattle.permset.proofs.Laws.{member-empty, member-beyond, same-members}
use Rattle.table.specs.declared.Operation.{Operation}
use Rattle.table.specs.Code.{Code, operation}
use Rattle.calculus.specs.Elements.{plain, results}
use Rattle.calculus.specs.Constraint.{C, Rule, put, given, each, range, every}
use Rattle.calculus.specs.Rules.{two_rule}
use Rattle.calculus.specs.Layout.{bit, pour, owner, row_words, base, shift, span, sets, Words, WellFormed}
use Rattle.calculus.specs.Estimate.{fire}
use Rattle.calculus.proofs.Digits.{T-or, T-or-left, T-or-right, member-or, member-single, member-single-only, member-low, member-lt}
use Rattle.calculus.proofs.Slices.{bit_word, bit-short, part-words}
use Rattle.calculus.proofs.Places.{is-allowed}
use Rattle.calculus.proofs.Ranges.{below_in, in-below}
use Rattle.calculus.proofs.Fitting.{lows-mem, results-low}
use Rattle.calculus.proofs.Masks.{bool-ext}
use Rattle.calculus.proofs.RowOperations.{C-inside, sets-C}
use Rattle.calculus.proofs.RowRules.{RowOf, row-only, row_has, fire-row}

-- z is a result of the operation on an element that passes the first test and one that passes the second
pub record Gives (c : Code) (o : Operation) (f g : ℕ → Bool) (z : ℕ) : Type 0 where
  pub first : ℕ
  pub second : ℕ
  pub first_plain : first < plain c
  pub second_plain : second < plain c
  pub in-first : T (f first)
  pub in-second : T (g second)
  pub result : Memᴰ z (results c o first second)

module _ (c : Code) (ws : List ℕ) (w : WellFormed c ws) (p a d : ℕ) where
  abbrev operation_rule : Operation → Rule
  operation_rule o =
      every (plain c) (λ x. given (C a) x (every (plain c) (λ y. given (C d) y (each (results c o x y) (λ z. put (C p) z)))))

  -- a word with a digit for each result
  fire-results : p < c.size → (a ≡ p → ⊥) → (d ≡ p → ⊥) → (o : Operation) (m : ℕ) → m < 2 ^ 32
      → ((z : ℕ) → T (member m z) → Gives c o (sets c ws (C a)) (sets c ws (C d)) z)
      → ((z : ℕ) → Gives c o (sets c ws (C a)) (sets c ws (C d)) z → T (member m z))
      → fire c (operation_rule o) ws ≡ pour ws (base c (C p)) (m ∷ [])
  unfolding owner span shift
  fire-results h na nd o m l only all =
      let k : RowOf c (C p) (m ∷ []) =
      record { mine = h; unshifted = refl; words = word; inside = λ v b. omega (arith, bit-short (m ∷ []) v b) }
      in
      fire-row c ws w (C p) (m ∷ []) k (operation_rule o)
      (λ x mx y my z mz. let b : z < 7 = lows-mem (results c o x y) (results-low c o x y) z mz in is-allowed c (C p) z h (omega arith))
      (λ x mx tx y my ty z mz. row_has c ws w (C p) (m ∷ []) k z
      (as-bit z (all z
      (record {
        first = x;
        second = y;
        first_plain = in-below mx;
        second_plain = in-below my;
        in-first = old k a na x tx;
        in-second = old k d nd y ty;
        result = mz;
      }))))
      (λ z b. let g : Gives c o (sets c ws (C a)) (sets c ws (C d)) z = only z (as_member z b) in
      (g.first, below_in g.first_plain, (g.in-first, (g.second, below_in g.second_plain, (g.in-second, (z, g.result, (refl, refl)))))))
    where
      word : Words (m ∷ [])
      word zero = l
      word (suc n) = lit< tt

      as_member : (z : ℕ) → T (bit (m ∷ []) z) → T (member m z)
      as_member z b = subst T (bit_word m z (bit-short (m ∷ []) z b)) b

      as-bit : (z : ℕ) → T (member m z) → T (bit (m ∷ []) z)
      as-bit z t = subst T (sym (bit_word m z (member-lt 32 m z l t))) t

      old : (k : RowOf c (C p) (m ∷ [])) (i : ℕ) → (i ≡ p → ⊥) → (v : ℕ) → T (sets c (pour ws (base c (C p)) (m ∷ [])) (C i) v) → T (sets c ws (C i) v)
      old k i n v t =
          ⊎_elim (λ s. s) (λ (x : (C i ≡ C p) × T (bit (m ∷ []) v)). let e : C i ≡ C p = x.0 in let q : i ≡ p = cc in absurd (n q))
          (row-only c ws w (C p) (m ∷ []) k (C i) v t)

-- ---- the union of all results

-- the numbers of a list as digits
unfoldable pub marks : List ℕ → ℕ
marks [] = 0
marks (z ∷ zs) = bit_or (2 ^ z) (marks zs)

-- the union of f over a list of numbers that pass a test
unfoldable pub gather : List ℕ → (ℕ → Bool) → (ℕ → ℕ) → ℕ
gather [] t f = 0
gather (x ∷ xs) t f = elim (t x) [ true ↦ bit_or (f x) (gather xs t f) | false ↦ gather xs t f ]

-- all results on the digits below `plain c` of two sides
unfoldable pub result_mask : Code → Operation → (xs ys : List ℕ) → ℕ
unfolding range marks gather bit results
result_mask c o xs ys =
    gather (range (plain c) 0) (bit xs)
    (λ x. gather (range (plain c) 0) (bit ys) (λ y. marks (results c o x y)))

pub marks-has : (zs : List ℕ) (z : ℕ) → Memᴰ z zs → T (member (marks zs) z)
unfolding marks
marks-has [] z m = absurd (Memᴰ.not-nil m)
marks-has (x ∷ zs) z m =
    subst T (sym (member-or (2 ^ x) (marks zs) z))
    (⊎_elim (λ e. T-or-left (member (2 ^ x) z) (member (marks zs) z) (subst (λ (y : ℕ). T (member (2 ^ y) z)) e (member-single z)))
    (λ n. T-or-right (member (2 ^ x) z) (member (marks zs) z) (marks-has zs z n)) (Memᴰ.cases_cons m))

pub marks-only : (zs : List ℕ) (z : ℕ) → T (member (marks zs) z) → Memᴰ z zs
unfolding marks
marks-only [] z h = absurd (subst T (member-empty z) h)
marks-only (x ∷ zs) z h =
    ⊎_elim (λ t. Memᴰ.head (sym (member-single-only x z t))) (λ t. Memᴰ.tail (marks-only zs z t))
    (T-or (member (2 ^ x) z) (member (marks zs) z) (subst T (member-or (2 ^ x) (marks zs) z) h))

gather-has : (xs : List ℕ) (t : ℕ → Bool) (f : ℕ → ℕ) (x z : ℕ) → Memᴰ x xs → T (t x) → T (member (f x) z) → T (member (gather xs t f) z)
unfolding gather
gather-has [] t f x z m h k = absurd (Memᴰ.not-nil m)
gather-has (y ∷ xs) t f x z m h k =
    ⊎_elim (λ e. here (t y) (subst (λ (u : ℕ). T (t u)) e h) (subst (λ (u : ℕ). T (member (f u) z)) e k))
    (λ n. later (t y) (gather-has xs t f x z n h k)) (Memᴰ.cases_cons m)
  where
    here : (b : Bool) → T b → T (member (f y) z) → T (member (elim b [ true ↦ bit_or (f y) (gather xs t f) | false ↦ gather xs t f ]) z)
    here true s r = subst T (sym (member-or (f y) (gather xs t f) z)) (T-or-left (member (f y) z) (member (gather xs t f) z) r)
    here false s r = absurd s

    later : (b : Bool) → T (member (gather xs t f) z) → T (member (elim b [ true ↦ bit_or (f y) (gather xs t f) | false ↦ gather xs t f ]) z)
    later true r = subst T (sym (member-or (f y) (gather xs t f) z)) (T-or-right (member (f y) z) (member (gather xs t f) z) r)
    later false r = r

abbrev Gathered : List ℕ → (ℕ → Bool) → (ℕ → ℕ) → ℕ → Type 0
Gathered xs t f z = (x : ℕ) × Memᴰ x xs × T (t x) × T (member (f x) z)

gather-only : (xs : List ℕ) (t : ℕ → Bool) (f : ℕ → ℕ) (z : ℕ) → T (member (gather xs t f) z) → Gathered xs t f z
unfolding gather
gather-only [] t f z h = absurd (subst T (member-empty z) h)
gather-only (y ∷ xs) t f z h = go (gather-only xs t f z) (t y) refl h
  where
    tail : Gathered xs t f z → Gathered (y ∷ xs) t f z
    tail r = (r.0, Memᴰ.tail r.1, r.2, r.3)

    go : (T (member (gather xs t f) z) → Gathered xs t f z) → (b : Bool) → t y ≡ b
        → T (member (elim b [ true ↦ bit_or (f y) (gather xs t f) | false ↦ gather xs t f ]) z) → Gathered (y ∷ xs) t f z
    go r true e k =
        ⊎_elim (λ s. (y, Memᴰ.head refl, subst T (sym e) tt, s)) (λ s. tail (r s))
        (T-or (member (f y) z) (member (gather xs t f) z) (subst T (member-or (f y) (gather xs t f) z) k))
    go r false e k = tail (r k)

-- a number whose digits are below n is below 2 ^ n
pub members-lt : (n s : ℕ) → ((i : ℕ) → T (member s i) → i < n) → s < 2 ^ n
members-lt n s h =
    subst (λ (x : ℕ). x < 2 ^ n) (sym (same-members s (s % 2 ^ n) (λ i. same i (dec_lt i n)))) (mod-lt s (pow_pos n))
  where
    same : (i : ℕ) → Dec (i < n) → member s i ≡ member (s % 2 ^ n) i
    same i (yes l) = sym (member-low s n i l)
    same i (no l) =
        bool-ext (member s i) (member (s % 2 ^ n) i) (λ t. absurd (l (h i t)))
        (λ t. absurd (subst T (member-beyond n (s % 2 ^ n) i (mod-lt s (pow_pos n)) (omega arith)) t))

module _ (c : Code) (o : Operation) (xs ys : List ℕ) where
  abbrev Results : ℕ → Type 0
  Results z = Gives c o (bit xs) (bit ys) z

  pub results-in : (z : ℕ) → Results z → T (member (result_mask c o xs ys) z)
  unfolding result_mask
  results-in z g =
      gather-has (range (plain c) 0) (bit xs) (λ x. gather (range (plain c) 0) (bit ys) (λ y. marks (results c o x y)))
      g.first z (below_in g.first_plain) g.in-first
      (gather-has (range (plain c) 0) (bit ys) (λ y. marks (results c o g.first y)) g.second z (below_in g.second_plain) g.in-second
      (marks-has (results c o g.first g.second) z g.result))

  pub results-only : (z : ℕ) → T (member (result_mask c o xs ys) z) → Results z
  unfolding result_mask
  results-only z h =
      let x : Gathered (range (plain c) 0) (bit xs) (λ x. gather (range (plain c) 0) (bit ys) (λ y. marks (results c o x y))) z =
      gather-only (range (plain c) 0) (bit xs) (λ x. gather (range (plain c) 0) (bit ys) (λ y. marks (results c o x y))) z h
      in
      let y : Gathered (range (plain c) 0) (bit ys) (λ y. marks (results c o x.0 y)) z =
      gather-only (range (plain c) 0) (bit ys) (λ y. marks (results c o x.0 y)) z x.3
      in
      record {
        first = x.0;
        second = y.0;
        first_plain = in-below x.1;
        second_plain = in-below y.1;
        in-first = x.2;
        in-second = y.2;
        result = marks-only (results c o x.0 y.0) z y.3;
      }

  pub results-lt : result_mask c o xs ys < 2 ^ 7
  results-lt =
      members-lt 7 (result_mask c o xs ys)
      (λ z t. let g : Results z = results-only z t in
      lows-mem (results c o g.first g.second) (results-low c o g.first g.second) z g.result)

  -- a number with the same digits
  pub results-are : (m : ℕ) → ((z : ℕ) → T (member m z) → Results z) → ((z : ℕ) → Results z → T (member m z)) → result_mask c o xs ys ≡ m
  results-are m f g =
      same-members (result_mask c o xs ys) m
      (λ z. bool-ext (member (result_mask c o xs ys) z) (member m z) (λ t. g z (results-only z t)) (λ t. results-in z (f z t)))

-- ---- the rule

-- the words of C(i) that plain elements fill
abbrev pub side : Code → ℕ → List ℕ → ℕ → List ℕ
side c lead ws i = take lead (drop (base c (C i)) ws)

pub side-words : (c : Code) (lead : ℕ) (ws : List ℕ) → Words ws → (i : ℕ) → Words (side c lead ws i)
side-words c lead ws h i = part-words lead (base c (C i)) ws h

module _ (c : Code) (lead : ℕ) (n : plain c ≡ 32 * lead) (ws : List ℕ) (w : WellFormed c ws) where
  pub side-length : (i : ℕ) → i < c.size → length (side c lead ws i) ≡ lead
  unfolding row_words
  side-length i h = simp (length-take, length-drop) (omega (arith, C-inside c ws w i h))

  pub side-bit : (i x : ℕ) → i < c.size → x < plain c → sets c ws (C i) x ≡ bit (side c lead ws i) x
  unfolding bit
  side-bit i x h l =
      let k : x / 32 < lead = omega arith in
      sets-C c i x ws h (omega arith) ∙ ap (λ (y : ℕ). member y (x % 32)) (sym (rw (get_or-take, get_or-drop)))

  pub fire-operation : (p a d : ℕ) → p < c.size → a < c.size → d < c.size → (a ≡ p → ⊥) → (d ≡ p → ⊥) → (o : Operation)
      → fire c (two_rule c p (operation o) a d) ws ≡ pour ws (base c (C p)) (result_mask c o (side c lead ws a) (side c lead ws d) ∷ [])
  unfolding two_rule
  fire-operation p a d hp ha hd na nd o =
      fire-results c ws w p a d hp na nd o (result_mask c o xs ys) (omega (arith, results-lt c o xs ys))
      (λ z t. let g : Gives c o (bit xs) (bit ys) z = results-only c o xs ys z t in
      record {
        first = g.first;
        second = g.second;
        first_plain = g.first_plain;
        second_plain = g.second_plain;
        in-first = subst T (sym (side-bit a g.first ha g.first_plain)) g.in-first;
        in-second = subst T (sym (side-bit d g.second hd g.second_plain)) g.in-second;
        result = g.result;
      })
      (λ z g. results-in c o xs ys z
      (record {
        first = g.first;
        second = g.second;
        first_plain = g.first_plain;
        second_plain = g.second_plain;
        in-first = subst T (side-bit a g.first ha g.first_plain) g.in-first;
        in-second = subst T (side-bit d g.second hd g.second_plain) g.in-second;
        result = g.result;
      }))
    where
      xs : List ℕ
      xs = side c lead ws a

      ys : List ℕ
      ys = side c lead ws d
