-- Where the rows of an estimate stand: no two elements share a digit, every used digit is an element's, and how many digits are used.
use Prim.Native.Nat.{ℕ, zero, suc, ◌+◌, ◌-◌, ◌*◌, ◌/◌, ◌%◌, ◌≤◌, ◌<◌}
use mathlib.Core.Path.{◌≡◌, refl, sym, ap, ap₂, ◌∙◌, subst}
use mathlib.Core.Bool.{Bool, true, false, ◌&&◌, or-false}
use mathlib.Core.Logic.{⊎_elim}
use native.Mathlib.Nat.{div-add-mod', mul_left_comm, mul-add, mul_comm, suc-mul, div-lt_iff_lt-mul, mul_assoc}
use native.Mathlib.Decide.{dec_lt}
use native.Mathlib.Omega.{arith}
use borrow.Author.Tests.{lt-ltb, le-ltb, lt-leb, le-leb}
use lib.Dec.{T, leb, ltb, ltb→lt, lt→ltb, leb→le, le→leb, lit≤}
use lib.Arith.{digits_lt, digits_div, digits_mod}
use Rattle.permset.specs.Sets.{width}
use Rattle.table.specs.Code.{Code}
use Rattle.calculus.specs.Elements.{elements}
use Rattle.calculus.specs.Constraint.{Row, C, B, P, L}
use Rattle.calculus.specs.Layout.{owner, row_words, estimate_words, base, shift, span, place, allowed, used}
use Rattle.calculus.specs.Estimate.{most_facts}
use Rattle.calculus.proofs.Digits.{T_and, T-fst, T-snd, T-or, T-or-left, T-or-right}
use Rattle.calculus.proofs.Counting.{count, count_add, count-blocks, count-below}

module _ (c : Code) where
  -- the digits of a value set or a held set, and of all of them
  abbrev pub digits : ℕ
  digits = 32 * row_words c

  abbrev pub low : ℕ
  low = 32 * (2 * c.size * row_words c)

  pub fits-row : elements c ≤ digits
  unfolding row_words
  fits-row = omega arith

  digits-pos : 0 < digits
  digits-pos = omega (arith, fits-row)

  low-digits : 2 * c.size * digits ≡ low
  low-digits = sym (mul_left_comm 32 (2 * c.size) (row_words c))

  length_digits : 32 * estimate_words c ≡ low + 32 * c.size
  unfolding estimate_words
  length_digits = mul-add 32 (2 * c.size * row_words c) c.size

  pub owner-lt : (r : Row) (v : ℕ) → T (allowed c r v) → owner r < c.size
  unfolding allowed
  owner-lt r v h = ltb→lt (owner r) c.size (T-fst (ltb (owner r) c.size) (ltb v (span c r)) h)

  pub span-lt : (r : Row) (v : ℕ) → T (allowed c r v) → v < span c r
  unfolding allowed
  span-lt r v h = ltb→lt v (span c r) (T-snd (ltb (owner r) c.size) (ltb v (span c r)) h)

  pub is-allowed : (r : Row) (v : ℕ) → owner r < c.size → v < span c r → T (allowed c r v)
  unfolding allowed
  is-allowed r v h k = T_and (ltb (owner r) c.size) (ltb v (span c r)) (lt→ltb (owner r) c.size h) (lt→ltb v (span c r) k)

  -- ---- the rows by their numbers: C(i) is row 2i, B(i) row 2i+1; the permissions and flags come after them

  pub place-C : (i v : ℕ) → place c (C i) v ≡ 2 * i * digits + v
  unfolding place base shift
  place-C i v = let e : 32 * (2 * i * row_words c) ≡ 2 * i * digits = mul_left_comm 32 (2 * i) (row_words c) in omega arith

  pub place-B : (i v : ℕ) → place c (B i) v ≡ suc (2 * i) * digits + v
  unfolding place base shift
  place-B i v =
      let e : 32 * (2 * i * row_words c) ≡ 2 * i * digits = mul_left_comm 32 (2 * i) (row_words c) in
      let f : suc (2 * i) * digits ≡ 2 * i * digits + digits = suc-mul (2 * i) digits in
      omega arith

  pub place-P : (i v : ℕ) → place c (P i) v ≡ low + (32 * i + v)
  unfolding place base shift
  place-P i v = omega arith

  place-L : (i v : ℕ) → place c (L i) v ≡ low + (32 * i + (width + v))
  unfolding place base shift
  place-L i v = omega arith

  row_lt : {q v : ℕ} → q < 2 * c.size → v < elements c → q * digits + v < low
  row_lt {q} {v} h k = subst (λ (x : ℕ). q * digits + v < x) low-digits (digits_lt h (omega (arith, fits-row)))

  row-used : {q v : ℕ} → q < 2 * c.size → v < elements c → T (used c (q * digits + v))
  unfolding used
  row-used {q} {v} h k =
      T-or-left (ltb (q * digits + v) low && ltb ((q * digits + v) % digits) (elements c)) _
      (T_and (ltb (q * digits + v) low) (ltb ((q * digits + v) % digits) (elements c)) (lt→ltb (q * digits + v) low (row_lt h k))
      (rw (digits_mod q {m = digits} {r = v} (omega (arith, fits-row))) (lt→ltb v (elements c) k)))

  word-used : (i d : ℕ) → d < suc width → T (used c (low + (32 * i + d)))
  unfolding used
  word-used i d h =
      let n : ℕ = low + (32 * i + d) in
      let e : n % 32 ≡ d = omega arith in
      T-or-right (ltb n low && ltb (n % digits) (elements c)) (leb low n && ltb (n % 32) (suc width))
      (T_and (leb low n) (ltb (n % 32) (suc width)) (le→leb low n (omega arith)) (rw e (lt→ltb d (suc width) h)))

  pub place-used : (r : Row) (v : ℕ) → T (allowed c r v) → T (used c (place c r v))
  unfolding owner span
  place-used (C i) v h = let a : i < c.size = owner-lt (C i) v h in rw place-C (row-used (omega arith) (span-lt (C i) v h))
  place-used (B i) v h = let a : i < c.size = owner-lt (B i) v h in rw place-B (row-used (omega arith) (span-lt (B i) v h))
  place-used (P i) v h = let a : v < width = span-lt (P i) v h in rw place-P (word-used i v (omega arith))
  place-used (L i) v h = let a : v < 1 = span-lt (L i) v h in rw place-L (word-used i (width + v) (omega arith))

  pub place-lt : (r : Row) (v : ℕ) → T (allowed c r v) → place c r v < 32 * estimate_words c
  unfolding owner span
  place-lt (C i) v h =
      let a : i < c.size = owner-lt (C i) v h in
      let b : 2 * i * digits + v < low = row_lt (omega arith) (span-lt (C i) v h) in
      omega (arith, place-C i v, length_digits)
  place-lt (B i) v h =
      let a : i < c.size = owner-lt (B i) v h in
      let b : suc (2 * i) * digits + v < low = row_lt (omega arith) (span-lt (B i) v h) in
      omega (arith, place-B i v, length_digits)
  place-lt (P i) v h =
      let a : i < c.size = owner-lt (P i) v h in
      let b : v < width = span-lt (P i) v h in
      omega (arith, place-P i v, length_digits)
  place-lt (L i) v h =
      let a : i < c.size = owner-lt (L i) v h in
      let b : v < 1 = span-lt (L i) v h in
      omega (arith, place-L i v, length_digits)

  -- ---- every used digit is that of an element

  pub record At (n : ℕ) : Type 0 where
    pub row : Row
    pub element : ℕ
    pub may : T (allowed c row element)
    pub here : n ≡ place c row element

  pub used-place : (n : ℕ) → n < 32 * estimate_words c → T (used c n) → At n
  unfolding used owner span
  used-place n h u =
      ⊎_elim
      (λ a. below (ltb→lt n low (T-fst (ltb n low) (ltb (n % digits) (elements c)) a))
      (ltb→lt (n % digits) (elements c) (T-snd (ltb n low) (ltb (n % digits) (elements c)) a)))
      (λ a. above (leb→le low n (T-fst (leb low n) (ltb (n % 32) (suc width)) a))
      (ltb→lt (n % 32) (suc width) (T-snd (leb low n) (ltb (n % 32) (suc width)) a)))
      (T-or (ltb n low && ltb (n % digits) (elements c)) (leb low n && ltb (n % 32) (suc width)) u)
    where
      -- the row of n / digits is C or B by its parity
      parity : (q i : ℕ) → q ≡ n / digits → q < 2 * c.size → n % digits < elements c → i ≡ q / 2 → Dec (q % 2 < 1) → At n
      parity q i e l k o (yes z) =
          let t : q ≡ 2 * i = omega arith in
          record {
            row = C i;
            element = n % digits;
            may = is-allowed (C i) (n % digits) (omega arith) k;
            here = sym (div-add-mod' n digits) ∙ ap (λ (x : ℕ). x * digits + n % digits) (sym e ∙ t) ∙ sym (place-C i (n % digits));
          }
      parity q i e l k o (no z) =
          let t : q ≡ suc (2 * i) = omega arith in
          record {
            row = B i;
            element = n % digits;
            may = is-allowed (B i) (n % digits) (omega arith) k;
            here = sym (div-add-mod' n digits) ∙ ap (λ (x : ℕ). x * digits + n % digits) (sym e ∙ t) ∙ sym (place-B i (n % digits));
          }

      below : n < low → n % digits < elements c → At n
      below l k =
          let q : n / digits < 2 * c.size = (div-lt_iff_lt-mul digits-pos).1 (rw low-digits l) in
          parity (n / digits) (n / digits / 2) refl q k refl (dec_lt (n / digits % 2) 1)

      flag : (i d : ℕ) → n ≡ low + (32 * i + d) → i < c.size → d < suc width → Dec (d < width) → At n
      flag i d e l k (yes z) = record { row = P i; element = d; may = is-allowed (P i) d l z; here = e ∙ sym (place-P i d) }
      flag i d e l k (no z) =
          let t : d ≡ width + 0 = omega arith in
          record {
            row = L i;
            element = 0;
            may = is-allowed (L i) 0 l (omega arith);
            here = e ∙ ap (λ (x : ℕ). low + (32 * i + x)) t ∙ sym (place-L i 0);
          }

      above : low ≤ n → n % 32 < suc width → At n
      above l k = flag ((n - low) / 32) (n % 32) (omega arith) (omega (arith, length_digits)) k (dec_lt (n % 32) width)

  -- ---- no two elements share a digit

  word-digit : (i d : ℕ) → d < 32 → (low + (32 * i + d)) % 32 ≡ d
  word-digit i d h = omega arith

  word_number : (i d : ℕ) → d < 32 → (low + (32 * i + d) - low) / 32 ≡ i
  word_number i d h = omega arith

  -- the row and the element of a digit, from whether it stands among the sets, the parity and the half of its row's number and its place
  -- in the row, whether it stands among the permissions, and the number of its word and its place in the word
  row_by : Bool → ℕ → ℕ → Bool → ℕ → Row
  row_by true zero h b i = C h
  row_by true (suc n) h b i = B h
  row_by false n h true i = P i
  row_by false n h false i = L i

  element_by : Bool → ℕ → Bool → ℕ → ℕ
  element_by true v b d = v
  element_by false v true d = d
  element_by false v false d = d - width

  row_at : ℕ → Row
  row_at n = row_by (ltb n low) (n / digits % 2) (n / digits / 2) (ltb (n % 32) width) ((n - low) / 32)

  element_at : ℕ → ℕ
  element_at n = element_by (ltb n low) (n % digits) (ltb (n % 32) width) (n % 32)

  abbrev Back : ℕ → Row → ℕ → Type 0
  Back n r v = (row_at n ≡ r) × (element_at n ≡ v)

  row_back : (q v : ℕ) → q < 2 * c.size → v < elements c → Back (q * digits + v) (row_by true (q % 2) (q / 2) true 0) v
  unfolding row_by element_by row_at element_at
  row_back q v h k =
      let a : v < digits = omega (arith, fits-row) in
      rw (lt-ltb (q * digits + v) low (row_lt h k), digits_div q a, digits_mod q a) (go (q % 2), refl)
    where
      go : (n : ℕ) → row_by true n (q / 2) (ltb ((q * digits + v) % 32) width) ((q * digits + v - low) / 32) ≡ row_by true n (q / 2) true 0
      go zero = refl
      go (suc n) = refl

  word_back : (i d : ℕ) (b : Bool) → d < 32 → ltb d width ≡ b → Back (low + (32 * i + d)) (row_by false 0 0 b i) (element_by false 0 b d)
  unfolding row_by element_by row_at element_at
  word_back i d true h t = rw (le-ltb (low + (32 * i + d)) low (omega arith), word-digit i d h, word_number i d h, t) (refl, refl)
  word_back i d false h t = rw (le-ltb (low + (32 * i + d)) low (omega arith), word-digit i d h, word_number i d h, t) (refl, refl)

  back : (r : Row) (v : ℕ) → T (allowed c r v) → Back (place c r v) r v
  unfolding owner span row_by element_by
  back (C i) v h =
      let a : i < c.size = owner-lt (C i) v h in
      let e : 2 * i % 2 ≡ 0 = omega arith in
      let f : 2 * i / 2 ≡ i = omega arith in
      rw place-C (rw (e, f) at (row_back (2 * i) v (omega arith) (span-lt (C i) v h)))
  back (B i) v h =
      let a : i < c.size = owner-lt (B i) v h in
      let e : suc (2 * i) % 2 ≡ 1 = omega arith in
      let f : suc (2 * i) / 2 ≡ i = omega arith in
      rw place-B (rw (e, f) at (row_back (suc (2 * i)) v (omega arith) (span-lt (B i) v h)))
  back (P i) v h =
      let a : v < width = span-lt (P i) v h in
      rw place-P (word_back i v true (omega arith) (lt-ltb v width a))
  back (L i) v h =
      let a : v < 1 = span-lt (L i) v h in
      let e : width + v - width ≡ v = omega arith in
      rw place-L (rw e at (word_back i (width + v) false (omega arith) (le-ltb (width + v) width (omega arith))))

  pub place-injective : (r : Row) (v : ℕ) (s : Row) (w : ℕ) → T (allowed c r v) → T (allowed c s w) → place c r v ≡ place c s w
      → (r ≡ s) × (v ≡ w)
  place-injective r v s w h k e =
      (sym (back r v h).0 ∙ ap row_at e ∙ (back s w k).0, sym (back r v h).1 ∙ ap element_at e ∙ (back s w k).1)

  -- ---- how many digits are used

  total : (s e : ℕ) → 2 * s * e + s * suc width ≡ s * (2 * e + suc width)
  total s e =
      let a : s * (2 * e + suc width) ≡ s * (2 * e) + s * suc width = mul-add s (2 * e) (suc width) in
      let b : 2 * s * e ≡ s * (2 * e) = mul_assoc 2 s e ∙ mul_left_comm 2 s e in
      omega arith

  in_row : (i j : ℕ) → i < 2 * c.size → j < digits → used c (i * digits + j) ≡ ltb j (elements c)
  unfolding used
  in_row i j h k =
      let l : i * digits + j < low = subst (λ (x : ℕ). i * digits + j < x) low-digits (digits_lt h k) in
      rw (lt-ltb (i * digits + j) low l, lt-leb low (i * digits + j) l, digits_mod i k) (or-false (ltb j (elements c)))

  pub used-row : (q v : ℕ) → q < 2 * c.size → v < digits → T (used c (q * digits + v)) → v < elements c
  used-row q v h k u = ltb→lt v (elements c) (subst T (in_row q v h k) u)

  in-word : (i j : ℕ) → i < c.size → j < 32 → used c (2 * c.size * digits + (i * 32 + j)) ≡ ltb j (suc width)
  unfolding used
  in-word i j h k =
      let e : 2 * c.size * digits + (i * 32 + j) ≡ low + (32 * i + j) = omega (arith, low-digits) in
      rw (e, le-ltb (low + (32 * i + j)) low (omega arith), le-leb low (low + (32 * i + j)) (omega arith), word-digit i j k)

  pub count-used : count (32 * estimate_words c) (used c) ≡ most_facts c
  unfolding most_facts
  count-used =
      ap (λ (n : ℕ). count n (used c)) (length_digits ∙ ap₂ (λ (a b : ℕ). a + b) (sym low-digits) (mul_comm 32 c.size))
      ∙ count_add (2 * c.size * digits) (c.size * 32) (used c)
      ∙ ap₂ (λ (a b : ℕ). a + b)
      (count-blocks (2 * c.size) digits (used c) (λ j. ltb j (elements c)) in_row
      ∙ ap (λ (n : ℕ). 2 * c.size * n) (count-below digits (elements c) fits-row))
      (count-blocks c.size 32 (λ k. used c (2 * c.size * digits + k)) (λ j. ltb j (suc width)) in-word
      ∙ ap (λ (n : ℕ). c.size * n) (count-below 32 (suc width) (lit≤ tt)))
      ∙ total c.size (elements c)
