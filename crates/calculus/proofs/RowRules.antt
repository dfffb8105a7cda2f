-- Rules that go element by element, as one operation on the words of a row: all of a row's elements below a limit, the elements of one
-- row with a property put into another, the members of a set of permissions; and the test whether a row has an element with a property.
use Prim.Native.Nat.{ℕ, zero, suc, ◌+◌, ◌-◌, ◌*◌, ◌/◌, ◌^◌, ◌≤◌, ◌<◌}
use mathlib.Core.Path.{◌≡◌, refl, sym, ap, ◌∙◌, subst}
use mathlib.Core.List.{List, [], ◌∷◌}
use mathlib.Core.Logic.{◌⊎◌, inl, inr, ⊎_elim}
use mathlib.Core.Bool.{Bool, true, false, not, ◌&&◌}
use native.Mathlib.Nat.{add-zero}
use native.Mathlib.Omega.{arith}
use lib.Dec.{T, eqb, eqb→eq, lit<}
use lib.Bits.{bit_and, and_comm, and_zero_l}
use lib.ListN.{get_or, drop}
use lib.Seq.{get_or-take, get_or-drop}
use Rattle.permset.specs.Sets.{width, member}
use Rattle.table.specs.Code.{Code}
use Rattle.calculus.specs.Elements.{plain, elements, is_string}
use Rattle.calculus.specs.Constraint.{Row, C, B, P, L, Rule, Obeys, put, only, every}
use Rattle.calculus.specs.Rules.{fill, pass}
use Rattle.calculus.specs.Layout.{bit, pour, owner, row_words, base, shift, span, place, allowed, used, sets, content, Words, WellFormed}
use Rattle.calculus.specs.Estimate.{fire}
use Rattle.calculus.proofs.Digits.{T_and, T-fst, T-snd, member-lt}
use Rattle.calculus.proofs.Slices.{bit_word, bit-short, length-pour, pour-words, pour-adds, pour-new, pour-has}
use Rattle.calculus.proofs.Places.{span-lt, is-allowed, place-used, place-lt, place-injective, fits-row}
use Rattle.calculus.proofs.Rows.{sets-allowed, sets-bit, in-sets, content-words, content-sound, content-complete}
use Rattle.calculus.proofs.Firing.{Fits, any_found}
use Rattle.calculus.proofs.Ranges.{below_in, in-below}
use Rattle.calculus.specs.Layout.{masked}
use Rattle.calculus.proofs.Masks.{T_false, bool-ext, get_or-masked, bit_masked, masked-words, nonzero, digit-word, word-digit, digit-nonzero, nonzero-digit, string-mask}
use Rattle.calculus.proofs.Folds.{found}
use Rattle.calculus.proofs.Demands.{Demands, found-has, fire-makes}

-- ---- words or-ed into one row

module _ (c : Code) where
  -- a row of the code, and words of which every digit is that of an element that the row may hold
  pub record RowOf (r : Row) (xs : List ℕ) : Type 0 where
    pub mine : owner r < c.size
    pub unshifted : shift c r ≡ 0
    pub words : Words xs
    pub inside : (v : ℕ) → T (bit xs v) → v < span c r

  module _ (ws : List ℕ) (w : WellFormed c ws) (r : Row) (xs : List ℕ) (o : RowOf r xs) where
    abbrev poured : List ℕ
    poured = pour ws (base c r) xs

    record New (n : ℕ) : Type 0 where
      element : ℕ
      source : T (bit xs element)
      here : n ≡ place c r element

    may : (v : ℕ) → T (bit xs v) → T (allowed c r v)
    may v h = is-allowed c r v o.mine (o.inside v h)

    row_new : (n : ℕ) → T (bit poured n) → T (bit ws n) ⊎ New n
    unfolding place
    row_new n h =
        ⊎_elim (λ a. inl a)
        (λ x. let z : shift c r ≡ 0 = o.unshifted in
        let g : 32 * base c r ≤ n = x.0 in
        inr (record { element = n - 32 * base c r; source = x.1; here = omega arith }))
        (pour-new ws (base c r) xs n h)

    pub row-well : WellFormed c poured
    row-well =
        record {
          long = length-pour ws (base c r) xs ∙ w.long;
          words = pour-words ws (base c r) xs w.words o.words;
          clean =
              λ n h. ⊎_elim (λ a. w.clean n a)
              (λ (x : New n). subst (λ (m : ℕ). T (used c m)) (sym x.here) (place-used c r x.element (may x.element x.source)))
              (row_new n h);
        }

    -- what is new is in this row, and was in the words
    pub row-only : (s : Row) (v : ℕ) → T (sets c poured s v) → T (sets c ws s v) ⊎ ((s ≡ r) × T (bit xs v))
    row-only s v h =
        ⊎_elim (λ a. inl (in-sets c ws s v (sets-allowed c poured s v h) a))
        (λ (x : New (place c s v)).
        let j : (s ≡ r) × (v ≡ x.element) =
        place-injective c s v r x.element (sets-allowed c poured s v h) (may x.element x.source) x.here
        in
        inr (j.0, subst (λ (u : ℕ). T (bit xs u)) (sym j.1) x.source))
        (row_new (place c s v) (sets-bit c poured s v h))

    -- and all of the words is there
    pub row_has : (v : ℕ) → T (bit xs v) → T (sets c poured r v)
    unfolding place
    row_has v h =
        let z : shift c r ≡ 0 = o.unshifted in
        let p : 32 * base c r + v ≡ place c r v = omega arith in
        in-sets c poured r v (may v h)
        (subst (λ (n : ℕ). T (bit poured n)) p (pour-has ws (base c r) xs v (rw (p, w.long) (place-lt c r v (may v h))) h))

    -- a rule that these words obey, and that demands each of the elements or-ed in, makes them
    pub fire-row : (k : Rule) → Fits c k → Obeys (sets c poured) k → ((v : ℕ) → T (bit xs v) → Demands (sets c ws) k r v) → fire c k ws ≡ poured
    fire-row k f b d =
        fire-makes c k f ws poured w row-well (pour-adds ws (base c r) xs) b
        (λ s v h. ⊎_elim (λ a. inl a)
        (λ (x : (s ≡ r) × T (bit xs v)). inr (subst (λ (t : Row). Demands (sets c ws) k t v) (sym x.0) (d v x.1)))
        (row-only s v h))

  -- ---- value sets and held sets

  -- a row of values of a word of the code
  pub record ValueRow (r : Row) : Type 0 where
    pub mine : owner r < c.size
    pub full : span c r ≡ elements c

  pub C-row : (i : ℕ) → i < c.size → ValueRow (C i)
  unfolding owner span
  C-row i h = record { mine = h; full = refl }

  pub B-row : (i : ℕ) → i < c.size → ValueRow (B i)
  unfolding owner span
  B-row i h = record { mine = h; full = refl }

  flat : (r : Row) → span c r ≡ elements c → shift c r ≡ 0
  unfolding span shift
  flat (C i) e = refl
  flat (B i) e = refl
  flat (P i) e = refl
  flat (L i) e = absurd (omega arith)

  -- "all 64" in a row: xs has the digits below `plain c`
  pub fire-fill : (ws : List ℕ) → WellFormed c ws → (r : Row) → ValueRow r → (xs : List ℕ) → Words xs
      → ((v : ℕ) → T (bit xs v) → v < plain c) → ((v : ℕ) → v < plain c → T (bit xs v)) → fire c (fill c r) ws ≡ pour ws (base c r) xs
  fire-fill ws w r o xs x f g =
      let e : span c r ≡ elements c = o.full in
      let k : RowOf r xs = record { mine = o.mine; unshifted = flat r o.full; words = x; inside = λ v h. omega (arith, f v h) } in
      fire-row ws w r xs k (fill c r) (λ v m. let l : v < plain c = in-below m in is-allowed c r v o.mine (omega arith))
      (λ v m. row_has ws w r xs k v (g v (in-below m))) (λ v h. (v, below_in (f v h), (refl, refl)))

-- the words of a row of values, from its base on
pub content-word : (c : Code) (ws : List ℕ) (r : Row) → span c r ≡ elements c → (k : ℕ) → k < row_words c
    → get_or (content c ws r) k 0 ≡ get_or ws (base c r + k) 0
unfolding content span
content-word c ws (C i) e k h = get_or-take (row_words c) (drop (base c (C i)) ws) k 0 h ∙ get_or-drop (base c (C i)) ws k 0
content-word c ws (B i) e k h = get_or-take (row_words c) (drop (base c (B i)) ws) k 0 h ∙ get_or-drop (base c (B i)) ws k 0
content-word c ws (P i) e k h = absurd (omega arith)
content-word c ws (L i) e k h = absurd (omega arith)

module _ (c : Code) (ws : List ℕ) (w : WellFormed c ws) where
  -- ---- the elements of a row with a property, by a mask: m has digit v exactly where v has the property

  module _ (q : ℕ → Bool) (m : List ℕ) (e : (v : ℕ) → v < elements c → bit m v ≡ q v) where
    module _ (r : Row) (o : ValueRow c r) where
      masked-in : (v : ℕ) → T (q v) → T (sets c ws r v) → T (bit (masked m (content c ws r)) v)
      masked-in v t h =
          let l : v < span c r = span-lt c r v (sets-allowed c ws r v h) in
          let f : span c r ≡ elements c = o.full in
          subst T (sym (bit_masked m (content c ws r) v))
          (T_and (bit m v) (bit (content c ws r) v) (subst T (sym (e v (omega arith))) t) (content-complete c ws w r v (flat c r o.full) h))

      masked-set : (v : ℕ) → T (bit (masked m (content c ws r)) v) → T (sets c ws r v)
      masked-set v h =
          content-sound c ws w r v o.mine (T-snd (bit m v) (bit (content c ws r) v) (subst T (bit_masked m (content c ws r) v) h))

      masked-lt : (v : ℕ) → T (bit (masked m (content c ws r)) v) → v < elements c
      masked-lt v h =
          let f : span c r ≡ elements c = o.full in omega (arith, span-lt c r v (sets-allowed c ws r v (masked-set v h)))

      masked-has : (v : ℕ) → T (bit (masked m (content c ws r)) v) → T (q v)
      masked-has v h =
          subst T (e v (masked-lt v h)) (T-fst (bit m v) (bit (content c ws r) v) (subst T (bit_masked m (content c ws r) v) h))

    pub fire-pass : (a b : Row) → ValueRow c a → ValueRow c b → fire c (pass c a q b) ws ≡ pour ws (base c b) (masked m (content c ws a))
    fire-pass a b i o =
        let f : span c b ≡ elements c = o.full in
        let k : RowOf c b (masked m (content c ws a)) =
        record {
          mine = o.mine;
          unshifted = flat c b o.full;
          words = masked-words m (content c ws a) (content-words c ws w a);
          inside = λ v h. omega (arith, masked-lt a i v h);
        }
        in
        fire-row c ws w b (masked m (content c ws a)) k (pass c a q b)
        (λ v n t. is-allowed c b v o.mine (omega (arith, in-below n)))
        (λ v n t h. ⊎_elim (λ s. row_has c ws w b (masked m (content c ws a)) k v (masked-in a i v t s))
        (λ (x : (a ≡ b) × T (bit (masked m (content c ws a)) v)). row_has c ws w b (masked m (content c ws a)) k v x.1)
        (row-only c ws w b (masked m (content c ws a)) k a v h))
        (λ v h. (v, below_in (masked-lt a i v h), (masked-has a i v h, (masked-set a i v h, (refl, refl)))))

    -- ---- the test of `some`

    module _ (r : Row) (o : ValueRow c r) where
      -- an element that passes the test is a digit of the words
      found-digit : T (found c ws r q) → (v : ℕ) × T (bit (masked m (content c ws r)) v)
      unfolding found
      found-digit h =
          let x : (v : ℕ) × T (q v && sets c ws r v) = any_found (span c r) 0 (λ v. q v && sets c ws r v) h in
          let v : ℕ = x.0 in
          (v, masked-in r o v (T-fst (q v) (sets c ws r v) x.1) (T-snd (q v) (sets c ws r v) x.1))

      digit-found : (v : ℕ) → T (bit (masked m (content c ws r)) v) → found c ws r q ≡ true
      digit-found v h = found-has c ws r q v (masked-has r o v h) (masked-set r o v h)

      pub found-masked : found c ws r q ≡ nonzero (masked m (content c ws r))
      found-masked =
          bool-ext (found c ws r q) (nonzero (masked m (content c ws r)))
          (λ h. let x : (v : ℕ) × T (bit (masked m (content c ws r)) v) = found-digit h in digit-nonzero (masked m (content c ws r)) x.0 x.1)
          (λ h. let x : (v : ℕ) × T (bit (masked m (content c ws r)) v) =
          nonzero-digit (masked m (content c ws r)) (masked-words m (content c ws r) (content-words c ws w r)) h
          in
          subst T (sym (digit-found x.0 x.1)) tt)

      -- word by word
      pub found_at : (k : ℕ) → k < row_words c → (bit_and (get_or m k 0) (get_or ws (base c r + k) 0) ≡ 0 → ⊥) → found c ws r q ≡ true
      found_at k h n =
          let x : (v : ℕ) × T (bit (masked m (content c ws r)) v) =
          word-digit (masked m (content c ws r)) (masked-words m (content c ws r) (content-words c ws w r)) k
          (λ z. n (ap (λ (y : ℕ). bit_and (get_or m k 0) y) (sym (content-word c ws r o.full k h)) ∙ sym (get_or-masked m (content c ws r) k) ∙ z))
          in
          digit-found x.0 x.1

      pub found_none : ((k : ℕ) → k < row_words c → bit_and (get_or m k 0) (get_or ws (base c r + k) 0) ≡ 0) → found c ws r q ≡ false
      found_none n =
          T_false (found c ws r q)
          (λ h. let x : (v : ℕ) × T (bit (masked m (content c ws r)) v) = found-digit h in
          let k : ℕ = x.0 / 32 in
          let l : k < row_words c = omega (arith, masked-lt r o x.0 x.1, fits-row c) in
          digit-word (masked m (content c ws r)) x.0 x.1
          (get_or-masked m (content c ws r) k ∙ ap (λ (y : ℕ). bit_and (get_or m k 0) y) (content-word c ws r o.full k l) ∙ n k l))

  -- strings are the digits 8 to 31 of the first word
  pub found-string : (r : Row) → ValueRow c r → found c ws r is_string ≡ not (eqb (bit_and (get_or ws (base c r) 0) 0xffffff00) 0)
  found-string r o = go (eqb (bit_and (get_or ws (base c r) 0) 0xffffff00) 0) refl
    where
      turned : bit_and 0xffffff00 (get_or ws (base c r + 0) 0) ≡ bit_and (get_or ws (base c r) 0) 0xffffff00
      turned =
          and_comm 0xffffff00 (get_or ws (base c r + 0) 0) ∙ ap (λ (n : ℕ). bit_and (get_or ws n 0) 0xffffff00) (add-zero (base c r))

      word : bit_and (get_or ws (base c r) 0) 0xffffff00 ≡ 0 → (k : ℕ) → bit_and (get_or (0xffffff00 ∷ []) k 0) (get_or ws (base c r + k) 0) ≡ 0
      word z zero = turned ∙ z
      word z (suc k) = and_zero_l (get_or ws (base c r + suc k) 0)

      go : (b : Bool) → eqb (bit_and (get_or ws (base c r) 0) 0xffffff00) 0 ≡ b → found c ws r is_string ≡ not b
      go true e =
          found_none is_string (0xffffff00 ∷ []) (λ v l. string-mask v) r o
          (λ k l. word (eqb→eq (bit_and (get_or ws (base c r) 0) 0xffffff00) 0 (subst T (sym e) tt)) k)
      go false e =
          found_at is_string (0xffffff00 ∷ []) (λ v l. string-mask v) r o 0 (omega (arith, fits-row c))
          (λ z. subst T (sym (ap (λ (y : ℕ). eqb y 0) (sym turned ∙ z)) ∙ e) tt)

  -- ---- the permissions that are exercised

  pub fire-members : (p r : ℕ) → p < c.size → r < 2 ^ width
      → fire c (every width (λ i. only (member r i) (put (P p) i))) ws ≡ pour ws (base c (P p)) (r ∷ [])
  unfolding owner span shift
  fire-members p r h l =
      let k : RowOf c (P p) (r ∷ []) = record { mine = h; unshifted = refl; words = words; inside = λ v b. member-lt width r v l (is v b) } in
      fire-row c ws w (P p) (r ∷ []) k (every width (λ i. only (member r i) (put (P p) i)))
      (λ v n t. is-allowed c (P p) v h (in-below n))
      (λ v n t. let a : v < width = in-below n in row_has c ws w (P p) (r ∷ []) k v (subst T (sym (bit_word r v (omega arith))) t))
      (λ v b. (v, below_in (member-lt width r v l (is v b)), (is v b, (refl, refl))))
    where
      words : Words (r ∷ [])
      words zero = omega arith
      words (suc k) = lit< tt

      is : (v : ℕ) → T (bit (r ∷ []) v) → T (member r v)
      is v b = subst T (bit_word r v (bit-short (r ∷ []) v b)) b

-- ---- a rule at each word that makes a thing which is in a row
