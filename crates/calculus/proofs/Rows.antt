-- The sets that a list of words holds: how they change where one element is put, and where one row is or-ed into another.
use Prim.Native.Nat.{ℕ, zero, suc, ◌+◌, ◌-◌, ◌*◌, ◌/◌, ◌%◌, ◌^◌, ◌≤◌, ◌<◌}
use mathlib.Core.Path.{◌≡◌, refl, sym, ap, ap₂, ◌∙◌, subst}
use mathlib.Core.List.{List, [], ◌∷◌}
use mathlib.Core.Logic.{◌⊎◌, inl, inr, ⊎_elim}
use native.Mathlib.Nat.{mod-lt}
use native.Mathlib.Decide.{dec_lt}
use native.Mathlib.Omega.{arith}
use lib.Dec.{T, lit<}
use lib.ListN.{length, get_or, take, drop, length-take, get_or-eq_default}
use lib.Seq.{get_or-take, get_or-drop}
use lib.Pow.{pow_pos}
use Rattle.permset.specs.Sets.{width, member}
use Rattle.table.specs.Code.{Code}
use Rattle.calculus.specs.Elements.{elements}
use Rattle.calculus.specs.Constraint.{Row, C, B, P, L, Sets}
use Rattle.calculus.specs.Layout.{bit, pour, mark, owner, row_words, base, shift, span, place, allowed, used, sets, content}
use Rattle.calculus.specs.Layout.{Words, WellFormed, LiesIn}
use Rattle.calculus.proofs.Digits.{T_and, T-fst, T-snd, member-low, member-lt}
use Rattle.calculus.proofs.Slices.{bit_at, bit_word, bit-short, length-pour, pour-words, pour-new, pour-has, length-mark}
use Rattle.calculus.proofs.Slices.{mark-words, mark-new, mark-has}
use Rattle.calculus.proofs.Places.{span-lt, is-allowed, place-used, place-lt, place-injective, place-C, place-B, digits}
use Rattle.calculus.proofs.Places.{used-row, fits-row}

module _ (c : Code) where
  -- two rows of the code that hold sets of one kind, so that the one may be passed on to the other
  pub record Alike (a b : Row) : Type 0 where
    pub from : owner a < c.size
    pub to : owner b < c.size
    pub spans : span c a ≡ span c b
    pub unshifted-from : shift c a ≡ 0
    pub unshifted-to : shift c b ≡ 0

  module _ (ws : List ℕ) where
    pub sets-allowed : (r : Row) (v : ℕ) → T (sets c ws r v) → T (allowed c r v)
    unfolding sets
    sets-allowed r v h = T-fst (allowed c r v) (bit ws (place c r v)) h

    pub sets-bit : (r : Row) (v : ℕ) → T (sets c ws r v) → T (bit ws (place c r v))
    unfolding sets
    sets-bit r v h = T-snd (allowed c r v) (bit ws (place c r v)) h

    pub in-sets : (r : Row) (v : ℕ) → T (allowed c r v) → T (bit ws (place c r v)) → T (sets c ws r v)
    unfolding sets
    in-sets r v h k = T_and (allowed c r v) (bit ws (place c r v)) h k

  module _ (ws : List ℕ) (w : WellFormed c ws) where
    -- ---- the words of a row

    row-bit : (at n m : ℕ) → m < 32 * n → bit (take n (drop at ws)) m ≡ bit ws (32 * at + m)
    unfolding bit
    row-bit at n m h =
        let d : (32 * at + m) / 32 ≡ at + m / 32 = omega arith in
        let e : (32 * at + m) % 32 ≡ m % 32 = omega arith in
        ap₂ (λ (x y : ℕ). member x y)
        (get_or-take n (drop at ws) (m / 32) 0 (omega arith) ∙ get_or-drop at ws (m / 32) 0 ∙ ap (λ (k : ℕ). get_or ws k 0) (sym d)) (sym e)

    row-short : (at n m : ℕ) → T (bit (take n (drop at ws)) m) → m < 32 * n
    row-short at n m h = omega (arith, bit-short (take n (drop at ws)) m h, length-take n (drop at ws))

    row_words_lem : (at n : ℕ) → Words (take n (drop at ws))
    row_words_lem at n k = go (dec_lt k n)
      where
        go : Dec (k < n) → get_or (take n (drop at ws)) k 0 < 2 ^ 32
        go (yes h) = rw (get_or-take n (drop at ws) k 0 h, get_or-drop at ws k 0) (w.words (at + k))
        go (no h) =
            let l : length (take n (drop at ws)) ≤ k = omega (arith, length-take n (drop at ws)) in
            rw (get_or-eq_default (take n (drop at ws)) 0 l) (lit< tt)

    pub content-words : (r : Row) → Words (content c ws r)
    unfolding content
    content-words (C i) k = row_words_lem (base c (C i)) (row_words c) k
    content-words (B i) k = row_words_lem (base c (B i)) (row_words c) k
    content-words (P i) zero = omega (arith, mod-lt (get_or ws (base c (P i)) 0) {m = 2 ^ width} (lit< tt))
    content-words (P i) (suc k) = lit< tt
    content-words (L i) k = lit< tt

    -- a digit of a row's words is an element of its set
    value-sound : (r : Row) (q m : ℕ) → shift c r ≡ 0 → 32 * base c r ≡ q * digits c → q < 2 * c.size → owner r < c.size
        → span c r ≡ elements c → T (bit (take (row_words c) (drop (base c r) ws)) m) → T (sets c ws r m)
    unfolding place
    value-sound r q m z e l o s h =
        let k : m < digits c = row-short (base c r) (row_words c) m h in
        let p : place c r m ≡ q * digits c + m = omega arith in
        let b : T (bit ws (place c r m)) =
        subst T (row-bit (base c r) (row_words c) m k ∙ ap (λ (n : ℕ). bit ws n) (omega arith)) h
        in
        let u : m < elements c = used-row c q m l k (subst (λ (n : ℕ). T (used c n)) p (w.clean (place c r m) b)) in
        in-sets ws r m (is-allowed c r m o (omega arith)) b

    pub content-sound : (r : Row) (m : ℕ) → owner r < c.size → T (bit (content c ws r) m) → T (sets c ws r m)
    unfolding content owner span shift place
    content-sound (C i) m o h = value-sound (C i) (2 * i) m refl (omega (arith, place-C c i 0)) (omega arith) o refl h
    content-sound (B i) m o h = value-sound (B i) (suc (2 * i)) m refl (omega (arith, place-B c i 0)) (omega arith) o refl h
    content-sound (P i) m o h =
        let x : ℕ = get_or ws (base c (P i)) 0 in
        let l : m < 32 = bit-short (x % 2 ^ width ∷ []) m h in
        let d : T (member (x % 2 ^ width) m) = subst T (bit_word (x % 2 ^ width) m l) h in
        let k : m < width = member-lt width (x % 2 ^ width) m (mod-lt x (pow_pos width)) d in
        let e : 32 * base c (P i) + m ≡ place c (P i) m = omega arith in
        in-sets ws (P i) m (is-allowed c (P i) m o k)
        (subst T (member-low x width m k ∙ sym (bit_at ws (base c (P i)) m l) ∙ ap (λ (n : ℕ). bit ws n) e) d)
    content-sound (L i) m o h = absurd (omega (arith, bit-short [] m h))

    -- and the other way round
    value-complete : (r : Row) (m : ℕ) → shift c r ≡ 0 → span c r ≡ elements c → T (sets c ws r m)
        → T (bit (take (row_words c) (drop (base c r) ws)) m)
    unfolding place
    value-complete r m z s h =
        let k : m < span c r = span-lt c r m (sets-allowed ws r m h) in
        let e : place c r m ≡ 32 * base c r + m = omega arith in
        subst T (ap (λ (n : ℕ). bit ws n) e ∙ sym (row-bit (base c r) (row_words c) m (omega (arith, fits-row c)))) (sets-bit ws r m h)

    pub content-complete : (r : Row) (m : ℕ) → shift c r ≡ 0 → T (sets c ws r m) → T (bit (content c ws r) m)
    unfolding content span shift place
    content-complete (C i) m z h = value-complete (C i) m refl refl h
    content-complete (B i) m z h = value-complete (B i) m refl refl h
    content-complete (P i) m z h =
        let x : ℕ = get_or ws (base c (P i)) 0 in
        let k : m < width = span-lt c (P i) m (sets-allowed ws (P i) m h) in
        let e : place c (P i) m ≡ 32 * base c (P i) + m = omega arith in
        subst T
        (ap (λ (n : ℕ). bit ws n) e ∙ bit_at ws (base c (P i)) m (omega arith) ∙ sym (member-low x width m k)
        ∙ sym (bit_word (x % 2 ^ width) m (omega arith)))
        (sets-bit ws (P i) m h)
    content-complete (L i) m z h = absurd (omega arith)

    -- ---- an element put into a row

    pub put-well : (r : Row) (v : ℕ) → T (allowed c r v) → WellFormed c (mark ws (place c r v))
    put-well r v h =
        record {
          long = length-mark ws (place c r v) ∙ w.long;
          words = mark-words ws (place c r v) w.words;
          clean =
              λ n b. ⊎_elim (λ o. w.clean n o) (λ e. subst (λ (m : ℕ). T (used c m)) (sym e) (place-used c r v h))
              (mark-new ws (place c r v) n b);
        }

    pub put-inside : (e : Sets) (r : Row) (v : ℕ) → T (allowed c r v) → T (e r v) → LiesIn c ws e → LiesIn c (mark ws (place c r v)) e
    put-inside e r v h t i s u b =
        ⊎_elim (λ o. i s u (in-sets ws s u (sets-allowed _ s u b) o))
        (λ q. let j : (s ≡ r) × (u ≡ v) = place-injective c s u r v (sets-allowed _ s u b) h q in rw (j.0, j.1) t)
        (mark-new ws (place c r v) (place c s u) (sets-bit _ s u b))

    pub put_has : (r : Row) (v : ℕ) → T (allowed c r v) → T (sets c (mark ws (place c r v)) r v)
    put_has r v h = in-sets _ r v h (mark-has ws (place c r v) (rw w.long (place-lt c r v h)))

    -- ---- a row or-ed into another

    module _ (a b : Row) (k : Alike a b) where
      abbrev joined : List ℕ
      joined = pour ws (base c b) (content c ws a)

      -- what is new is an element of a
      record New (n : ℕ) : Type 0 where
        element : ℕ
        source : T (sets c ws a element)
        may : T (allowed c b element)
        here : n ≡ place c b element

      sub-new : (n : ℕ) → T (bit joined n) → T (bit ws n) ⊎ New n
      unfolding place
      sub-new n h =
          ⊎_elim (λ o. inl o)
          (λ x. let v : ℕ = n - 32 * base c b in
          let s : T (sets c ws a v) = content-sound a v k.from x.1 in
          let l : v < span c a = span-lt c a v (sets-allowed ws a v s) in
          let z : shift c b ≡ 0 = k.unshifted-to in
          let g : 32 * base c b ≤ n = x.0 in
          inr (record { element = v; source = s; may = is-allowed c b v k.to (rw (← k.spans) l); here = omega arith }))
          (pour-new ws (base c b) (content c ws a) n h)

      pub sub-well : WellFormed c joined
      sub-well =
          record {
            long = length-pour ws (base c b) (content c ws a) ∙ w.long;
            words = pour-words ws (base c b) (content c ws a) w.words (content-words a);
            clean =
                λ n h. ⊎_elim (λ o. w.clean n o)
                (λ (x : New n). subst (λ (m : ℕ). T (used c m)) (sym x.here) (place-used c b x.element x.may))
                (sub-new n h);
          }

      pub sub-inside : (e : Sets) → ((v : ℕ) → T (e a v) → T (e b v)) → LiesIn c ws e → LiesIn c joined e
      sub-inside e f i s u h =
          ⊎_elim (λ o. i s u (in-sets ws s u (sets-allowed joined s u h) o))
          (λ (x : New (place c s u)).
          let j : (s ≡ b) × (u ≡ x.element) = place-injective c s u b x.element (sets-allowed joined s u h) x.may x.here in
          rw (j.0, j.1) (f x.element (i a x.element x.source)))
          (sub-new (place c s u) (sets-bit joined s u h))

      pub sub-has : (v : ℕ) → T (sets c ws a v) → T (sets c joined b v)
      unfolding place
      sub-has v h =
          let z : shift c b ≡ 0 = k.unshifted-to in
          let l : v < span c a = span-lt c a v (sets-allowed ws a v h) in
          let m : T (allowed c b v) = is-allowed c b v k.to (rw (← k.spans) l) in
          let p : 32 * base c b + v ≡ place c b v = omega arith in
          in-sets joined b v m
          (subst (λ (n : ℕ). T (bit joined n)) p
          (pour-has ws (base c b) (content c ws a) v (rw (p, w.long) (place-lt c b v m)) (content-complete a v k.unshifted-from h)))
