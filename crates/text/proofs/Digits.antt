-- Laws of digits, at any base and any number of places.
use Prim.Native.Nat.{ℕ, zero, suc, ◌+◌, ◌-◌, ◌*◌, ◌/◌, ◌%◌, ◌^◌, ◌<◌, ◌≤◌}
use mathlib.Core.Path.{◌≡◌, refl, sym, ap, ap₂, subst, ◌∙◌}
use mathlib.Core.Bool.{Bool, true, false, ◌&&◌}
use mathlib.Core.List.{List, [], ◌∷◌, ◌++◌, map}
use native.Mathlib.Nat.{pow-zero, pow-suc, div-add-mod', div-lt_iff_lt-mul, mod-lt}
use native.Mathlib.Omega.{arith}
use lib.Dec.{leb}
use lib.ListN.{get_or}
use borrow.Author.Tests.{eqb-true, eq-eqb, ne_eqb, le-leb}
use Rattle.text.specs.Text.{digits, glyph, left_out, numeral, value}

and_first : (a b : Bool) → a && b ≡ true → a ≡ true
and_first true b e = refl
and_first false b e = e

snoc-value : (base v : ℕ) (ds : List ℕ) (d : ℕ) → value base v (ds ++ d ∷ []) ≡ value base v ds * base + d
unfolding value
snoc-value base v [] d = refl
snoc-value base v (x ∷ xs) d = snoc-value base (v * base + x) xs d

snoc-glyphs : (ds : List ℕ) (d : ℕ) → map glyph (ds ++ d ∷ []) ≡ map glyph ds ++ glyph d ∷ []
snoc-glyphs [] d = refl
snoc-glyphs (x ∷ xs) d = ap (λ (l : List ℕ). glyph x ∷ l) (snoc-glyphs xs d)

sub-one-suc : (p : ℕ) → suc p - 1 ≡ p
sub-one-suc p = omega arith

quotient-below : (base p n : ℕ) → 0 < base → n < base ^ suc p → n / base < base ^ p
quotient-below base p n pos h = (div-lt_iff_lt-mul pos).1 (subst (λ (k : ℕ). n < k) (pow-suc base p) h)

head-append : (xs ys : List ℕ) → 0 < get_or xs 0 0 → get_or (xs ++ ys) 0 0 ≡ get_or xs 0 0
head-append [] ys h = absurd (omega arith)
head-append (x ∷ xs) ys h = refl

-- each of the numbers is below b
abbrev pub Below : ℕ → List ℕ → Type 0
Below b [] = Unit {0}
Below b (d ∷ ds) = (d < b) × Below b ds

below-snoc : (b : ℕ) (ds : List ℕ) (d : ℕ) → Below b ds → d < b → Below b (ds ++ d ∷ [])
below-snoc b [] d t h = (h, tt)
below-snoc b (x ∷ xs) d t h = (t.0, below-snoc b xs d t.1 h)

module _ (base optional : ℕ) where
  digits-stop : (places n : ℕ) → left_out optional places n ≡ true → digits base optional places n ≡ []
  unfolding digits
  digits-stop zero n t = refl
  digits-stop (suc p) n t = rw (t, digits)

  digits_more : (places n : ℕ) → 0 < places → left_out optional places n ≡ false
      → digits base optional places n ≡ digits base optional (places - 1) (n / base) ++ n % base ∷ []
  unfolding digits
  digits_more zero n h t = absurd (omega arith)
  digits_more (suc p) n h t =
      rw (t, digits, sub-one-suc p) refl

  -- every digit is below the base
  pub digits-below : (places n : ℕ) → 0 < base → Below base (digits base optional places n)
  unfolding digits
  digits-below zero n pos = tt
  digits-below (suc p) n pos = go (left_out optional (suc p) n) refl (digits-below p (n / base) pos)
    where
      go : (b : Bool) → left_out optional (suc p) n ≡ b → Below base (digits base optional p (n / base)) → Below base (digits base optional (suc p) n)
      go true t rest = subst (Below base) (sym (digits-stop (suc p) n t)) tt
      go false t rest =
          subst (Below base)
          (sym (digits_more (suc p) n (omega arith) t ∙ ap (λ (k : ℕ). digits base optional k (n / base) ++ n % base ∷ []) (sub-one-suc p)))
          (below-snoc base (digits base optional p (n / base)) (n % base) rest (mod-lt n pos))

  -- the digits stand for the number, where there are places enough
  pub digits_value : (places n : ℕ) → 0 < base → n < base ^ places → value base 0 (digits base optional places n) ≡ n
  unfolding digits value
  digits_value zero n pos h = omega (arith, pow-zero base)
  digits_value (suc p) n pos h =
      go (left_out optional (suc p) n) refl
      (digits_value p (n / base) pos (quotient-below base p n pos h))
    where
      go : (b : Bool) → left_out optional (suc p) n ≡ b → value base 0 (digits base optional p (n / base)) ≡ n / base
          → value base 0 (digits base optional (suc p) n) ≡ n
      go true t rest = ap (value base 0) (digits-stop (suc p) n t) ∙ sym (eqb-true n 0 (and_first _ _ t))
      go false t rest =
          ap (value base 0) (digits_more (suc p) n (omega arith) t)
          ∙ snoc-value base 0 (digits base optional (suc p - 1) (n / base)) (n % base)
          ∙ ap (λ (k : ℕ). value base 0 (digits base optional k (n / base)) * base + n % base) (sub-one-suc p)
          ∙ ap (λ (k : ℕ). k * base + n % base) rest
          ∙ div-add-mod' n base

  -- a number has no zero in front, where all places but one are optional
  pub no-zero-in-front : (places n : ℕ) → 0 < base → places ≤ suc optional → 0 < n → n < base ^ places
      → 0 < get_or (digits base optional places n) 0 0
  no-zero-in-front zero n pos_base most pos h = absurd (omega (arith, pow-zero base))
  no-zero-in-front (suc p) n pos_base most pos h =
      go (n / base) refl λ above. no-zero-in-front p (n / base) pos_base (omega arith) above (quotient-below base p n pos_base h)
    where
      digit : digits base optional (suc p) n ≡ digits base optional p (n / base) ++ n % base ∷ []
      digit =
          digits_more (suc p) n (omega arith) (ap (λ (b : Bool). b && leb (suc p) optional) (ne_eqb n 0 (λ e. omega arith)))
          ∙ ap (λ (k : ℕ). digits base optional k (n / base) ++ n % base ∷ []) (sub-one-suc p)

      go : (q : ℕ) → n / base ≡ q → (0 < n / base → 0 < get_or (digits base optional p (n / base)) 0 0)
          → 0 < get_or (digits base optional (suc p) n) 0 0
      go zero e rest =
          let none : digits base optional p (n / base) ≡ [] =
          digits-stop p (n / base) (ap₂ ◌&&◌ (eq-eqb (n / base) 0 e) (le-leb p optional (omega arith))) in
          let all : 0 * base + n % base ≡ n = rw e at (div-add-mod' n base) in
          rw (digit, none) (omega arith)
      go (suc q) e rest = rw (digit, head-append (digits base optional p (n / base)) (n % base ∷ []) (rest (omega arith))) (rest (omega arith))

  pub numeral-none : (n : ℕ) → numeral base optional 0 n ≡ []
  unfolding numeral digits
  numeral-none n = refl

  pub numeral-stop : (places n : ℕ) → left_out optional places n ≡ true → numeral base optional places n ≡ []
  unfolding numeral
  numeral-stop places n t = ap (map glyph) (digits-stop places n t)

  pub numeral-more : (places n : ℕ) → 0 < places → left_out optional places n ≡ false
      → numeral base optional places n ≡ numeral base optional (places - 1) (n / base) ++ glyph (n % base) ∷ []
  unfolding numeral
  numeral-more places n h t =
      ap (map glyph) (digits_more places n h t) ∙ snoc-glyphs (digits base optional (places - 1) (n / base)) (n % base)
