-- What is left behind a production is no longer than what it started with, and shorter behind a step that goes on.
-- Assumes nothing.
use Prim.Native.Nat.{ℕ, zero, zero-le, suc, ◌<◌, ◌≤◌}
use native.Mathlib.Nat.{le_refl, le_trans}
use native.Mathlib.Omega.{arith}
use mathlib.Core.Path.{subst}
use mathlib.Core.Bool.{Bool, true, false, ◌||◌}
use mathlib.Core.List.{List, [], ◌∷◌}
use lib.Dec.{eqb, ltb}
use lib.ListN.{length}
use Rattle.json_text.specs.Bytes.{head, tail, within, Rest, nothing, rest, then, Step, fails, goes, ends, after_by, after, is_space, space}
use Rattle.json_text.specs.Numbers.{is_digit, digits, some_digits, minus, int, frac, sign, exp, number}
use Rattle.json_text.specs.Strings.{Point, bad, point, hex_of, hexed, hex_unit, pointed, escape_of, escaped, continued, low, high, second, point_of, character, string}
use Rattle.json_text.specs.Values.{literal, Start, plain, opens, start, closing, mark, name, separated, separated_after, item, items, value}
use Rattle.json_text.proofs.Repetition.{Narrow}

abbrev pub RestIn : ℕ → Rest → Type 0
RestIn n nothing = Unit {0}
RestIn n (rest cs) = length cs ≤ n

abbrev pub StepIn : ℕ → Step → Type 0
StepIn n fails = Unit {0}
StepIn n (goes us cs) = length cs < n
StepIn n (ends cs) = length cs ≤ n

abbrev PointIn : ℕ → Point → Type 0
PointIn n bad = Unit {0}
PointIn n (point c cs) = length cs ≤ n

-- either way of a choice
pick : {A : Type 0} (P : A → Type 0) (t : Bool) (x y : A) → P x → P y → P (elim t [ true ↦ x | false ↦ y ])
pick P true x y p q = p
pick P false x y p q = q

tail-in : (bs : List ℕ) → length (tail bs) ≤ length bs
unfolding tail
tail-in [] = zero-le
tail-in (b ∷ bs) = omega arith

space-in : (bs : List ℕ) → length (space bs) ≤ length bs
unfolding space
space-in [] = zero-le
space-in (b ∷ bs) = pick (λ (cs : List ℕ). length cs ≤ suc (length bs)) (is_space b) (space bs) (b ∷ bs) (let h = space-in bs in omega arith) (le_refl _)

-- ---- numbers

digits_in : (bs : List ℕ) → length (digits bs) ≤ length bs
unfolding digits
digits_in [] = zero-le
digits_in (b ∷ bs) = pick (λ (cs : List ℕ). length cs ≤ suc (length bs)) (is_digit b) (digits bs) (b ∷ bs) (let h = digits_in bs in omega arith) (le_refl _)

weaker : {m n : ℕ} (r : Rest) → m ≤ n → RestIn m r → RestIn n r
weaker nothing l h = tt
weaker (rest cs) l h = le_trans h l

stronger : {m n : ℕ} (s : Step) → m ≤ n → StepIn m s → StepIn n s
stronger fails l h = tt
stronger (goes us cs) l h = omega arith
stronger (ends cs) l h = le_trans h l

then-in : (n : ℕ) (r : Rest) (k : List ℕ → Rest) → RestIn n r → ((cs : List ℕ) → RestIn (length cs) (k cs)) → RestIn n (then r k)
unfolding then
then-in n nothing k h g = tt
then-in n (rest cs) k h g = weaker (k cs) h (g cs)

some-digits-in : (bs : List ℕ) → RestIn (length bs) (some_digits bs)
unfolding some_digits
some-digits-in bs = pick (RestIn (length bs)) (is_digit (head bs)) (rest (digits (tail bs))) nothing (le_trans (digits_in (tail bs)) (tail-in bs)) tt

optional-in : (t : Bool) (bs : List ℕ) → length {A = ℕ} (elim t [ true ↦ tail bs | false ↦ bs ]) ≤ length bs
optional-in t bs = pick (λ (cs : List ℕ). length cs ≤ length bs) t (tail bs) bs (tail-in bs) (le_refl _)

minus-in : (bs : List ℕ) → length (minus bs) ≤ length bs
unfolding minus
minus-in bs = optional-in (eqb (head bs) 0x2d) bs

sign-in : (bs : List ℕ) → length (sign bs) ≤ length bs
unfolding sign
sign-in bs = optional-in (eqb (head bs) 0x2d || eqb (head bs) 0x2b) bs

int-in : (bs : List ℕ) → RestIn (length bs) (int bs)
unfolding int
int-in bs = pick (RestIn (length bs)) (eqb (head bs) 0x30) (rest (tail bs)) (some_digits bs) (tail-in bs) (some-digits-in bs)

frac-in : (bs : List ℕ) → RestIn (length bs) (frac bs)
unfolding frac
frac-in bs =
    pick (RestIn (length bs)) (eqb (head bs) 0x2e) (some_digits (tail bs)) (rest bs)
    (weaker (some_digits (tail bs)) (tail-in bs) (some-digits-in (tail bs))) (le_refl _)

exp_in : (bs : List ℕ) → RestIn (length bs) (exp bs)
unfolding exp
exp_in bs =
    pick (RestIn (length bs)) (eqb (head bs) 0x65 || eqb (head bs) 0x45) (some_digits (sign (tail bs))) (rest bs)
    (weaker (some_digits (sign (tail bs))) (le_trans (sign-in (tail bs)) (tail-in bs)) (some-digits-in (sign (tail bs)))) (le_refl _)

number_in : (bs : List ℕ) → RestIn (length bs) (number bs)
unfolding number
number_in bs =
    then-in (length bs) (then (int (minus bs)) frac) exp (then-in (length bs) (int (minus bs)) frac (weaker (int (minus bs)) (minus-in bs) (int-in (minus bs))) frac-in) exp_in

-- ---- strings

module _ (n : ℕ) where
  hexed-in : (p : Point) → PointIn n p → PointIn n (hexed p)
  unfolding hexed
  hexed-in bad h = tt
  hexed-in (point c bs) h =
      pick (PointIn n) (ltb (hex_of (head bs)) 16) (point _ (tail bs)) bad (le_trans (tail-in bs) h) tt

  continued-in : (a e : ℕ) (p : Point) → PointIn n p → PointIn n (continued a e p)
  unfolding continued
  continued-in a e bad h = tt
  continued-in a e (point c bs) h =
      pick (PointIn n) (within a e (head bs)) (point _ (tail bs)) bad (le_trans (tail-in bs) h) tt

second-in : (base : ℕ) (bs : List ℕ) → PointIn (length (tail bs)) (second base bs)
unfolding second
second-in base bs = continued-in (length (tail bs)) (low (head bs)) (high (head bs)) (point _ (tail bs)) (le_refl _)

point-in : (bs : List ℕ) → PointIn (length (tail bs)) (point_of bs)
unfolding point_of
point-in bs =
    pick (PointIn n) (within 0xc2 0xdf (head bs)) _ _ (second-in 0xc0 bs)
    (pick (PointIn n) (within 0xe0 0xef (head bs)) _ _ (continued-in n 0x80 0xbf (second 0xe0 bs) (second-in 0xe0 bs))
    (pick (PointIn n) (within 0xf0 0xf4 (head bs)) _ _ (continued-in n 0x80 0xbf (continued 0x80 0xbf (second 0xf0 bs)) (continued-in n 0x80 0xbf (second 0xf0 bs) (second-in 0xf0 bs))) tt))
  where
    n : ℕ
    n = length (tail bs)

pointed-in : {n m : ℕ} (p : Point) → PointIn n p → n < m → StepIn m (pointed p)
unfolding pointed
pointed-in bad h l = tt
pointed-in (point c bs) h l = omega arith

hex-unit-in : {m : ℕ} (bs : List ℕ) → length bs < m → StepIn m (hex_unit bs)
unfolding hex_unit
hex-unit-in bs l =
    pointed-in (hexed (hexed (hexed (hexed (point 0 bs))))) (digit (hexed (hexed (hexed (point 0 bs)))) (digit (hexed (hexed (point 0 bs))) (digit (hexed (point 0 bs)) (digit (point 0 bs) (le_refl _))))) l
  where
    digit : (p : Point) → PointIn (length bs) p → PointIn (length bs) (hexed p)
    digit = hexed-in (length bs)

escaped-in : {m : ℕ} (bs : List ℕ) → length bs < m → StepIn m (escaped bs)
unfolding escaped
escaped-in {m} bs l =
    let t = tail-in bs in
    pick (StepIn m) (eqb (head bs) 0x75) (hex_unit (tail bs)) _ (hex-unit-in (tail bs) (omega arith))
    (pick (StepIn m) (eqb (escape_of (head bs)) 0) fails (goes _ (tail bs)) tt (omega arith))

pub character-in : (bs : List ℕ) → StepIn (length bs) (character bs)
unfolding head tail character point_of pointed
character-in [] = tt
character-in (b ∷ bs) =
    pick (StepIn n) (eqb b 0x22) (ends bs) _ (omega arith)
    (pick (StepIn n) (eqb b 0x5c) (escaped bs) _ (escaped-in bs (omega arith))
    (pick (StepIn n) (ltb b 0x20) fails _ tt
    (pick (StepIn n) (ltb b 0x80) (goes (b ∷ []) bs) _ (omega arith) (pointed-in (point_of (b ∷ bs)) (point-in (b ∷ bs)) (omega arith)))))
  where
    n : ℕ
    n = suc (length bs)

-- a step that goes on takes a byte
pub narrow-of : (f : List ℕ → Step) → ((bs : List ℕ) → StepIn (length bs) (f bs)) → Narrow f
narrow-of f h bs us cs e = subst (StepIn (length bs)) e (h bs)

pub character-narrow : Narrow character
character-narrow = narrow-of character character-in

module _ (f : List ℕ → Step) (f-in : (bs : List ℕ) → StepIn (length bs) (f bs)) where
  step_in : (n m : ℕ) → ((cs : List ℕ) → RestIn (length cs) (after_by f n cs)) → (s : Step) → StepIn m s
      → RestIn m (elim s [ fails ↦ nothing | goes us cs ↦ after_by f n cs | ends cs ↦ rest cs ])
  step_in n m h fails l = tt
  step_in n m h (goes us cs) l = weaker (after_by f n cs) (omega arith) (h cs)
  step_in n m h (ends cs) l = l

  after-in : (n : ℕ) (bs : List ℕ) → RestIn (length bs) (after_by f n bs)
  unfolding after_by
  after-in zero bs = tt
  after-in (suc n) bs = step_in n (length bs) (after-in n) (f bs) (f-in bs)

string-in : (bs : List ℕ) → RestIn (length bs) (string bs)
string-in bs = after-in character character-in (suc (length bs)) bs

-- ---- values

literal-in : (word bs : List ℕ) → RestIn (length bs) (literal word bs)
unfolding literal
literal-in [] bs = le_refl _
literal-in (a ∷ word) bs =
    pick (RestIn (length bs)) (eqb (head bs) a) (literal word (tail bs)) nothing
    (weaker (literal word (tail bs)) (tail-in bs) (literal-in word (tail bs))) tt

abbrev StartIn : ℕ → Start → Type 0
StartIn n (plain r) = RestIn n r
StartIn n (opens k cs) = length cs ≤ n

start-in : (bs : List ℕ) → StartIn (length bs) (start bs)
unfolding start
start-in bs =
    pick P (eqb (head bs) 0x66) _ _ (word (0x61 ∷ 0x6c ∷ 0x73 ∷ 0x65 ∷ []))
    (pick P (eqb (head bs) 0x6e) _ _ (word (0x75 ∷ 0x6c ∷ 0x6c ∷ []))
    (pick P (eqb (head bs) 0x74) _ _ (word (0x72 ∷ 0x75 ∷ 0x65 ∷ []))
    (pick P (eqb (head bs) 0x7b) (opens true (tail bs)) _ (tail-in bs)
    (pick P (eqb (head bs) 0x5b) (opens false (tail bs)) _ (tail-in bs)
    (pick P (eqb (head bs) 0x22) (plain (string (tail bs))) (plain (number bs)) (weaker (string (tail bs)) (tail-in bs) (string-in (tail bs))) (number_in bs))))))
  where
    P : Start → Type 0
    P s = StartIn (length bs) s

    word : (w : List ℕ) → P (plain (literal w (tail bs)))
    word w = weaker (literal w (tail bs)) (tail-in bs) (literal-in w (tail bs))

mark-in : (b : ℕ) (bs : List ℕ) → RestIn (length bs) (mark b bs)
unfolding mark
mark-in b bs = pick (RestIn (length bs)) (eqb (head bs) b) (rest (space (tail bs))) nothing (le_trans (space-in (tail bs)) (tail-in bs)) tt

name_in : (k : Bool) (bs : List ℕ) → RestIn (length bs) (name k bs)
unfolding name
name_in false bs = le_refl _
name_in true bs =
    pick (RestIn (length bs)) (eqb (head bs) 0x22) (then (string (tail bs)) colon) nothing
    (then-in (length bs) (string (tail bs)) colon (weaker (string (tail bs)) (tail-in bs) (string-in (tail bs)))
    (λ cs. weaker (mark 0x3a (space cs)) (space-in cs) (mark-in 0x3a (space cs)))) tt
  where
    colon : List ℕ → Rest
    colon cs = mark 0x3a (space cs)

separated-in : (k : Bool) (bs : List ℕ) → StepIn (length bs) (separated k bs)
unfolding head tail closing separated
separated-in true [] = tt
separated-in false [] = tt
separated-in k (b ∷ bs) =
    let l = space-in bs in
    pick (StepIn (suc (length bs))) (eqb b 0x2c) (goes [] (space bs)) _ (omega arith)
    (pick (StepIn (suc (length bs))) (eqb b (closing k)) (ends bs) fails (omega arith) tt)

module _ (f : List ℕ → Rest) (f-in : (bs : List ℕ) → RestIn (length bs) (f bs)) (k : Bool) where
  item_in : (bs : List ℕ) → StepIn (length bs) (item f k bs)
  unfolding item
  item_in bs = by (then (name k bs) f) (then-in (length bs) (name k bs) f (name_in k bs) f-in)
    where
      by : (r : Rest) → RestIn (length bs) r → StepIn (length bs) (separated_after k r)
      by nothing h = tt
      by (rest cs) h = stronger (separated k (space cs)) (le_trans (space-in cs) h) (separated-in k (space cs))

  pub item-narrow : Narrow (item f k)
  item-narrow = narrow-of (item f k) item_in

  items-in : (bs : List ℕ) → RestIn (length bs) (items f k bs)
  unfolding items
  items-in bs =
      pick (RestIn (length bs)) (eqb (head (space bs)) (closing k)) (rest (tail (space bs))) (after (item f k) (space bs))
      (le_trans (tail-in (space bs)) (space-in bs))
      (weaker (after (item f k) (space bs)) (space-in bs) (after-in (item f k) item_in (suc (length (space bs))) (space bs)))

inside : (m : ℕ) → ((bs : List ℕ) → RestIn (length bs) (value m bs)) → (n : ℕ) (s : Start) → StartIn n s
    → RestIn n (elim s [ plain r ↦ r | opens k cs ↦ items (value m) k cs ])
inside m h n (plain r) l = l
inside m h n (opens k cs) l = weaker (items (value m) k cs) l (items-in (value m) h k cs)

pub value_in : (nest : ℕ) (bs : List ℕ) → RestIn (length bs) (value nest bs)
unfolding value
value_in zero bs = by (start bs) (start-in bs)
  where
    by : (s : Start) → StartIn (length bs) s → RestIn (length bs) (elim s [ plain r ↦ r | opens k cs ↦ nothing ])
    by (plain r) h = h
    by (opens k cs) h = tt
value_in (suc m) bs = inside m (value_in m) (length bs) (start bs) (start-in bs)
