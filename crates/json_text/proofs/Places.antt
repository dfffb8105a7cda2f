-- The bytes from a place of a text on: the first of them, those behind it, and the productions that go by one byte.
-- Assumes nothing.
use Prim.Native.Nat.{ℕ, zero, suc, ◌+◌, ◌<◌, ◌≤◌}
use native.Mathlib.Numerals.{add-one}
use native.Mathlib.Omega.{arith}
use native.Mathlib.Decide.{dec_lt}
use mathlib.Core.Path.{◌≡◌, refl, sym, ap, ◌∙◌}
use mathlib.Core.Bool.{Bool, true, false, ◌&&◌, ◌||◌}
use mathlib.Core.List.{List, [], ◌∷◌}
use lib.Dec.{eqb, leb}
use lib.ListN.{length, get_or, drop, drop_of_length-le}
use lib.Seq.{drop-cons}
use borrow.Author.Tests.{ne_eqb, leb-true}
use Rattle.json_text.specs.Bytes.{head, tail, within, is_space, space}
use Rattle.json_text.specs.Numbers.{is_digit, digits}

pub head_in : (t : List ℕ) (at : ℕ) → at < length t → head (drop at t) ≡ get_or t at 0
unfolding head
head_in t at h = rw (drop-cons t at 0)

pub head-over : (t : List ℕ) (at : ℕ) → length t ≤ at → head (drop at t) ≡ 256
unfolding head
head-over t at h = rw (drop_of_length-le t h)

pub drop_at : (t : List ℕ) (at : ℕ) → at < length t → drop at t ≡ get_or t at 0 ∷ drop (at + 1) t
drop_at t at h = rw (add-one, drop-cons t at 0)

pub tail-drop : (t : List ℕ) (at : ℕ) → tail (drop at t) ≡ drop (at + 1) t
unfolding tail
tail-drop t at = rw add-one (go t at)
  where
    go : (t : List ℕ) (at : ℕ) → tail (drop at t) ≡ drop (suc at) t
    go [] zero = refl
    go [] (suc at) = refl
    go (b ∷ t) zero = refl
    go (b ∷ t) (suc at) = go t at

-- a byte that was read is there
pub there : (t : List ℕ) (at : ℕ) {b : ℕ} → b ≡ head (drop at t) → b < 256 → at < length t
unfolding head
there [] zero e h = omega arith
there [] (suc at) e h = omega arith
there (b ∷ t) zero e h = omega arith
there (b ∷ t) (suc at) e h = let r : at < length t = there t at e h in omega arith

pub read_in : (t : List ℕ) (at : ℕ) → head (drop at t) < 256 → at < length t
read_in t at h = there t at refl h

-- what a byte that was read says of the place behind it
pub ruleset reading = (read_in, tail-drop)

pub within-true : (a e b : ℕ) → within a e b ≡ true → (a ≤ b) × (b ≤ e)
within-true a e b q = by (leb a b) refl
  where
    by : (t : Bool) → leb a b ≡ t → (a ≤ b) × (b ≤ e)
    by true l = (leb-true a b l, leb-true b e (sym (ap (λ (x : Bool). x && leb b e) l) ∙ q))
    by false l = let z : false ≡ true = sym (ap (λ (x : Bool). x && leb b e) l) ∙ q in let y : ◌≡◌ {A = ℕ} 0 1 = cc in omega arith

-- what is one of two bytes, or white space, is a byte
pub either-small : (x y b : ℕ) → x < 256 → y < 256 → (eqb b x || eqb b y) ≡ true → b < 256
either-small x y b hx hy e = by (dec_lt b 256)
  where
    by : Dec (b < 256) → b < 256
    by (yes h) = h
    by (no n) =
        let z : (eqb b x || eqb b y) ≡ false = rw (ne_eqb b x (λ q. omega arith), ne_eqb b y (λ q. omega arith)) in
        let o : ◌≡◌ {A = ℕ} 0 1 = cc in
        omega arith

pub space-small : (b : ℕ) → is_space b ≡ true → b < 256
space-small b e = by (eqb b 0x20 || eqb b 0x09) refl
  where
    by : (t : Bool) → (eqb b 0x20 || eqb b 0x09) ≡ t → b < 256
    by true q = either-small 0x20 0x09 b (omega arith) (omega arith) q
    by false q = either-small 0x0a 0x0d b (omega arith) (omega arith) (sym (ap (λ (x : Bool). x || (eqb b 0x0a || eqb b 0x0d)) q) ∙ e)

pub digit-small : (b : ℕ) → is_digit b ≡ true → b < 256
digit-small b e = let h = within-true 0x30 0x39 b e in omega arith

-- white space goes on behind a byte of it, and ends before any other
pub space-more : (bs : List ℕ) → is_space (head bs) ≡ true → space bs ≡ space (tail bs)
unfolding head tail space
space-more [] e = refl
space-more (b ∷ bs) e = rw (e, space)

pub space-end : (bs : List ℕ) → is_space (head bs) ≡ false → space bs ≡ bs
unfolding head space
space-end [] e = refl
space-end (b ∷ bs) e = rw (e, space)

pub digits_more : (bs : List ℕ) → is_digit (head bs) ≡ true → digits bs ≡ digits (tail bs)
unfolding head tail digits
digits_more [] e = refl
digits_more (b ∷ bs) e = rw (e, digits)

pub digits-end : (bs : List ℕ) → is_digit (head bs) ≡ false → digits bs ≡ bs
unfolding head digits
digits-end [] e = refl
digits-end (b ∷ bs) e = rw (e, digits)

-- past the end nothing follows
pub tail-over : (t : List ℕ) (at : ℕ) → length t ≤ at → tail (drop at t) ≡ drop at t
unfolding tail
tail-over t at h = rw (drop_of_length-le t h)
