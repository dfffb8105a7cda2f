-- Laws of what `check` prints: the first line of a text, line k, the words of lines, and the writer's line.
use Prim.Native.Nat.{ℕ, zero, suc, ◌+◌, ◌-◌, ◌<◌, ◌≤◌}
use mathlib.Core.Path.{◌≡◌, refl, sym, ap, ap₂, ◌∙◌, subst}
use mathlib.Core.Bool.{Bool, true, false}
use mathlib.Core.List.{List, [], ◌∷◌, ◌++◌, map}
use native.Mathlib.Numerals.{add-one}
use native.Mathlib.Omega.{arith}
use borrow.Author.Tests.{eqb-true, eqb-false, lt-ltb, le-ltb}
use lib.Dec.{eqb}
use lib.ListN.{length, get_or, take, drop, set, length-drop, drop_of_length-le}
use lib.Seq.{take-add, take_at, drop-drop}
use Rattle.text.specs.Text.{bytes, decimal}
use Rattle.text.specs.Writing.{Wrote}
use Rattle.text.proofs.Writing.{reworded, then, wrote-byte}
use Rattle.listing.specs.Spelling.{feed}
use Rattle.listing.specs.Listing.{Answered, done, refusal, left, most, listing, written, cut, word_in, words_of}
use Rattle.listing.specs.Decoding.{line_size}
use Rattle.listing.proofs.Cutting.{behind, rest_lines, cut-none, end_after}
use Rattle.commands.specs.Meanings.{from_line}
use Rattle.commands.specs.Checked.{first_line, labelled, shown_line, right_line, line_of, wrong_line}
use Rattle.commands.proofs.Texts.{first-decides, write-count}

-- ---- the first line

-- the bytes up to the place p are a line, with a line feed behind them where the last of them is none
abbrev Ends : (p : ℕ) (text line : List ℕ) → Type 0
Ends p text line =
    (get_or text p 0 ≡ feed → take (suc p) text ≡ line) × ((get_or text p 0 ≡ feed → ⊥) → take (suc p) text ++ feed ∷ [] ≡ line)

module _ (b : ℕ) (bs : List ℕ) where
  first-feed : eqb b feed ≡ true → (line_size (b ∷ bs) ≡ 1) × (first_line (b ∷ bs) ≡ b ∷ [])
  unfolding line_size first_line
  first-feed e = (rw (line_size, e), rw (first_line, e))

  first-other : eqb b feed ≡ false → (line_size (b ∷ bs) ≡ suc (line_size bs)) × (first_line (b ∷ bs) ≡ b ∷ first_line bs)
  unfolding line_size first_line
  first-other e = (rw (line_size, e), rw (first_line, e))

no_line : (line_size [] ≡ 0) × (first_line [] ≡ feed ∷ [])
unfolding line_size first_line
no_line = (refl, refl)

line-ends : (text : List ℕ) (p : ℕ) → line_size text ≡ suc p → Ends p text (first_line text)
line-ends [] p h = absurd (omega (arith, no_line.0))
line-ends (b ∷ bs) p h = go (eqb b feed) refl bs p h (line-ends bs)
  where
    go : (t : Bool) → eqb b feed ≡ t → (cs : List ℕ) (p : ℕ) → line_size (b ∷ cs) ≡ suc p
        → ((q : ℕ) → line_size cs ≡ suc q → Ends q cs (first_line cs)) → Ends p (b ∷ cs) (first_line (b ∷ cs))
    go true e cs zero k more = subst (Ends 0 (b ∷ cs)) (sym (first-feed b cs e).1) ((λ _. refl), (λ n. absurd (n (eqb-true b feed e))))
    go true e cs (suc p) k more = absurd (omega (arith, (first-feed b cs e).0))
    go false e [] zero k more =
        subst (Ends 0 (b ∷ [])) (sym ((first-other b [] e).1 ∙ ap (λ (l : List ℕ). b ∷ l) no_line.1)) ((λ q. absurd (eqb-false b feed e q)), (λ _. refl))
    go false e [] (suc p) k more = absurd (omega (arith, (first-other b [] e).0, no_line.0))
    go false e (c ∷ cs) zero k more = absurd (omega (arith, (first-other b (c ∷ cs) e).0, end_after (c ∷ cs) 0 (line_size (c ∷ cs)) (omega arith) (omega arith)))
    go false e (c ∷ cs) (suc p) k more =
        let i = more p (omega (arith, (first-other b (c ∷ cs) e).0)) in
        subst (Ends (suc p) (b ∷ c ∷ cs)) (sym (first-other b (c ∷ cs) e).1)
        ((λ q. ap (λ (l : List ℕ). b ∷ l) (i.0 q)), (λ q. ap (λ (l : List ℕ). b ∷ l) (i.1 q)))

module _ (text : List ℕ) (e : ℕ) (some : 0 < e) (ends : e ≡ line_size text) where
  last : suc (e - 1) ≡ e
  last = omega arith

  pub first-closed : get_or text (e - 1) 0 ≡ feed → take e text ≡ first_line text
  first-closed q = ap (λ (k : ℕ). take k text) (sym last) ∙ (line-ends text (e - 1) (sym ends ∙ sym last)).0 q

  pub first-open : (get_or text (e - 1) 0 ≡ feed → ⊥) → take e text ++ feed ∷ [] ≡ first_line text
  first-open q = ap (λ (k : ℕ). take k text ++ feed ∷ []) (sym last) ∙ (line-ends text (e - 1) (sym ends ∙ sym last)).1 q

module _ (label : List ℕ) (n : ℕ) where
  pub labelled-none : (text : List ℕ) → length text ≡ 0 → [] ≡ labelled label n text
  unfolding labelled
  labelled-none [] h = refl
  labelled-none (b ∷ bs) h = absurd (omega arith)

  pub labelled-some : (text : List ℕ) → (length text ≡ 0 → ⊥) → (label ++ decimal n) ++ bytes ": " ++ first_line text ≡ labelled label n text
  unfolding labelled
  labelled-some [] h = absurd (h refl)
  labelled-some (b ∷ bs) h = refl

pub shown-is : (label : List ℕ) (k : ℕ) (text : List ℕ) (start : ℕ) → drop start text ≡ from_line k text
    → labelled label (k + 1) (take (length text - start) (drop start text)) ≡ shown_line label k text
unfolding shown_line
shown-is label k text start e = ap₂ (labelled label) (add-one k) (behind text start ∙ e)

-- ---- the words of the first lines

module _ (text : List ℕ) (n at e : ℕ) (more : at < length text) (ends : e ≡ at + line_size (drop at text))
    (so_far : drop n (words_of text) ≡ words_of (drop at text)) where
  abbrev word : ℕ
  word = word_in (take (e - at) (drop at text))

  here : drop n (words_of text) ≡ word ∷ words_of (drop e text)
  unfolding words_of
  here = so_far ∙ ap (map word_in) (rest_lines text n at e more ends)

  pub words-behind : drop (n + 1) (words_of text) ≡ words_of (drop e text)
  words-behind = sym (drop-drop 1 n (words_of text)) ∙ ap (drop 1) here

  pub word-written : {before words : List ℕ} (w : ℕ) → w ≡ word → n < length words → Wrote before 0 (take n (words_of text)) words n
      → Wrote before 0 (take (n + 1) (words_of text)) (set words n w) (n + 1)
  word-written {before} {words} w q h so =
      reworded (sym (take-add n 1 (words_of text) ∙ ap (λ (l : List ℕ). take n (words_of text) ++ take 1 l) (here ∙ ap (λ (v : ℕ). v ∷ words_of (drop e text)) (sym q))))
      (then so (wrote-byte words n w h))

pub words-end : (text : List ℕ) (n at : ℕ) → length text ≤ at → drop n (words_of text) ≡ words_of (drop at text) → length (words_of text) ≤ n
unfolding words_of
words-end text n at h e =
    let none : drop n (words_of text) ≡ [] = e ∙ ap (λ (l : List ℕ). map word_in (cut l)) (drop_of_length-le text h) ∙ ap (map word_in) cut-none in
    omega (arith, ap length none, length-drop n (words_of text))

-- ---- the line as the writer makes it

module _ (k : ℕ) (ws : List ℕ) where
  pub right-none : (n p : ℕ) → written ws most ≡ refusal n p → [] ≡ right_line k ws
  unfolding right_line
  right-none n p e = rw (right_line, e)

  module _ (n : ℕ) (e : written ws most ≡ done n) where
    pub right-done : shown_line (bytes "right, line ") k (listing ws) ≡ right_line k ws
    unfolding right_line
    right-done = rw (right_line, e)

    pub listed-is : (zeros listed : List ℕ) → listed ≡ left (written ws most) (listing ws) zeros → take n listed ≡ listing ws
    unfolding left
    listed-is zeros listed q =
        ap (take n) (q ∙ ap (λ (a : Answered). left a (listing ws) zeros) e) ∙ take_at (listing ws) (drop n zeros) n (sym (write-count ws most n e))

pub right-first : (k : ℕ) (ws : List ℕ) → right_line k (take 1025 ws) ≡ right_line k ws
right-first k ws = first-decides (right_line k) (λ n p. []) (λ vs n p e. sym (right-none k vs n p e)) ws

-- ---- the line that a refusal is about

pub line-of-word : (n p : ℕ) → n < 40 → p + 1 ≡ line_of n p
unfolding line_of
line-of-word n p h = rw (line_of, lt-ltb n 40 h, add-one)

pub line-of-line : (n p : ℕ) → 40 ≤ n → p ≡ line_of n p
unfolding line_of
line-of-line n p h = rw (line_of, le-ltb n 40 h)

pub wrong-none : (n : ℕ) (text : List ℕ) → n ≡ 0 → [] ≡ wrong_line n text
unfolding wrong_line
wrong-none zero text e = refl
wrong-none (suc k) text e = absurd (omega arith)

pub wrong-some : (n : ℕ) (text : List ℕ) → (n ≡ 0 → ⊥) → shown_line (bytes "line ") (n - 1) text ++ right_line (n - 1) (words_of text) ≡ wrong_line n text
unfolding wrong_line
wrong-some zero text h = absurd (h refl)
wrong-some (suc k) text h =
    let e : suc k - 1 ≡ k = omega arith in
    ap (λ (i : ℕ). shown_line (bytes "line ") i text ++ right_line i (words_of text)) e
