-- Laws of little-endian bytes: numbers at any width first, then lists of words.
use Prim.Native.Nat.{ℕ, zero, suc, ◌+◌, ◌*◌, ◌/◌, ◌%◌, ◌^◌, ◌<◌, ◌≤◌}
use mathlib.Core.Path.{◌≡◌, refl, sym, ap, ◌∙◌}
use mathlib.Core.List.{List, [], ◌∷◌, ◌++◌, append_assoc}
use native.Mathlib.Nat.{zero-add, pow-zero, pow-succ'}
use native.Mathlib.Numerals.{add-one}
use native.Mathlib.Omega.{arith}
use lib.ListN.{length, get_or, set, take, drop, take-append-drop}
use lib.Seq.{take-nil, drop-nil, take-take, take_all, drop-append-le, take-suc, take_at, drop-append-add, drop-drop, length-take-le, paste-suc}
use lib.Dec.{lit<}
use Rattle.little_endian.specs.LittleEndian.{number, low_bytes, words_of, bytes_of, whole_words}

abbrev pub Below : ℕ → List ℕ → Type 0
Below n xs = (k : ℕ) → get_or xs k 0 < n

-- ---- one number

pub number-low_bytes : (k n : ℕ) → n < 256 ^ k → number (low_bytes k n) ≡ n
number-low_bytes zero n h = omega (arith, pow-zero 256)
number-low_bytes (suc k) n h =
    let rest : number (low_bytes k (n / 256)) ≡ n / 256 = number-low_bytes k (n / 256) (omega (arith, pow-succ' 256 k)) in
    omega arith

pub low_bytes-number : (bs : List ℕ) → Below 256 bs → low_bytes (length bs) (number bs) ≡ bs
low_bytes-number [] h = refl
low_bytes-number (b ∷ bs) h =
    let low : b < 256 = h 0 in
    let m : (b + 256 * number bs) % 256 ≡ b = omega arith in
    let d : (b + 256 * number bs) / 256 ≡ number bs = omega arith in
    rw (m, d) (ap (λ (l : List ℕ). b ∷ l) (low_bytes-number bs (λ k. h (suc k))))

pub number-below : (bs : List ℕ) → Below 256 bs → number bs < 256 ^ length bs
number-below [] h = omega (arith, pow-zero 256)
number-below (b ∷ bs) h = omega (arith, h 0, number-below bs (λ k. h (suc k)), pow-succ' 256 (length bs))

-- ---- lists of words

-- four more of a number
four-more : (n : ℕ) → 4 * suc n ≡ suc (suc (suc (suc (4 * n))))
four-more n = omega arith

word_more : (n : ℕ) → suc (suc (suc (suc n))) / 4 ≡ suc (n / 4)
word_more n = omega arith

pub length-words_of : (bs : List ℕ) → length (words_of bs) ≡ length bs / 4
unfolding words_of
length-words_of [] = refl
length-words_of (a ∷ []) = refl
length-words_of (a ∷ b ∷ []) = refl
length-words_of (a ∷ b ∷ c ∷ []) = refl
length-words_of (a ∷ b ∷ c ∷ d ∷ bs) = ap suc (length-words_of bs) ∙ sym (word_more (length bs))

pub length-bytes_of : (ws : List ℕ) → length (bytes_of ws) ≡ 4 * length ws
unfolding bytes_of
length-bytes_of [] = refl
length-bytes_of (w ∷ ws) = ap (λ (n : ℕ). suc (suc (suc (suc n)))) (length-bytes_of ws) ∙ sym (four-more (length ws))

pub words_of-bytes_of : (ws : List ℕ) → Below (2 ^ 32) ws → words_of (bytes_of ws) ≡ ws
unfolding words_of bytes_of
words_of-bytes_of [] h = refl
words_of-bytes_of (w ∷ ws) h =
    ap (λ (n : ℕ). n ∷ words_of (bytes_of ws)) (number-low_bytes 4 w (h 0)) ∙ ap (λ (l : List ℕ). w ∷ l) (words_of-bytes_of ws (λ k. h (suc k)))

-- words and then more bytes
pub words_of-append : (ws bs : List ℕ) → Below (2 ^ 32) ws → words_of (bytes_of ws ++ bs) ≡ ws ++ words_of bs
unfolding words_of bytes_of
words_of-append [] bs h = refl
words_of-append (w ∷ ws) bs h =
    ap (λ (n : ℕ). n ∷ words_of (bytes_of ws ++ bs)) (number-low_bytes 4 w (h 0)) ∙ ap (λ (l : List ℕ). w ∷ l) (words_of-append ws bs (λ k. h (suc k)))

first-four : {n a b c d : ℕ} (bs : List ℕ) → 0 < n → Below n (a ∷ b ∷ c ∷ d ∷ bs) → Below n (a ∷ b ∷ c ∷ d ∷ [])
first-four bs pos h zero = h 0
first-four bs pos h (suc zero) = h 1
first-four bs pos h (suc (suc zero)) = h 2
first-four bs pos h (suc (suc (suc zero))) = h 3
first-four bs pos h (suc (suc (suc (suc k)))) = pos

pub bytes_of-words_of : (bs : List ℕ) → Below 256 bs → bytes_of (words_of bs) ≡ take (4 * (length bs / 4)) bs
unfolding words_of bytes_of
bytes_of-words_of [] h = refl
bytes_of-words_of (a ∷ []) h = refl
bytes_of-words_of (a ∷ b ∷ []) h = refl
bytes_of-words_of (a ∷ b ∷ c ∷ []) h = refl
bytes_of-words_of (a ∷ b ∷ c ∷ d ∷ bs) h =
    ap (λ (l : List ℕ). l ++ bytes_of (words_of bs)) (low_bytes-number (a ∷ b ∷ c ∷ d ∷ []) (first-four bs (lit< tt) h))
    ∙ ap (λ (l : List ℕ). a ∷ b ∷ c ∷ d ∷ l) (bytes_of-words_of bs (λ k. h (suc (suc (suc (suc k))))))
    ∙ sym (ap (λ (k : ℕ). take k (a ∷ b ∷ c ∷ d ∷ bs)) (ap (λ (k : ℕ). 4 * k) (word_more (length bs)) ∙ four-more (length bs / 4)))

pub words_of-below : (bs : List ℕ) → Below 256 bs → Below (2 ^ 32) (words_of bs)
unfolding words_of
words_of-below [] h k = lit< tt
words_of-below (a ∷ []) h k = lit< tt
words_of-below (a ∷ b ∷ []) h k = lit< tt
words_of-below (a ∷ b ∷ c ∷ []) h k = lit< tt
words_of-below (a ∷ b ∷ c ∷ d ∷ bs) h zero = number-below (a ∷ b ∷ c ∷ d ∷ []) (first-four bs (lit< tt) h)
words_of-below (a ∷ b ∷ c ∷ d ∷ bs) h (suc k) = words_of-below bs (λ j. h (suc (suc (suc (suc j))))) k

pub bytes_of-append : (ws xs : List ℕ) → bytes_of (ws ++ xs) ≡ bytes_of ws ++ bytes_of xs
unfolding bytes_of
bytes_of-append [] xs = refl
bytes_of-append (w ∷ ws) xs = ap (λ (l : List ℕ). low_bytes 4 w ++ l) (bytes_of-append ws xs)

-- ---- one turn of a loop that copies

-- one element more of s at the start of d
pub copy_more : (s d : List ℕ) (i : ℕ) → i < length s → i < length d
    → set (take i s ++ drop i d) i (get_or s i 0) ≡ take (i + 1) s ++ drop (i + 1) d
copy_more s d i hs hd = rw (add-one i) (simp zero-add at (paste-suc d 0 s i 0 (omega arith) hs))

-- the bytes of one word more of ws at the start of bs
pub bytes-more : (ws bs : List ℕ) (i : ℕ) → i < length ws
    → take (4 * i) (bytes_of (take i ws) ++ drop (4 * i) bs)
    ++ low_bytes 4 (get_or ws i 0)
    ++ drop (4 * i + 4) (bytes_of (take i ws) ++ drop (4 * i) bs)
    ≡ bytes_of (take (i + 1) ws) ++ drop (4 * (i + 1)) bs
unfolding bytes_of
bytes-more ws bs i h =
    let p : List ℕ = bytes_of (take i ws) in
    let w : ℕ = get_or ws i 0 in
    let long : length p ≡ 4 * i = length-bytes_of (take i ws) ∙ ap (λ (k : ℕ). 4 * k) (length-take-le i ws (omega arith)) in
    let next : 4 * i + 4 ≡ 4 * (i + 1) = omega arith in
    ap (λ (l : List ℕ). l ++ low_bytes 4 w ++ drop (4 * i + 4) (p ++ drop (4 * i) bs)) (take_at p (drop (4 * i) bs) (4 * i) long)
    ∙ ap (λ (k : ℕ). p ++ low_bytes 4 w ++ drop (k + 4) (p ++ drop (4 * i) bs)) (sym long)
    ∙ ap (λ (l : List ℕ). p ++ low_bytes 4 w ++ l) (drop-append-add p (drop (4 * i) bs) 4 ∙ drop-drop 4 (4 * i) bs)
    ∙ ap (λ (k : ℕ). p ++ low_bytes 4 w ++ drop k bs) next
    ∙ ap (λ (l : List ℕ). l ++ drop (4 * (i + 1)) bs)
    (sym (ap (λ (k : ℕ). bytes_of (take k ws)) (add-one i) ∙ ap bytes_of (take-suc ws i 0 h) ∙ bytes_of-append (take i ws) (w ∷ [])))

-- ---- what a slice of bytes keeps when some of its words are written back

pub bytes_of-take : (k : ℕ) (ws : List ℕ) → bytes_of (take k ws) ≡ take (4 * k) (bytes_of ws)
unfolding bytes_of
bytes_of-take zero ws = refl
bytes_of-take (suc k) [] = sym (take-nil (4 * suc k))
bytes_of-take (suc k) (w ∷ ws) = rw (four-more k) (ap (λ (l : List ℕ). low_bytes 4 w ++ l) (bytes_of-take k ws))

pub bytes_of-drop : (k : ℕ) (ws : List ℕ) → bytes_of (drop k ws) ≡ drop (4 * k) (bytes_of ws)
unfolding bytes_of
bytes_of-drop zero ws = refl
bytes_of-drop (suc k) [] = sym (drop-nil (4 * suc k))
bytes_of-drop (suc k) (w ∷ ws) = rw (four-more k) (bytes_of-drop k ws)

-- the words from e on, of r words that were read from bs, written back before the bytes after them
pub written_back : (bs : List ℕ) (e r : ℕ) → Below 256 bs → e ≤ r → r ≤ length bs / 4
    → bytes_of (drop e (take r (words_of bs))) ++ drop (4 * r) bs ≡ drop (4 * e) bs
written_back bs e r h he hr =
    let read : bytes_of (take r (words_of bs)) ≡ take (4 * r) bs =
    bytes_of-take r (words_of bs)
    ∙ ap (take (4 * r)) (bytes_of-words_of bs h)
    ∙ take-take (4 * r) (4 * (length bs / 4)) bs (omega arith) in
    ap (λ (l : List ℕ). l ++ drop (4 * r) bs) (bytes_of-drop e (take r (words_of bs)) ∙ ap (drop (4 * e)) read)
    ∙ sym (drop-append-le (4 * e) (take (4 * r) bs) (drop (4 * r) bs) (omega (arith, length-take-le (4 * r) bs (omega arith))))
    ∙ ap (drop (4 * e)) (take-append-drop (4 * r) bs)

-- r words were read from bs, the first of them replaced by the words es, and all written back: only those bytes change
pub replaced-words : (es bs : List ℕ) (r : ℕ) → Below 256 bs → length es ≤ r → r ≤ length bs / 4
    → bytes_of (es ++ drop (length es) (take r (words_of bs))) ++ drop (4 * r) bs ≡ bytes_of es ++ drop (4 * length es) bs
replaced-words es bs r h he hr =
    ap (λ (l : List ℕ). l ++ drop (4 * r) bs) (bytes_of-append es (drop (length es) (take r (words_of bs))))
    ∙ append_assoc (bytes_of es) (bytes_of (drop (length es) (take r (words_of bs)))) (drop (4 * r) bs)
    ∙ ap (λ (l : List ℕ). bytes_of es ++ l) (written_back bs (length es) r h he hr)

-- all words of a list of bytes, read to the start of an array with room for them
pub words-read : (bs own now : List ℕ) (n : ℕ) → n ≡ whole_words bs own → now ≡ take n (words_of bs) ++ drop n own → length bs / 4 ≤ length own
    → take n now ≡ words_of bs
words-read bs own now n count content room =
    let k : n ≡ length (words_of bs) = omega (arith, length-words_of bs) in
    ap (take n) content
    ∙ take_at (take n (words_of bs)) (drop n own) n (length-take-le n (words_of bs) (omega arith))
    ∙ take_all n (words_of bs) (omega arith)
