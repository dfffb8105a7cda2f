-- Numbers (RFC 8259, section 6): number = [ minus ] int [ frac ] [ exp ].
use Rattle.std.specs.Prelude.{ℕ, Bool, true, false, ◌||◌, List, [], ◌∷◌, eqb}
use Rattle.json_text.specs.Bytes.{head, tail, within, Rest, nothing, rest, then}

abbrev pub is_digit : ℕ → Bool
is_digit b = within 0x30 0x39 b

-- *DIGIT
unfoldable pub digits : List ℕ → List ℕ
digits [] = []
digits (b ∷ bs) = elim (is_digit b) [ true ↦ digits bs | false ↦ b ∷ bs ]

-- 1*DIGIT
unfoldable pub some_digits : List ℕ → Rest
unfolding digits head tail
some_digits bs = elim (is_digit (head bs)) [ true ↦ rest (digits (tail bs)) | false ↦ nothing ]

-- [ minus ]
unfoldable pub minus : List ℕ → List ℕ
unfolding head tail
minus bs = elim (eqb (head bs) 0x2d) [ true ↦ tail bs | false ↦ bs ]

-- int = zero / ( digit1-9 *DIGIT )
unfoldable pub int : List ℕ → Rest
unfolding head tail some_digits
int bs = elim (eqb (head bs) 0x30) [ true ↦ rest (tail bs) | false ↦ some_digits bs ]

-- [ frac ], frac = decimal-point 1*DIGIT
unfoldable pub frac : List ℕ → Rest
unfolding head tail some_digits
frac bs = elim (eqb (head bs) 0x2e) [ true ↦ some_digits (tail bs) | false ↦ rest bs ]

-- [ minus / plus ]
unfoldable pub sign : List ℕ → List ℕ
unfolding head tail
sign bs = elim (eqb (head bs) 0x2d || eqb (head bs) 0x2b) [ true ↦ tail bs | false ↦ bs ]

-- [ exp ], exp = e [ minus / plus ] 1*DIGIT
unfoldable pub exp : List ℕ → Rest
unfolding head tail sign some_digits
exp bs = elim (eqb (head bs) 0x65 || eqb (head bs) 0x45) [ true ↦ some_digits (sign (tail bs)) | false ↦ rest bs ]

unfoldable pub number : List ℕ → Rest
unfolding minus int frac exp then
number bs = then (then (int (minus bs)) frac) exp
