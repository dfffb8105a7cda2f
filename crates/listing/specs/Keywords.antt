-- The keyword of each kind and how its argument is written (document 02, wish 1; docs/LISTING.md).
use Rattle.std.specs.Prelude.{ℕ, ◌-◌, Bool, not, List, [], ◌∷◌, ◌++◌, eqb, length, get_or, replicate}
use Rattle.text.specs.Text.{bytes}
use Rattle.listing.specs.declared.keywords.Style.{Style}
use Rattle.listing.specs.declared.keywords.Style.TheVariants.{Omitted, Hex, Whole, Signed}

pub record Entry : Type 0 where
  pub keyword : List ℕ
  pub style : Style

-- a number that is no kind of document 01 has no keyword
abbrev pub unused : Entry
unused = record { keyword = []; style = Omitted }

-- of kinds 0 to 36 in order
unfoldable pub entries : List Entry
entries =
    unused
    ∷ record { keyword = bytes "system"; style = Whole }  -- 1
    ∷ record { keyword = bytes "handler"; style = Whole }  -- 2
    ∷ record { keyword = bytes "permissions"; style = Hex }  -- 3
    ∷ record { keyword = bytes "guard"; style = Hex }  -- 4
    ∷ replicate 11 unused
    ++ record { keyword = bytes "constant"; style = Whole }  -- 16
    ∷ record { keyword = bytes "number"; style = Signed }  -- 17
    ∷ record { keyword = bytes "string"; style = Whole }  -- 18
    ∷ record { keyword = bytes "name"; style = Whole }  -- 19
    ∷ record { keyword = bytes "variable"; style = Whole }  -- 20
    ∷ record { keyword = bytes "function"; style = Omitted }  -- 21
    ∷ record { keyword = bytes "apply"; style = Omitted }  -- 22
    ∷ record { keyword = bytes "let"; style = Omitted }  -- 23
    ∷ record { keyword = bytes "sequence"; style = Omitted }  -- 24
    ∷ record { keyword = bytes "if"; style = Omitted }  -- 25
    ∷ record { keyword = bytes "while"; style = Omitted }  -- 26
    ∷ record { keyword = bytes "operation"; style = Whole }  -- 27
    ∷ record { keyword = bytes "record"; style = Omitted }  -- 28
    ∷ record { keyword = bytes "get"; style = Omitted }  -- 29
    ∷ record { keyword = bytes "set"; style = Omitted }  -- 30
    ∷ record { keyword = bytes "delete"; style = Omitted }  -- 31
    ∷ record { keyword = bytes "cell"; style = Omitted }  -- 32
    ∷ record { keyword = bytes "read"; style = Omitted }  -- 33
    ∷ record { keyword = bytes "assign"; style = Omitted }  -- 34
    ∷ record { keyword = bytes "send"; style = Hex }  -- 35
    ∷ record { keyword = bytes "exercise"; style = Hex }  -- 36
    ∷ []

unfoldable pub entry_of : ℕ → Entry
entry_of k = get_or entries k unused

unfoldable pub used : Entry → Bool
used e = not (eqb (length e.keyword) 0)

-- ---- the entries as the code holds them: 16 bytes for each kind

-- a letter for each style: o, h, w, s
unfoldable pub style_letter : Style → ℕ
style_letter Omitted = 111
style_letter Hex = 104
style_letter Whole = 119
style_letter Signed = 115

-- the keyword's length, its style and its letters, with full stops behind them
unfoldable pub packed : Entry → List ℕ
unfolding style_letter
packed e = length e.keyword ∷ style_letter e.style ∷ e.keyword ++ replicate (14 - length e.keyword) 46

unfoldable pub packed_all : List Entry → List ℕ
unfolding packed
packed_all [] = []
packed_all (e ∷ es) = packed e ++ packed_all es

unfoldable pub letters : List ℕ
unfolding entries packed_all
letters = packed_all entries
