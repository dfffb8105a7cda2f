-- `listing::spell::style_at` meets its contract. Assumes nothing.
use Prim.Native.Nat.{ℕ, ◌+◌, ◌*◌}
use mathlib.Core.Path.{◌≡◌, sym, ap, ◌∙◌}
use native.Mathlib.Omega.{arith}
use mathlib.Core.List.{List}
use lib.ListN.{length, get_or}
use Rattle.listing.specs.declared.keywords.Style.TheVariants.{Omitted, Hex, Whole}
use Rattle.listing.specs.Keywords.{entry_of, style_letter}
use Rattle.listing.proofs.Letters.{letters-length, style-at}
use Rattle.listing.proofs.Styles.{letter-injective, letter-rest}
use Rattle.listing.proofs.spell.style_at.Goals as goal

pub bounds-letters-k : goal.bounds-letters-k
bounds-letters-k c =
    omega (arith, ap length c.requires.0 ∙ letters-length)

-- the letter that is read
letter : (ls ks : List ℕ) (k : ℕ) → ls ≡ ks → get_or ks (16 * k + 1) 0 ≡ style_letter (entry_of k).style → get_or ls (16 * k + 1) 0 ≡ style_letter (entry_of k).style
letter ls ks k e f = ap (λ (l : List ℕ). get_or l (16 * k + 1) 0) e ∙ f

pub returns-in-111 : goal.returns-in-111
unfolding style_letter
returns-in-111 c = letter-injective Omitted (entry_of c.args.k).style (sym c.in-111.is ∙ letter _ _ c.args.k c.requires.0 (style-at c.args.k c.requires.1))

pub returns-in-104 : goal.returns-in-104
unfolding style_letter
returns-in-104 c = letter-injective Hex (entry_of c.args.k).style (sym c.in-104.is ∙ letter _ _ c.args.k c.requires.0 (style-at c.args.k c.requires.1))

pub returns-in-119 : goal.returns-in-119
unfolding style_letter
returns-in-119 c = letter-injective Whole (entry_of c.args.k).style (sym c.in-119.is ∙ letter _ _ c.args.k c.requires.0 (style-at c.args.k c.requires.1))

pub returns-in_default : goal.returns-in_default
returns-in_default c =
    let e = letter _ _ c.args.k c.requires.0 (style-at c.args.k c.requires.1) in
    letter-rest (entry_of c.args.k).style (omega arith) (omega arith) (omega arith)
