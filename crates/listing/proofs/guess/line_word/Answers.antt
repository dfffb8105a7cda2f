-- `listing::guess::line_word` meets its contract. Assumes nothing.
use Prim.Native.Nat.{ℕ, ◌+◌, ◌*◌, ◌^◌}
use mathlib.Core.Path.{◌≡◌, refl, sym, ap, ◌∙◌, subst}
use mathlib.Core.List.{List}
use native.Mathlib.Omega.{arith}
use lib.ListN.{length, drop}
use Rattle.text.proofs.Writing.{line_taken}
use Rattle.listing.specs.declared.keywords.Style.{Style}
use Rattle.listing.specs.Keywords.{entry_of}
use Rattle.listing.specs.Spelling.{same, guessed, guessed_argument, spelled, line_word}
use Rattle.listing.specs.Listing.{NoneAtZero}
use Rattle.listing.proofs.Letters.{keyword-short}
use Rattle.listing.proofs.Guessing.{same-equal, guessed-as, spells-none, spells-yes, spells-other}
use Rattle.listing.proofs.guess.line_word.Goals as goal

-- the word that a line could spell, from the keyword's length, its style and the argument
word : (l : List ℕ) (k n a : ℕ) (style : Style) → n ≡ length (entry_of k).keyword → style ≡ (entry_of k).style
    → a ≡ guessed_argument style (drop n l) → k * 2 ^ 24 + a ≡ guessed k l
word l k n a style e f g = guessed-as l k a n e (g ∙ ap (λ (s : Style). guessed_argument s (drop n l)) f)

pub returns-in_err-k : goal.returns-in_err-k
returns-in_err-k c =
    subst (NoneAtZero (line_word c.args.l.now)) (sym c.from_residual.ensures) (spells-none c.args.l.now 0 (sym c.in_err-k.ensures.kind) refl)

pub guessed_argument-requires : goal.guessed_argument-requires
guessed_argument-requires c =
    omega (arith, c.keyword_size-n.ensures, keyword-short c.in_ok-k.k)

pub returns-then-eq : goal.returns-then-eq
returns-then-eq c =
    let l = c.args.l.now in
    let k = c.in_ok-k.ensures.kind in
    let w = word l c.in_ok-k.k _ _ _ c.keyword_size-n.ensures c.style_at-style.ensures c.guessed_argument.ensures.value in
    let text = line_taken c.spell-size.ensures.line ∙ ap spelled w in
    let all = spells-yes l c.in_ok-k.k k.0 k.1 (ap (λ (x : List ℕ). same x l) (sym text) ∙ sym (same-equal _ l) ∙ sym c.eq.ensures ∙ c.if-eq.true) in
    (w ∙ all, λ z. k.1 (omega arith))

pub returns-else-eq : goal.returns-else-eq
returns-else-eq c =
    let l = c.args.l.now in
    let k = c.in_ok-k.ensures.kind in
    let w = word l c.in_ok-k.k _ _ _ c.keyword_size-n.ensures c.style_at-style.ensures c.guessed_argument.ensures.value in
    let text = line_taken c.spell-size.ensures.line ∙ ap spelled w in
    spells-other l c.in_ok-k.k k.0 k.1 (ap (λ (x : List ℕ). same x l) (sym text) ∙ sym (same-equal _ l) ∙ sym c.eq.ensures ∙ c.if-eq.false)
