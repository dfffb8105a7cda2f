-- `json_text::strings::character` meets its contract.
-- Assumes nothing.
use mathlib.Core.Path.{◌≡◌, sym, ap, ap₂, ◌∙◌}
use mathlib.Core.Bool.{true, false}
use mathlib.Core.List.{List, [], ◌∷◌}
use Prim.Native.Nat.{ℕ}
use native.Mathlib.Omega.{arith}
use lib.Dec.{eqb, ltb}
use borrow.Author.Tests.{lt-ltb, le-ltb}
use Rattle.json_text.specs.Bytes.{head, tail, goes}
use Rattle.json_text.specs.Strings.{character}
use Rattle.json_text.proofs.Choice.{is-not}
use Rattle.json_text.proofs.Places.{tail-drop}
use Rattle.json_text.proofs.strings.character.Goals as goal

ascii : (bs : List ℕ) → eqb (head bs) 0x22 ≡ false → eqb (head bs) 0x5c ≡ false → ltb (head bs) 0x20 ≡ false → ltb (head bs) 0x80 ≡ true
    → character bs ≡ goes (head bs ∷ []) (tail bs)
unfolding character
ascii bs q b d e = rw (q, b, d, e, character)

pub returns-then-b-lt128 : goal.returns-then-b-lt128
returns-then-b-lt128 c =
    sym
    (ascii _ (is-not c.byte-b.ensures c.if-b-eq34.false) (is-not c.byte-b.ensures c.if-b-eq92.false) (ap (λ (b : ℕ). ltb b 32) (sym c.byte-b.ensures) ∙ le-ltb c.byte-b.result 32 (omega arith)) (ap (λ (b : ℕ). ltb b 128) (sym c.byte-b.ensures) ∙ lt-ltb c.byte-b.result 128 (omega arith))
    ∙ ap₂ (λ (u : ℕ) (bs : List ℕ). goes (u ∷ []) bs) (sym c.byte-b.ensures) (tail-drop c.args.text.now c.args.at))
