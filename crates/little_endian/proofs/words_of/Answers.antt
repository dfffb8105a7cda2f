use Rattle.std.proofs.Common.{◌≡◌, ◌∙◌, ap, refl, ℕ, zero, suc, ◌/◌, ◌<◌, List, [], ◌∷◌, ◌++◌, take, drop, length, get_or, set, arith, min}
use Rattle.std.specs.Int.{from_le_bytes, w32}
use Rattle.std.specs.Simd.{first_chunks}
use Rattle.std.proofs.lemmas.List.{get_or-take, length-take}
use Rattle.little_endian.specs.LittleEndian.{words_of}
use Rattle.little_endian.proofs.Laws.{length-words_of, copy_more}
use Rattle.little_endian.proofs.words_of.Goals as goal

-- a word is the number of its four bytes
chunk-word : (bs : List ℕ) (count i : ℕ) → count ≡ length bs / 4 → i < count → from_le_bytes w32 (get_or (first_chunks 4 count bs) i []) ≡ get_or (words_of bs) i 0
unfolding words_of
chunk-word [] count i e h = absurd (omega arith)
chunk-word (a ∷ []) count i e h = absurd (omega arith)
chunk-word (a ∷ b ∷ []) count i e h = absurd (omega arith)
chunk-word (a ∷ b ∷ c ∷ []) count i e h = absurd (omega arith)
chunk-word (a ∷ b ∷ c ∷ d ∷ bs) zero i e h = absurd (omega arith)
chunk-word (a ∷ b ∷ c ∷ d ∷ bs) (suc count) zero e h = omega arith
chunk-word (a ∷ b ∷ c ∷ d ∷ bs) (suc count) (suc i) e h = chunk-word bs count i (omega arith) (omega arith)

pub loop-i-preserved : goal.loop-i-preserved
loop-i-preserved c =
    let l = c.loop-i in
    let bs : List ℕ = c.args.bytes.now in
    let fours : List (List ℕ) = c.as_chunks.result.0.now in
    let size : length (take c.min-n.result fours) ≡ min c.min-n.result (length fours) = length-take _ _ in
    let whole : l.i < length bs / 4 = omega arith in
    let item : get_or (take c.min-n.result fours) l.i [] ≡ get_or (first_chunks 4 (length bs / 4) bs) l.i [] =
    get_or-take c.min-n.result fours l.i [] (omega arith) ∙ ap (λ (cs : List (List ℕ)). get_or cs l.i []) c.as_chunks.ensures.front in
    let word : c.from_le_bytes.result ≡ get_or (words_of bs) l.i 0 =
    c.from_le_bytes.ensures ∙ ap (from_le_bytes w32) item ∙ chunk-word bs (length bs / 4) l.i refl whole in
    ap (λ (ws : List ℕ). set ws l.i c.from_le_bytes.result) l.invariant
    ∙ ap (λ (w : ℕ). set (take l.i (words_of bs) ++ drop l.i c.args.words.now) l.i w) word
    ∙ copy_more (words_of bs) c.args.words.now l.i (omega (arith, length-words_of bs)) (omega arith)
