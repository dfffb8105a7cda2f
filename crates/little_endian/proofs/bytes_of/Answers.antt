use Rattle.std.proofs.Common.{◌≡◌, ◌∙◌, ap, refl, ℕ, ◌+◌, ◌*◌, List, ◌++◌, take, drop, length, get_or, arith, min}
use Rattle.std.specs.Int.{to_le_bytes, w32}
use Rattle.std.proofs.lemmas.List.{get_or-take, length-take}
use Rattle.std.proofs.lemmas.Slice.{put_mid-paste}
use Rattle.little_endian.specs.LittleEndian.{low_bytes, bytes_of}
use Rattle.little_endian.proofs.Laws.{bytes-more}
use Rattle.little_endian.proofs.bytes_of.Goals as goal

to_le_bytes-low_bytes : (n : ℕ) → to_le_bytes w32 n ≡ low_bytes 4 n
to_le_bytes-low_bytes n = grind arith

pub loop-i-init : goal.loop-i-init
unfolding bytes_of
loop-i-init c = refl

pub loop-i-preserved : goal.loop-i-preserved
loop-i-preserved c =
    let l = c.loop-i in
    let ws : List ℕ = c.args.words.now in
    let size : length (take c.min-n.result ws) ≡ min c.min-n.result (length ws) = length-take _ _ in
    let item : get_or (take c.min-n.result ws) l.i 0 ≡ get_or ws l.i 0 = get_or-take c.min-n.result ws l.i 0 (omega arith) in
    let written : c.copy_from_slice.new.self ≡ low_bytes 4 (get_or ws l.i 0) =
    c.copy_from_slice.ensures.after ∙ c.to_le_bytes.ensures ∙ ap (to_le_bytes w32) item ∙ to_le_bytes-low_bytes _ in
    put_mid-paste (4 * l.i) _ l.bytes _ (low_bytes 4 (get_or ws l.i 0)) 4 written (omega arith) refl
    ∙ ap (λ (bs : List ℕ). take (4 * l.i) bs ++ low_bytes 4 (get_or ws l.i 0) ++ drop (4 * l.i + 4) bs) l.invariant
    ∙ bytes-more ws c.args.bytes.now l.i (omega arith)
