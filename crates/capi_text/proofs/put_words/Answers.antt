-- `capi_text::put_words` meets its contract. Assumes nothing.
use Prim.Native.Nat.{ℕ, ◌*◌}
use mathlib.Core.Path.{sym, ap, ◌∙◌}
use mathlib.Core.List.{List, ◌++◌}
use native.Mathlib.Omega.{arith}
use lib.ListN.{take, drop}
use mathlib.Core.Path.{◌≡◌}
use lib.Seq.{length-take-le, take_all}
use Rattle.little_endian.specs.LittleEndian.{bytes_of}
use Rattle.capi_text.proofs.Bytes.{put-short, put_whole}
use Rattle.capi_text.proofs.put_words.Goals as goal

pub returns-then-bytes-count : goal.returns-then-bytes-count
returns-then-bytes-count c =
    let a = c.args in
    put-short a.number a.words.now a.bytes.now a.count _ (omega arith) c.if-bytes-count.true

pub slice_bounds-bytes_of-end : goal.slice_bounds-bytes_of-end
slice_bounds-bytes_of-end c =
    sym (length-take-le c.args.count c.args.words.now c.requires.0)

pub returns : goal.returns
returns c =
    let w = c.bytes_of.ensures in
    let size = length-take-le c.args.count c.args.words.now c.requires.0 in
    let all : c.bytes_of.result ≡ c.args.count = omega (arith, w.count, size) in
    put_whole c.args.number c.args.words.now c.args.bytes.now c.args.count _ (omega arith)
    (w.content ∙ ap (λ (n : ℕ). bytes_of (take n (take c.args.count c.args.words.now)) ++ drop (4 * n) c.args.bytes.now) all
    ∙ ap (λ (l : List ℕ). bytes_of l ++ drop (4 * c.args.count) c.args.bytes.now) (take_all c.args.count (take c.args.count c.args.words.now) (omega (arith, size))))
