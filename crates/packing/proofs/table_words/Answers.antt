-- `packing::table_words` meets its contract. Assumes nothing.
use native.Mathlib.Omega.{arith}
use Rattle.packing.proofs.Laws.{table-long, table-whole, table-part, table-few}
use Rattle.packing.proofs.table_words.Goals as goal

pub returns-then-bytes-gt1024 : goal.returns-then-bytes-gt1024
returns-then-bytes-gt1024 c = table-long c.args.bytes.now c.if-bytes-gt1024.true

pub returns-then-bytes-eq0 : goal.returns-then-bytes-eq0
returns-then-bytes-eq0 c =
    let w = c.words_of-n in
    (omega (arith, w.ensures.count, c.requires), table-whole c.args.bytes.now c.args.words.now _ _ c.requires c.if-bytes-gt1024.false w.ensures.count w.ensures.content c.if-bytes-eq0.true)

pub bounds-words-n : goal.bounds-words-n
bounds-words-n c =
    let w = c.words_of-n in
    let k = table-few c.args.bytes.now c.args.words.now _ _ c.requires c.if-bytes-gt1024.false w.ensures.count w.ensures.content c.if-bytes-eq0.false in
    omega (arith, w.auto.words, c.requires)

pub returns : goal.returns
returns c =
    let w = c.words_of-n in
    let k = table-few c.args.bytes.now c.args.words.now _ _ c.requires c.if-bytes-gt1024.false w.ensures.count w.ensures.content c.if-bytes-eq0.false in
    (omega arith, table-part c.args.bytes.now c.args.words.now _ _ c.requires c.if-bytes-gt1024.false w.ensures.count w.ensures.content c.if-bytes-eq0.false (omega (arith, w.auto.words, c.requires)) k)
