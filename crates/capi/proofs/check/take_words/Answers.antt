-- `capi::check::take_words` meets its contract: whole words that an estimate may have, or none. Assumes nothing.
use mathlib.Core.Path.{◌≡◌}
use Prim.Native.Nat.{◌≤◌}
use native.Mathlib.Omega.{arith}
use lib.ListN.{length}
use Rattle.little_endian.proofs.Laws.{words-read}
use Rattle.capi.proofs.Taken.{too_many, odd-bytes, all-taken}
use Rattle.capi.proofs.check.take_words.Goals as goal

pub returns-then-bytes-gt23552 : goal.returns-then-bytes-gt23552
returns-then-bytes-gt23552 c =
    let a = c.args in too_many a.bytes.now c.if-bytes-gt23552.true a.room.now

pub returns-then-bytes-ne0 : goal.returns-then-bytes-ne0
returns-then-bytes-ne0 c =
    let a = c.args in odd-bytes a.bytes.now c.if-bytes-gt23552.false c.if-bytes-ne0.true a.room.now

pub returns : goal.returns
returns c =
    let a = c.args in
    let w = c.words_of.ensures in
    let h : length a.bytes.now ≤ 23552 = c.if-bytes-gt23552.false in
    let r : length a.room.now ≡ 5888 = c.requires in
    all-taken a.bytes.now h c.if-bytes-ne0.false a.room.now _ _ r (omega (arith, w.count))
    (words-read a.bytes.now a.room.now _ _ w.count w.content (omega arith))
