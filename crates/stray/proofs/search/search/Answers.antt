-- `stray::search::search` meets its contract: the rows, then the words of permissions and flags.
-- Assumes nothing.
use native.Mathlib.Omega.{arith}
use Rattle.table.specs.Code.{code}
use Rattle.stray.proofs.Firsts.{first-after, first-longer, first-none, first-is}
use Rattle.stray.proofs.Sliced.{most-words, most-rows, words_long}
use Rattle.stray.proofs.search.search.Goals as goal

pub flags-requires : goal.flags-requires
flags-requires c =
    let a = c.args in
    (most-words a.words.now a.est.now a.l c.requires.0, most-rows a.words.now a.est.now a.l c.requires.0, omega arith)

pub returns-then-k-flags : goal.returns-then-k-flags
returns-then-k-flags c =
    let a = c.args in
    first-is (code a.words.now) a.est.now _
    (first-longer c.in_rows-k.ensures (omega (arith, c.flags.ensures, c.if-k-flags.true)) (omega (arith, words_long a.words.now a.est.now a.l c.requires.0)))

pub returns : goal.returns
returns c =
    let a = c.args in
    first-is (code a.words.now) a.est.now _
    (first-after (λ k h. first-none c.in_rows-k.ensures (omega (arith, c.flags.ensures, c.if-k-flags.false)) k (omega arith) h) c.in_flags.ensures)
