-- `readers::leak_at` meets its contract.
-- Assumes nothing.
use mathlib.Core.Path.{sym, ap, ◌∙◌}
use Prim.Native.Nat.{ℕ, ◌%◌, ◌<◌}
use lib.ListN.{length, get_or}
use Rattle.table.specs.Code.{code}
use Rattle.table.proofs.Limits.{size-le}
use Rattle.calls.proofs.Bounds.{size_small, row_small, words-bound, words_are, flags-base}
use Rattle.readers.proofs.Found.{among-closed, among-open, guarded-is}
use native.Mathlib.Omega.{arith}
use Rattle.readers.proofs.leak_at.Goals as goal

pub returns-then-not-entered : goal.returns-then-not-entered
returns-then-not-entered c =
    let a = c.args in
    let h = c.requires in
    sym (among-closed (code a.words.now) a.rho.bits a.est.now a.b (sym (guarded-is a.words.now h.0.readable a.b a.rho.bits h.1 h.2) ∙ sym c.entered.ensures ∙ c.if-not-entered.true))

pub flags-requires : goal.flags-requires
flags-requires c =
    let a = c.args in
    let h = c.requires in
    let s = size_small a.words.now h.0.readable a.l h.0.laid in
    (s, row_small a.words.now h.0.readable a.l h.0.laid, omega (arith, h.1, size-le a.words.now h.0.readable))

pub offset_bounds-est-flags : goal.offset_bounds-est-flags
unfolding code
offset_bounds-est-flags c =
    let a = c.args in
    let h = c.requires in
    let i : c.flags.result < length a.est.now =
    omega (arith, c.flags.ensures, h.0.long, words_are a.words.now h.0.readable a.l h.0.laid, h.1, h.0.laid.size) in
    omega (arith, i, words-bound a.words.now h.0.readable, h.0.long)

pub bounds-est-flags : goal.bounds-est-flags
unfolding code
bounds-est-flags c =
    let a = c.args in
    let h = c.requires in
    let i : c.flags.result < length a.est.now =
    omega (arith, c.flags.ensures, h.0.long, words_are a.words.now h.0.readable a.l h.0.laid, h.1, h.0.laid.size) in
    omega arith

pub returns : goal.returns
returns c =
    let a = c.args in
    let h = c.requires in
    ap (λ (k : ℕ). get_or a.est.now k 0 % 16777216) (c.flags.ensures ∙ sym (flags-base (code a.words.now) a.l h.0.laid a.b))
    ∙ sym (among-open (code a.words.now) a.rho.bits a.est.now a.b (sym (guarded-is a.words.now h.0.readable a.b a.rho.bits h.1 h.2) ∙ sym c.entered.ensures ∙ c.if-not-entered.false))
