-- `capi::of_system` meets its contract: the words are those of the system. Assumes nothing.
use Prim.Native.Nat.{ℕ, ◌/◌}
use mathlib.Core.Path.{sym, subst}
use mathlib.Core.List.{List}
use native.Mathlib.Omega.{arith}
use lib.ListN.{length}
use Rattle.calculus.specs.Answer.{answer}
use Rattle.capi.specs.Interface.{Answered}
use Rattle.capi.proofs.Written.{read_length}
use Rattle.capi.proofs.Systems.{system-read}
use Rattle.capi.proofs.of_system.Goals as goal

pub slice_bounds-of_words-end-2 : goal.slice_bounds-of_words-end-2
slice_bounds-of_words-end-2 c =
    let w = c.words_of-n.ensures in
    sym (read_length _ _ _ _ w.count w.content)

pub of_words-requires : goal.of_words-requires
of_words-requires c =
    let w = c.words_of-n.ensures in
    omega (arith, read_length _ _ _ _ w.count w.content, w.count)

pub returns : goal.returns
returns c =
    let a = c.args in
    let p = c.requires in
    let w = c.words_of-n.ensures in
    subst
    (λ (ws : List ℕ). Answered ws a.rho (answer ws a.rho a.bound (length a.estimate.now / 4) (length a.work.now / 4)) a.estimate.now a.work.now c.of_words.result c.of_words.new.estimate c.of_words.new.work)
    (system-read a.system.now a.words.now _ _ w.count w.content p.1 p.0)
    c.of_words.ensures
