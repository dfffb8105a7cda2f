-- `capi::check::of_system` meets its contract: the words are those of the system. Assumes nothing.
use Prim.Native.Nat.{ℕ}
use mathlib.Core.Path.{sym, ap, ◌∙◌}
use mathlib.Core.List.{List}
use native.Mathlib.Omega.{arith}
use Rattle.audit.specs.Audited.{audited}
use Rattle.capi.specs.Check.{check_number, estimate_from}
use Rattle.capi.proofs.Written.{read_length}
use Rattle.capi.proofs.Systems.{system-read}
use Rattle.capi.proofs.check.of_system.Goals as goal

pub slice_bounds-of_words-end-2 : goal.slice_bounds-of_words-end-2
slice_bounds-of_words-end-2 c =
    let w = c.words_of-n.ensures in sym (read_length _ _ _ _ w.count w.content)

pub of_words-requires : goal.of_words-requires
of_words-requires c =
    let w = c.words_of-n.ensures in omega (arith, read_length _ _ _ _ w.count w.content, w.count)

pub returns : goal.returns
returns c =
    let a = c.args in
    let w = c.words_of-n.ensures in
    c.of_words.ensures
    ∙ ap (λ (ws : List ℕ). check_number (audited ws a.rho (estimate_from a.estimate.now)))
    (system-read a.system.now a.words.now _ _ w.count w.content c.requires.1 c.requires.0)
