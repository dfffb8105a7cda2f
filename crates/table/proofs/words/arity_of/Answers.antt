-- `table::words::arity_of` meets its contract: the code's number holds the length of each kind's parts.
use mathlib.Core.Path.{ap, ◌∙◌}
use Prim.Native.Nat.{ℕ, ◌-◌, ◌*◌, ◌/◌, ◌%◌, ◌^◌}
use native.Mathlib.Omega.{arith}
use Rattle.table.proofs.ByKind.{arity-packed, arity-low, arity-past}
use Rattle.table.proofs.words.arity_of.Goals as goal
use Rattle.table.proofs.words.arity_of.Goals.{then-kind-lt-FIRST_TERM-via-then-kind-lt-FIRST_TERM as low, then-kind-lt-FIRST_TERM-via-else-kind-lt-FIRST_TERM+then-kind-gt-LAST_TERM as past}

pub returns-then-kind-lt-FIRST_TERM : goal.returns-then-kind-lt-FIRST_TERM
returns-then-kind-lt-FIRST_TERM c =
    elim c.then-kind-lt-FIRST_TERM.branch [ low w ↦ arity-low c.args.w (omega arith) | past w ↦ arity-past c.args.w (omega arith) ]

pub returns : goal.returns
returns c =
    ap (λ (k : ℕ). 711768056832 / 2 ^ (2 * (k - 16)) % 4) c.kind_of-kind.ensures ∙ arity-packed c.args.w (omega arith)
