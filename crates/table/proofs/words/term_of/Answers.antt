-- `table::words::term_of` meets its contract. In the last arm the kind is that of a record, or past those of terms.
use mathlib.Core.Path.{◌≡◌, sym, ap}
use Prim.Native.Nat.{ℕ, ◌-◌, ◌<◌, ◌≤◌}
use native.Mathlib.Decide.{dec_lt}
use native.Mathlib.Omega.{arith}
use lib.ListN.{get_or, get_or-eq_default}
use Rattle.table.specs.declared.Term.TheVariants.{Record}
use Rattle.table.specs.Words.{kind, argument, terms_by_kind, term_of}
use Rattle.table.proofs.words.term_of.Goals as goal

recorded : (w : ℕ) → (kind w ≤ 36 → kind w ≡ 28) → Dec (36 < kind w) → Record ≡ term_of w
unfolding term_of terms_by_kind
recorded w f (yes h) = sym (get_or-eq_default (terms_by_kind (argument w)) Record {n = kind w - 16} (omega arith))
recorded w f (no n) = sym (ap (λ (k : ℕ). get_or (terms_by_kind (argument w)) (k - 16) Record) (f (omega arith)))

pub returns-in_default : goal.returns-in_default
returns-in_default c = recorded c.args.w (λ h. omega arith) (dec_lt 36 (kind c.args.w))
