-- A refusal is read back by its three macros. Assumes nothing.
use Prim.Native.Nat.{ℕ, ◌^◌, ◌<◌}
use mathlib.Core.Path.{◌≡◌}
use mathlib.Core.List.{[], ◌∷◌}
use native.Mathlib.Omega.{arith}
use Rattle.fields.specs.Fields.{field}
use Rattle.fields.specs.Header.{refusal_number, Refusal}
use Rattle.fields.proofs.Fields.{read_back}

pub refusal-read : (number place answer : ℕ) → answer ≡ refusal_number number place → number < 2 ^ 16 → place < 2 ^ 16 → Refusal number place answer
refusal-read number place answer e n p =
    let r = read_back (field 16 place ∷ field 16 number ∷ field 1 1 ∷ []) answer (omega arith) (p, (n, (omega arith, tt))) in
    record { refused = r.1.1.0; numbered = r.1.0; placed = r.0 }
