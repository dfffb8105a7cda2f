-- Bounds of an estimate: at most 1024 words in the table, and fewer than 64 in a row.
use Prim.Native.Nat.{ℕ, ◌*◌, ◌≤◌, ◌<◌}
use native.Mathlib.Nat.{mul-le-mul}
use native.Mathlib.Omega.{arith}

pub rows_fit : (size row : ℕ) → size ≤ 1024 → row < 64 → 2 * size * row ≤ 2048 * 64
rows_fit size row h k = mul-le-mul {n₂ = 2048} {m₂ = 64} (omega arith) (omega arith)
