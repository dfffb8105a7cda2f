-- `solver::analyse::most_facts` meets its contract. Assumes nothing.
use Prim.Native.Nat.{◌+◌, ◌*◌, ◌≤◌}
use native.Mathlib.Nat.{mul-le-mul}
use native.Mathlib.Omega.{arith}
use Rattle.solver.proofs.analyse.most_facts.Goals as goal

pub overflow_mul-result-3 : goal.overflow_mul-result-3
overflow_mul-result-3 c =
    let a = c.args in
    let q : a.l.size * (2 * (32 * a.l.lead + a.l.size) + 25) ≤ 1024 * 4377 = mul-le-mul {n₂ = 1024} {m₂ = 4377} c.requires.0 (omega (arith, c.requires.0, c.requires.1)) in
    omega (arith, q)
