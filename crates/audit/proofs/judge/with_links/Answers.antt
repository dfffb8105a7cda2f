-- `audit::judge::with_links` meets its contract. The links of 1,024 words fit. Assumes nothing.
use Prim.Native.Nat.{ℕ}
use native.Mathlib.Omega.{arith}
use lib.ListN.{replicate, length-replicate}
use Rattle.table.proofs.Limits.{size-le}
use Rattle.audit.proofs.judge.with_links.Goals as goal

pub with_masks-requires : goal.with_masks-requires
with_masks-requires c = (
  record {
    readable = c.requires.0.readable;
    laid = c.requires.0.laid;
    linked = record { slice = replicate 1024 0; room = omega (arith, length-replicate {A = ℕ} 1024 0, size-le c.args.words.now c.requires.0.readable); made = c.link.ensures };
    long = c.requires.0.long;
  },
  c.requires.1,
)
