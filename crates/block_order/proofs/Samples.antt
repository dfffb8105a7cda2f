-- The hypotheses of `order-free` are met, and the renumbering is no trivial one: *relay* with its two handlers exchanged, narrow and wide.
use Prim.Native.Nat.{ℕ}
use mathlib.Core.Path.{◌≡◌, refl, ap, sym, ◌∙◌}
use mathlib.Core.List.Permᴰ
use mathlib.Core.List.{List, [], ◌∷◌, flatten}
use native.Mathlib.Omega.{arith}
use lib.ListN.{get_or}
use Rattle.table.specs.Words.{parts_by_kind, limits_by_kind, parts, arity, limit, names_of}
use Rattle.table.specs.Code.{skip}
use Rattle.table.specs.Scan.{first_of, has, tests, fault, missing, keep, under, next, scan, reading}
use Rattle.blocks.specs.Blocks.{blocks, cut, block_length, table_of}
use Rattle.block_order.specs.Order.{rearranged, Independent}
use Rattle.block_order.proofs.Theorem.{order-free}

abbrev sender : List ℕ
sender = 0x02000000 ∷ 0x03000008 ∷ 0x04000000 ∷ 0x23000000 ∷ 0x13000001 ∷ 0x14000000 ∷ []

abbrev receiver : List ℕ
receiver = 0x02000001 ∷ 0x03000002 ∷ 0x04000008 ∷ 0x24000002 ∷ []

-- the table of these two blocks, by its word 0
abbrev relay : ℕ → List ℕ
relay w =
    w ∷ 0x02000000 ∷ 0x03000008 ∷ 0x04000000 ∷ 0x23000000 ∷ 0x13000001 ∷ 0x14000000 ∷ 0x02000001 ∷ 0x03000002 ∷ 0x04000008 ∷ 0x24000002 ∷ []

abbrev turned : ℕ → List ℕ
turned w = rearranged (relay w) (receiver ∷ sender ∷ [])

pub narrow-turned : Independent (relay 0x01000002) (turned 0x01000002)
unfolding parts_by_kind limits_by_kind parts arity limit names_of skip first_of has tests fault missing keep under next scan reading blocks cut block_length
narrow-turned = order-free (relay 0x01000002) refl (receiver ∷ sender ∷ []) (Permᴰ.swap refl refl)

pub wide-turned : Independent (relay 0x05000002) (turned 0x05000002)
unfolding parts_by_kind limits_by_kind parts arity limit names_of skip first_of has tests fault missing keep under next scan reading blocks cut block_length
wide-turned = order-free (relay 0x05000002) refl (receiver ∷ sender ∷ []) (Permᴰ.swap refl refl)

-- word 1 does not stay: another one stands there
pub word-moves : (o : Independent (relay 0x01000002) (turned 0x01000002)) → o.π 1 ≡ 1 → ⊥
unfolding table_of flatten
word-moves o e =
    let q : get_or (turned 0x01000002) 1 0 ≡ 0x02000000 = ap (λ (n : ℕ). get_or (turned 0x01000002) n 0) (sym e) ∙ o.renumbers.word 1 in
    let r : ◌≡◌ {A = ℕ} 0x02000001 0x02000000 = q in
    omega arith
