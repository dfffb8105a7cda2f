-- Where a send is delivered: to a block with the name that is sent to, the required permissions, and a guard within the sender's.
use Prim.Native.Nat.{ℕ}
use mathlib.Core.Path.{◌≡◌, refl, subst}
use mathlib.Core.Bool.{Bool, true, false, ◌&&◌}
use lib.Dec.{T, eqb, eqb→eq}
use Rattle.permset.specs.Sets.{within}
use Rattle.delivery.specs.Delivery.{delivered}
use Rattle.delivery.proofs.Laws.{delivered-is}
use Rattle.table.specs.Code.{Node, gap, block, leaf, one, two, bind, while, branch, update}
use Rattle.calculus.specs.Rules.{name_of, perms_of, guarded, delivery_to}
use Rattle.calculus.proofs.Digits.{T-fst, T-snd}

pub delivered-parts : (n r s : ℕ) (m : Node) → T (delivered (delivery_to n r s m)) → (name_of m ≡ n) × T (within r (perms_of m)) × T (guarded m s)
unfolding delivery_to delivered name_of perms_of guarded
delivered-parts n r s gap t = absurd t
delivered-parts n r s (block m u g) t =
    let all = subst T (delivered-is n r s (record { name = m; perms = record { bits = u }; guard = record { bits = g } })) t in
    let two = T-fst (eqb m n && within r u) (within g s) all in
    (eqb→eq m n (T-fst (eqb m n) (within r u) two), T-snd (eqb m n) (within r u) two, T-snd (eqb m n && within r u) (within g s) all)
delivered-parts n r s (leaf l) t = absurd t
delivered-parts n r s (one o a) t = absurd t
delivered-parts n r s (two u a b) t = absurd t
delivered-parts n r s (bind a b) t = absurd t
delivered-parts n r s (while a b) t = absurd t
delivered-parts n r s (branch a b d) t = absurd t
delivered-parts n r s (update a b d) t = absurd t

-- what has no guard is no block
pub unguarded : (n r s : ℕ) (m : Node) → guarded m s ≡ false → delivered (delivery_to n r s m) ≡ false
unguarded n r s m e = go (delivered (delivery_to n r s m)) (delivered-parts n r s m)
  where
    go : (b : Bool) → (T b → (name_of m ≡ n) × T (within r (perms_of m)) × T (guarded m s)) → b ≡ false
    go true k = absurd (subst T e (k tt).2)
    go false k = refl
