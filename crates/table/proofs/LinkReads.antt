-- Links after a write: a link that is packed and read again, and the links beside it.
use mathlib.Core.Path.{◌≡◌, ap, ◌∙◌}
use mathlib.Core.List.{List}
use Prim.Native.Nat.{ℕ, ◌+◌, ◌*◌, ◌/◌, ◌%◌, ◌^◌, ◌<◌}
use native.Mathlib.Omega.{arith}
use lib.ListN.{length, get_or, set, length-set}
use lib.Seq.{get_or-set_same, get_or-set_other}
use mathlib.Core.Logic.{◌≢◌}
use Rattle.table.specs.declared.Link.{Link}
use Rattle.table.specs.Links.{pack, unpack, link_at, with_binder, with_home}

-- a link fits its word
abbrev pub Packs : Link → Type 0
Packs x = (x.end < 2 ^ 11) × (x.binder < 2 ^ 10) × (x.home < 2 ^ 10)

pack-sum : (x : Link) → Packs x → pack x ≡ x.end + x.binder * 2 ^ 11 + x.home * 2 ^ 21
unfolding pack
pack-sum x h = omega arith

digits-end : (a b c : ℕ) → a < 2 ^ 11 → (a + b * 2 ^ 11 + c * 2 ^ 21) % 2 ^ 11 ≡ a
digits-end a b c h = omega arith

digits-binder : (a b c : ℕ) → a < 2 ^ 11 → b < 2 ^ 10 → (a + b * 2 ^ 11 + c * 2 ^ 21) / 2 ^ 11 % 2 ^ 10 ≡ b
digits-binder a b c h k =
    let q : (a + b * 2 ^ 11 + c * 2 ^ 21) / 2 ^ 11 ≡ b + c * 2 ^ 10 = omega arith in
    ap (λ (n : ℕ). n % 2 ^ 10) q ∙ (omega arith)

digits-home : (a b c : ℕ) → a < 2 ^ 11 → b < 2 ^ 10 → c < 2 ^ 10 → (a + b * 2 ^ 11 + c * 2 ^ 21) / 2 ^ 21 % 2 ^ 10 ≡ c
digits-home a b c h k m =
    let q : (a + b * 2 ^ 11 + c * 2 ^ 21) / 2 ^ 21 ≡ c = omega arith in
    ap (λ (n : ℕ). n % 2 ^ 10) q ∙ (omega arith)

pub unpack-pack : (x : Link) → Packs x → unpack (pack x) ≡ x
unfolding unpack
unpack-pack x h =
    let e = pack-sum x h in
    let a : (unpack (pack x)).end ≡ x.end = ap (λ (n : ℕ). n % 2 ^ 11) e ∙ digits-end x.end x.binder x.home h.0 in
    let b : (unpack (pack x)).binder ≡ x.binder =
    ap (λ (n : ℕ). n / 2 ^ 11 % 2 ^ 10) e ∙ digits-binder x.end x.binder x.home h.0 h.1 in
    let c : (unpack (pack x)).home ≡ x.home =
    ap (λ (n : ℕ). n / 2 ^ 21 % 2 ^ 10) e ∙ digits-home x.end x.binder x.home h.0 h.1 h.2 in
    λ i. record { end = a i; binder = b i; home = c i }

pub link-packs : (l : List ℕ) (p : ℕ) → Packs (link_at l p)
unfolding link_at unpack
link-packs l p = (omega arith, omega arith, omega arith)

-- what is read where a link was written, and elsewhere
pub link_set : (l : List ℕ) (p : ℕ) (x : Link) → p < length l → Packs x → link_at (set l p (pack x)) p ≡ x
unfolding link_at
link_set l p x h k = ap unpack (get_or-set_same l p (pack x) 0 h) ∙ unpack-pack x k

pub link-other : (l l' : List ℕ) (q : ℕ) → get_or l' q 0 ≡ get_or l q 0 → link_at l' q ≡ link_at l q
unfolding link_at
link-other l l' q e = ap unpack e

module _ (l : List ℕ) (p b : ℕ) where
  pub binder-other : (q : ℕ) → q ≢ p → get_or (with_binder l p b) q 0 ≡ get_or l q 0
  unfolding with_binder
  binder-other q h = get_or-set_other l p q _ 0 h

  pub home-other : (q : ℕ) → q ≢ p → get_or (with_home l p b) q 0 ≡ get_or l q 0
  unfolding with_home
  home-other q h = get_or-set_other l p q _ 0 h

  pub binder-same : p < length l → b < 2 ^ 10
      → link_at (with_binder l p b) p ≡ record { end = (link_at l p).end; binder = b; home = (link_at l p).home }
  unfolding with_binder
  binder-same h k = let r = link-packs l p in link_set l p _ h (r.0, k, r.2)

  pub home_same : p < length l → b < 2 ^ 10
      → link_at (with_home l p b) p ≡ record { end = (link_at l p).end; binder = (link_at l p).binder; home = b }
  unfolding with_home
  home_same h k = let r = link-packs l p in link_set l p _ h (r.0, r.1, k)

  pub length-binder : length (with_binder l p b) ≡ length l
  unfolding with_binder
  length-binder = simp length-set

  pub length-home : length (with_home l p b) ≡ length l
  unfolding with_home
  length-home = simp length-set
