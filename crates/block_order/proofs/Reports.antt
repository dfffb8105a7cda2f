-- Two codes that rename each other's words say the same of a handler, apart from its position.
use Prim.Native.Nat.{ℕ, ◌<◌, ◌%◌, ◌^◌}
use mathlib.Core.Path.{◌≡◌, refl, sym, ap, ap₂, ◌∙◌, subst}
use mathlib.Core.List.{List, [], ◌∷◌, map, Memᴰ, Permᴰ}
use native.Mathlib.Nat.{mod-lt}
use native.Mathlib.Omega.{arith}
use lib.Dec.{T}
use lib.ListN.{get_or}
use lib.Pow.{pow_pos}
use Rattle.permset.specs.Sets.{width, member}
use Rattle.permset.proofs.Laws.{same-below}
use Rattle.table.specs.Code.{Code, Node}
use Rattle.calculus.specs.Constraint.{P, L}
use Rattle.calculus.specs.Rules.{name_of, guarded}
use Rattle.calculus.specs.Layout.{base, shift, owner, sets, content, WellFormed}
use Rattle.calculus.specs.Estimate.{estimate, permissions_at}
use Rattle.calculus.proofs.Masks.{bool-ext}
use Rattle.calculus.proofs.Slices.{bit_word}
use Rattle.calculus.proofs.Rows.{content-complete, content-sound}
use Rattle.calculus.proofs.Least.{estimate-well}
use Rattle.renaming.specs.Renaming.{rename_row}
use Rattle.renaming.proofs.Nodes.{renamed-alike}
use Rattle.renaming.proofs.Elements.{el-plain}
use Rattle.block_order.specs.Lines.{Report, report_of}
use Rattle.block_order.proofs.Renumbering.{perm-map}
use Rattle.block_order.proofs.Sets.{Both, sets_same}

-- the permissions of a block as a number have the members of its row P
module _ (c : Code) (ρ : ℕ) (ws : List ℕ) (w : WellFormed c ws) (b : ℕ) (h : b < c.size) where
  permissions-small : permissions_at c ρ ws b < 2 ^ width
  unfolding permissions_at content
  permissions-small = mod-lt (get_or ws (base c (P b)) 0) (pow_pos width)

  permissions-members : (x : ℕ) → x < width → member (permissions_at c ρ ws b) x ≡ sets c ws (P b) x
  unfolding permissions_at content shift owner
  permissions-members x l =
      let s = get_or ws (base c (P b)) 0 % 2 ^ width in
      bool-ext (member s x) (sets c ws (P b) x)
      (λ t. content-sound c ws w (P b) x h (subst T (sym (bit_word s x (omega arith))) t))
      (λ t. subst T (bit_word s x (omega arith)) (content-complete c ws w (P b) x refl t))

module _ (π σ : ℕ → ℕ) (c d : Code) (b : Both π σ c d) (ρ : ℕ) where
  permissions-same : (p : ℕ) → p < c.size → permissions_at d ρ (estimate d ρ) (π p) ≡ permissions_at c ρ (estimate c ρ) p
  unfolding rename_row
  permissions-same p h =
      let u = estimate-well c b.first ρ in
      let v = estimate-well d b.second ρ in
      let i = b.to.inside p h in
      same-below width _ _ (permissions-small d ρ (estimate d ρ) v (π p) i) (permissions-small c ρ (estimate c ρ) u p h)
      (λ x l. permissions-members d ρ (estimate d ρ) v (π p) i x l
      ∙ ap (sets d (estimate d ρ) (P (π p))) (sym (el-plain π c d x (omega arith)))
      ∙ sets_same π σ c d b ρ (P p) x
      ∙ sym (permissions-members c ρ (estimate c ρ) u p h x l))

  live_same : (p : ℕ) → sets d (estimate d ρ) (L (π p)) 0 ≡ sets c (estimate c ρ) (L p) 0
  unfolding rename_row
  live_same p = ap (sets d (estimate d ρ) (L (π p))) (sym (el-plain π c d 0 (omega arith))) ∙ sets_same π σ c d b ρ (L p) 0

  report-same : (p : ℕ) → p < c.size → report_of d ρ (estimate d ρ) (π p) ≡ report_of c ρ (estimate c ρ) p
  unfolding report_of
  report-same p h =
      let a = renamed-alike π (c.node p) in
      let n : name_of (d.node (π p)) ≡ name_of (c.node p) = ap name_of (b.to.node p) ∙ a.names in
      let g : guarded (d.node (π p)) ρ ≡ guarded (c.node p) ρ = ap (λ (x : Node). guarded x ρ) (b.to.node p) ∙ a.guards ρ in
      let l = live_same p in
      let s = permissions-same p h in
      rw (n, g, l, s) refl

  all_same : (ps : List ℕ) → ((p : ℕ) → Memᴰ p ps → p < c.size)
      → map (report_of d ρ (estimate d ρ)) (map π ps) ≡ map (report_of c ρ (estimate c ρ)) ps
  all_same [] h = refl
  all_same (p ∷ ps) h =
      ap₂ (λ (r : Report) (rs : List Report). r ∷ rs) (report-same p (h p (Memᴰ.head refl))) (all_same ps (λ q m. h q (Memᴰ.tail m)))

  -- where the blocks of the one, renamed, are those of the other in another order
  pub reports-same : Permᴰ (map π c.blocks) d.blocks
      → Permᴰ (map (report_of c ρ (estimate c ρ)) c.blocks) (map (report_of d ρ (estimate d ρ)) d.blocks)
  reports-same o =
      subst (λ (rs : List Report). Permᴰ rs (map (report_of d ρ (estimate d ρ)) d.blocks))
      (all_same c.blocks (λ p m. (b.first.listed p m).0)) (perm-map (report_of d ρ (estimate d ρ)) o)
