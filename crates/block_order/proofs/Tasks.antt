-- The words of a block meet the same tasks wherever the block stands, once places are renumbered.
use Prim.Native.Nat.{ℕ, zero, suc, ◌+◌, ◌<◌}
use mathlib.Core.Path.{◌≡◌, refl, sym, ap, ap₂, ◌∙◌}
use mathlib.Core.Bool.{Bool, true, false}
use mathlib.Core.List.{List, [], ◌∷◌, ◌++◌, map, map-append}
use native.Mathlib.Nat.{add-zero, zero-add}
use native.Mathlib.Omega.{arith}
use lib.ListN.{length, replicate, length-map}
use Rattle.table.specs.Words.{argument, parts}
use Rattle.table.specs.Scan.{Task, head, name, perms, guard, term, under, next, accepted, keep, scan}
use Rattle.table.specs.Code.{trace, scope_for, home_for}
use Rattle.table.proofs.Stack.{scan_step, scan-more, refused-not-accepted}
use Rattle.blocks.specs.Blocks.{Good}

unfoldable pub rename_task : (ℕ → ℕ) → Task → Task
rename_task π (head n) = head n
rename_task π name = name
rename_task π (perms n) = perms n
rename_task π guard = guard
rename_task π (term d h s) = term d (π h) (map π s)

module _ (π : ℕ → ℕ) where
  names-renamed : (n : ℕ) → map (rename_task π) (replicate n name) ≡ replicate n name
  unfolding rename_task
  names-renamed zero = refl
  names-renamed (suc n) = ap (λ (ts : List Task). name ∷ ts) (names-renamed n)

  under-renamed : (b : Bool) (at : ℕ) (s : List ℕ) → map π (under b at s) ≡ under b (π at) (map π s)
  unfolding under
  under-renamed true at s = refl
  under-renamed false at s = refl

  parts-renamed : (d h at : ℕ) (s : List ℕ) (bs : List Bool)
      → map (rename_task π) (map (λ b. term d h (under b at s)) bs) ≡ map (λ b. term d (π h) (under b (π at) (map π s))) bs
  unfolding rename_task
  parts-renamed d h at s [] = refl
  parts-renamed d h at s (b ∷ bs) =
      ap₂ (λ (t : Task) (ts : List Task). t ∷ ts) (ap (term d (π h)) (under-renamed b at s)) (parts-renamed d h at s bs)

  next-renamed : (at w : ℕ) (t : Task) → map (rename_task π) (next at w t) ≡ next (π at) w (rename_task π t)
  unfolding next rename_task
  next-renamed at w (head n) = names-renamed (argument w)
  next-renamed at w name = refl
  next-renamed at w (perms n) = refl
  next-renamed at w guard = refl
  next-renamed at w (term d h s) = parts-renamed (suc d) h at s (parts w)

  pub trace-renamed : (ws : List ℕ) (at to : ℕ) (ts : List Task) → ((j : ℕ) → j < length ws → π (at + j) ≡ to + j)
      → map (rename_task π) (trace ws at ts) ≡ trace ws to (map (rename_task π) ts)
  unfolding trace
  trace-renamed [] at to ts m = refl
  trace-renamed (w ∷ ws) at to [] m = refl
  trace-renamed (w ∷ ws) at to (t ∷ ts) m =
      let here : π at ≡ to = ap π (sym (add-zero at)) ∙ m 0 (omega arith) ∙ add-zero to in
      ap (λ (us : List Task). rename_task π t ∷ us)
      (trace-renamed ws (suc at) (suc to) (next at w t ++ ts)
      (λ j l. ap π (let e : suc at + j ≡ at + suc j = omega arith in e) ∙ m (suc j) (omega arith) ∙ (let e : to + suc j ≡ suc to + j = omega arith in e))
      ∙ ap (trace ws (suc to))
      (map-append (rename_task π) (next at w t) ts
      ∙ ap (λ (us : List Task). us ++ map (rename_task π) ts) (next-renamed at w t ∙ ap (λ (n : ℕ). next n w (rename_task π t)) here)))

  pub home-renamed : (t : Task) (p : ℕ) → home_for (rename_task π t) (π p) ≡ π (home_for t p)
  unfolding rename_task home_for
  home-renamed (head n) p = refl
  home-renamed name p = refl
  home-renamed (perms n) p = refl
  home-renamed guard p = refl
  home-renamed (term d h s) p = refl

  pub scope-renamed : (t : Task) → scope_for (rename_task π t) ≡ map π (scope_for t)
  unfolding rename_task scope_for
  scope-renamed (head n) = refl
  scope-renamed name = refl
  scope-renamed (perms n) = refl
  scope-renamed guard = refl
  scope-renamed (term d h s) = refl

-- ---- as many tasks as words

scanned-long : (names : ℕ) (ws keys : List ℕ) (at : ℕ) (ts : List Task) → scan names ws keys at ts ≡ accepted → length (trace ws at ts) ≡ length ws
unfolding trace
scanned-long names [] keys at ts e = refl
scanned-long names (w ∷ ws) keys at [] e = absurd (refused-not-accepted (sym (scan-more names w ws keys at) ∙ e))
scanned-long names (w ∷ ws) keys at (t ∷ ts) e =
    ap suc (scanned-long names ws (keep keys w t) (suc at) (next at w t ++ ts) (scan_step names ws keys w at t ts e).1)

pub good-long : (names : ℕ) (b : List ℕ) → Good names b → (at : ℕ) → length (trace b at (name ∷ [])) ≡ length b
unfolding Good rename_task
good-long names b g at =
    let π : ℕ → ℕ = λ x. at + x in
    ap length (sym (trace-renamed π b 0 at (name ∷ []) (λ j l. ap π (zero-add j))))
    ∙ length-map (trace b 0 (name ∷ [])) (rename_task π)
    ∙ scanned-long names b [] 0 (name ∷ []) g
