-- What an element is, its renamed element is: a string, a record, a thing that may be sent.
use Prim.Native.Nat.{ℕ, ◌-◌, ◌≤◌, ◌<◌}
use mathlib.Core.Path.{◌≡◌, refl, sym, ap, ◌∙◌}
use mathlib.Core.Bool.{Bool, true, false, not, ◌||◌}
use mathlib.Core.Logic.{◌⊎◌, inl, inr}
use native.Mathlib.Omega.{arith}
use borrow.Author.Tests.{lt-ltb, le-ltb, lt-leb, le-leb, ne_eqb}
use lib.Dec.{T, ltb, ltb→lt, nltb→le}
use Rattle.table.specs.declared.Operation.{Operation}
use Rattle.table.specs.declared.Operation.TheVariants as operations
use Rattle.table.specs.Code.{Code}
use Rattle.calculus.specs.Elements.{plain, made, elements, is_string, Making, is_function, is_record, is_cell, makes, making, sendable, any_record}
use Rattle.calculus.specs.Elements.{comparable, equal_results, results}
use Rattle.renaming.specs.Renaming.{Renamed, rename_element}
use Rattle.renaming.proofs.Nodes.{renamed-alike}

-- below "all 64", or what a word makes
pub element : (d : Code) (v : ℕ) → (v < plain d) ⊎ ((i : ℕ) × (v ≡ made d i))
element d v = go (ltb v (plain d)) (ltb→lt v (plain d)) (nltb→le v (plain d))
  where
    go : (b : Bool) → (T b → v < plain d) → (T (not b) → plain d ≤ v) → (v < plain d) ⊎ ((i : ℕ) × (v ≡ made d i))
    go true f g = inl (f tt)
    go false f g = inr (v - plain d, let l = g tt in omega arith)

module _ (σ : ℕ → ℕ) (d c : Code) where
  abbrev el : ℕ → ℕ
  el v = rename_element σ d c v

  pub el-plain : (v : ℕ) → v < plain d → rename_element σ d c v ≡ v
  unfolding rename_element
  el-plain v h = let b = lt-ltb v (plain d) h in rw (b, rename_element) refl

  pub el-made : (i : ℕ) → rename_element σ d c (made d i) ≡ made c (σ i)
  unfolding rename_element
  el-made i =
      let b = le-ltb (made d i) (plain d) (omega arith) in
      rw (b, rename_element) (ap (λ (x : ℕ). made c (σ x)) (let e : made d i - plain d ≡ i = omega arith in e))

  module _ (m : Renamed σ d c) where
    pub makes-of : (i : ℕ) → makes (c.node (σ i)) ≡ makes (d.node i)
    makes-of i = ap makes (m.node i) ∙ (renamed-alike σ (d.node i)).makings

    making-of : (i : ℕ) → making c (made c (σ i)) ≡ making d (made d i)
    unfolding making
    making-of i =
        let a : made d i - plain d ≡ i = omega arith in
        let b : made c (σ i) - plain c ≡ σ i = omega arith in
        ap (λ (x : ℕ). makes (c.node x)) b ∙ makes-of i ∙ ap (λ (x : ℕ). makes (d.node x)) (sym a)

    pub el-lt : (v : ℕ) → v < elements d → rename_element σ d c v < elements c
    el-lt v h = go (element d v)
      where
        go : (v < plain d) ⊎ ((i : ℕ) × (v ≡ made d i)) → rename_element σ d c v < elements c
        go (inl l) = let e = el-plain v l in let n = m.names in omega arith
        go (inr (i, e)) = let f : el v ≡ made c (σ i) = ap el e ∙ el-made i in let n = m.inside i (omega arith) in omega arith

    pub el-sendable : (v : ℕ) → sendable c (rename_element σ d c v) ≡ sendable d v
    unfolding sendable
    el-sendable v = go (element d v)
      where
        go : (v < plain d) ⊎ ((i : ℕ) × (v ≡ made d i)) → sendable c (el v) ≡ sendable d v
        go (inl l) =
            let a = lt-ltb v (plain d) l in
            let b = lt-ltb v (plain c) (let n = m.names in omega arith) in
            rw (el-plain v l, a, b) refl
        go (inr (i, e)) =
            let f : el v ≡ made c (σ i) = ap el e ∙ el-made i in
            let a = le-ltb (made d i) (plain d) (omega arith) in
            let b = le-ltb (made c (σ i)) (plain c) (omega arith) in
            rw (f, e, a, b) (ap (λ (x : Making). not (is_function x || is_cell x)) (making-of i))

    pub el-record : (v : ℕ) → any_record c (rename_element σ d c v) ≡ any_record d v
    unfolding any_record
    el-record v = go (element d v)
      where
        go : (v < plain d) ⊎ ((i : ℕ) × (v ≡ made d i)) → any_record c (el v) ≡ any_record d v
        go (inl l) =
            let a = lt-leb (plain d) v l in
            let b = lt-leb (plain c) v (let n = m.names in omega arith) in
            rw (el-plain v l, a, b) refl
        go (inr (i, e)) =
            let f : el v ≡ made c (σ i) = ap el e ∙ el-made i in
            let a = le-leb (plain d) (made d i) (omega arith) in
            let b = le-leb (plain c) (made c (σ i)) (omega arith) in
            let x = ne_eqb (made d i) 7 (λ g. omega arith) in
            let y = ne_eqb (made c (σ i)) 7 (λ g. omega arith) in
            rw (f, e, a, b, x, y) (ap is_record (making-of i))

    pub el-string : (v : ℕ) → is_string (rename_element σ d c v) ≡ is_string v
    unfolding is_string
    el-string v = go (element d v)
      where
        go : (v < plain d) ⊎ ((i : ℕ) × (v ≡ made d i)) → is_string (el v) ≡ is_string v
        go (inl l) = rw (el-plain v l) refl
        go (inr (i, e)) =
            let f : el v ≡ made c (σ i) = ap el e ∙ el-made i in
            let a = le-ltb (made d i) 32 (omega arith) in
            let b = le-ltb (made c (σ i)) 32 (omega arith) in
            let x = le-leb 8 (made d i) (omega arith) in
            let y = le-leb 8 (made c (σ i)) (omega arith) in
            rw (f, e, a, b, x, y) refl

    comparable-of : (x : ℕ) → x < plain d → comparable c x ≡ comparable d x
    unfolding comparable
    comparable-of x h =
        let a = lt-ltb x (plain d) h in
        let b = lt-ltb x (plain c) (let n = m.names in omega arith) in
        rw (a, b) refl

    -- operations read plain elements alone
    pub results-of : (o : Operation) (x y : ℕ) → x < plain d → y < plain d → results c o x y ≡ results d o x y
    unfolding results equal_results
    results-of operations.Add x y h l = refl
    results-of operations.Less x y h l = refl
    results-of operations.Equal x y h l = rw (comparable-of x h, comparable-of y l, equal_results) refl
