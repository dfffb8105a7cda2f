-- Sets that obey the rules of c, read along a renaming of words, obey those of d.
use Prim.Native.Nat.{ℕ, zero, suc, ◌+◌, ◌<◌}
use mathlib.Core.Path.{◌≡◌, refl, sym, ap, ap₂, ◌∙◌, subst}
use mathlib.Core.List.{List, [], ◌∷◌, map, Memᴰ}
use native.Mathlib.Omega.{arith}
use lib.Dec.{T}
use lib.ListN.{length, get_or}
use Rattle.permset.specs.Sets.{width, member, within}
use Rattle.delivery.specs.Delivery.{delivered}
use Rattle.table.specs.Code.{Code, Node, Leaf, One, Two, gap, block, leaf, one, two, bind, while, branch, update, Linked, LeafLinked, NodeLinked}
use Rattle.table.specs.Code.{constant, number, literal, named, variable, function, empty, exercise, cell, read}
use Rattle.table.specs.Code.{apply, sequence, get, delete, assign, operation, send}
use Rattle.calculus.specs.Elements.{constant_element, literal_element, name_element, undefined, unit, truth, falsehood, opponent_record}
use Rattle.calculus.specs.Elements.{plain, made, sign, is_string, is_function, is_record, is_cell, makes, leaf_makes, one_makes, sendable, any_record, results}
use Rattle.calculus.specs.Constraint.{C, B, P, L, Sets, Rule, put, sub, only, each, every, given, ◌and◌}
use Rattle.calculus.specs.Rules.{name_of, perms_of, guarded, is_block, permissions, delivery_to, live, pass, delivering, part}
use Rattle.calculus.specs.Rules.{leaf_rule, one_rule, two_rule, flow, entry, two_sender, sender, senders, rule, Estimate}
use Rattle.calculus.proofs.Fitting.{constant-lt, sign-lt, results-lt}
use Rattle.calculus.proofs.Makers.{is_block_lem}
use Rattle.renaming.specs.Renaming.{Renamed, rename_node, rename_row, carried}
use Rattle.renaming.proofs.Nodes.{renamed-alike}
use Rattle.renaming.proofs.Elements.{el-sendable, el-record, el-string, results-of}
use Rattle.renaming.proofs.Shapes.{Carries, nothing, puts_plain, puts-made, subs, givens-plain, somes, onlys, both, eachs, each_below}
use Rattle.renaming.proofs.Shapes.{fills, passes, mades, parts}

get_d_map : (σ : ℕ → ℕ) (xs : List ℕ) (n : ℕ) → n < length xs → get_or (map σ xs) n 0 ≡ σ (get_or xs n 0)
get_d_map σ [] n h = absurd (omega arith)
get_d_map σ (x ∷ xs) zero h = refl
get_d_map σ (x ∷ xs) (suc n) h = get_d_map σ xs n (omega arith)

-- a block has one of the names
name-lt : (d : Code) (b : ℕ) (n : Node) → NodeLinked d b n → T (is_block n) → name_of n < d.names
unfolding name_of is_block
name-lt d b gap i t = absurd t
name-lt d b (block n s g) i t = i.0
name-lt d b (leaf x) i t = absurd t
name-lt d b (one o a) i t = absurd t
name-lt d b (two o a x) i t = absurd t
name-lt d b (bind a x) i t = absurd t
name-lt d b (while a x) i t = absurd t
name-lt d b (branch a x y) i t = absurd t
name-lt d b (update a x y) i t = absurd t

module _ (σ : ℕ → ℕ) (d c : Code) (m : Renamed σ d c) (k : Linked d) (e : Sets) where
  abbrev By : Rule → Rule → Type 0
  By j l = Carries σ d c e j l

  -- a function's body is renamed with it
  body_of : (f : ℕ) → T (is_function (makes (d.node f))) → σ (suc f) ≡ suc (σ f)
  unfolding makes is_function leaf_makes one_makes
  body_of f t = go (d.node f) refl t
    where
      leafs : (x : Leaf) → d.node f ≡ leaf x → T (is_function (makes (leaf x))) → σ (suc f) ≡ suc (σ f)
      leafs (constant j) h u = absurd u
      leafs (number j) h u = absurd u
      leafs (literal j) h u = absurd u
      leafs (named j) h u = absurd u
      leafs (variable j) h u = absurd u
      leafs function h u = m.bodies f h
      leafs empty h u = absurd u
      leafs (exercise j) h u = absurd u

      ones : (o : One) (a : ℕ) → T (is_function (makes (one o a))) → ⊥
      ones cell a u = u
      ones read a u = u

      go : (n : Node) → d.node f ≡ n → T (is_function (makes n)) → σ (suc f) ≡ suc (σ f)
      go gap h u = absurd u
      go (block n s g) h u = absurd u
      go (leaf x) h u = leafs x h u
      go (one o a) h u = absurd (ones o a u)
      go (two t a b) h u = absurd u
      go (bind a b) h u = absurd u
      go (while a b) h u = absurd u
      go (branch a b x) h u = absurd u
      go (update a b x) h u = absurd u

  module _ (p : ℕ) (l : p < d.size) where
    perms-of : permissions c (σ p) ≡ permissions d p
    unfolding permissions
    perms-of =
        ap (λ (x : ℕ). perms_of (c.node x)) (m.home p l) ∙ ap perms_of (m.node (d.home p)) ∙ (renamed-alike σ (d.node (d.home p))).perms

    -- a send at p to the block h
    deliverings : (r a h : ℕ) {j i : Rule} → h < d.size → T (is_block (d.node h)) → By j i
        → By (delivering c (σ p) r (σ a) (σ h) j) (delivering d p r a h i)
    unfolding rename_row
    deliverings r a h {j} {i} n t f =
        let s = renamed-alike σ (d.node h) in
        let named : name_of (c.node (σ h)) ≡ name_of (d.node h) = ap name_of (m.node h) ∙ s.names in
        let same : delivery_to (name_of (c.node (σ h))) r (permissions c (σ p)) (c.node (σ h)) ≡ delivery_to (name_of (d.node h)) r (permissions d p) (d.node h) =
        ap₂ (λ (x y : ℕ). delivery_to x r y (c.node (σ h))) named perms-of
        ∙ ap (delivery_to (name_of (d.node h)) r (permissions d p)) (m.node h)
        ∙ s.deliveries (name_of (d.node h)) r (permissions d p) in
        onlys _ _ (ap delivered same)
        (λ u. subst (λ (x : ℕ). By (given (C (σ a)) (name_element x) j) (given (C a) (name_element (name_of (d.node h))) i)) (sym named)
        (givens-plain (C a) (name_element (name_of (d.node h))) (let g = name-lt d h (d.node h) (k.nodes h n) t in omega arith) f))

    leaf-carried : (x : Leaf) → LeafLinked d p x → By (leaf_rule c (σ p) x) (leaf_rule d p x)
    unfolding leaf_rule rename_row
    leaf-carried (constant j) i = puts_plain (C p) (constant_element j) (omega (arith, constant-lt j))
    leaf-carried (number n) i = puts_plain (C p) (sign n) (omega (arith, sign-lt n))
    leaf-carried (literal n) i = puts_plain (C p) (literal_element n) (omega arith)
    leaf-carried (named n) i = puts_plain (C p) (name_element n) (omega arith)
    leaf-carried (variable n) i =
        subst (λ (x : ℕ). By (sub (B x) (C (σ p))) (sub (B (get_or (d.scope p) n 0)) (C p)))
        (sym (ap (λ (xs : List ℕ). get_or xs n 0) (m.scope p l) ∙ get_d_map σ (d.scope p) n i))
        (subs (B (get_or (d.scope p) n 0)) (C p))
    leaf-carried function i = puts-made (C p) p
    leaf-carried empty i = puts-made (C p) p
    leaf-carried (exercise r) i =
        onlys (within r (permissions c (σ p))) (within r (permissions d p)) (ap (within r) perms-of)
        (λ t. both
        (each_below width width (λ x. only (member r x) (put (P (σ p)) x)) (λ x. only (member r x) (put (P p) x)) (λ x. x)
        (λ x n. (n, onlys (member r x) (member r x) refl (λ t. puts_plain (P p) x (omega arith)))))
        (puts_plain (C p) unit (omega arith)))

    one-carried : (o : One) (a : ℕ) → By (one_rule c (σ p) o (σ a)) (one_rule d p o a)
    unfolding one_rule rename_row
    one-carried cell a = both (puts-made (C p) p) (subs (C a) (B p))
    one-carried read a = mades m is_cell (C a) (λ q. sub (B q) (C (σ p))) (λ q. sub (B q) (C p)) (λ q t. subs (B q) (C p))

    two-carried : (t : Two) (a b : ℕ) → By (two_rule c (σ p) t (σ a) (σ b)) (two_rule d p t a b)
    unfolding two_rule rename_row
    two-carried apply a b =
        mades m is_function (C a) _ _
        (λ f t. subst (λ (s : ℕ). By (live s and sub (C (σ b)) (B (σ f)) and sub (C s) (C (σ p)) and sub (P s) (P (σ p)))
        (live (suc f) and sub (C b) (B f) and sub (C (suc f)) (C p) and sub (P (suc f)) (P p))) (body_of f t)
        (both (puts_plain (L (suc f)) 0 (omega arith))
        (both (subs (C b) (B f))
        (both (subs (C (suc f)) (C p)) (subs (P (suc f)) (P p))))))
    two-carried sequence a b = subs (C b) (C p)
    two-carried get a b =
        somes (C b) is_string is_string (el-string σ d c m)
        (both
        (mades m is_record (C a) _ _ (λ q t. both (subs (B q) (C p)) (puts_plain (C p) undefined (omega arith))))
        (givens-plain (C a) opponent_record (omega arith) (fills m (C p))))
    two-carried delete a b =
        somes (C b) is_string is_string (el-string σ d c m) (passes m (C a) (C p) (any_record c) (any_record d) (el-record σ d c m))
    two-carried assign a b = mades m is_cell (C a) _ _ (λ q t. both (subs (C b) (C p)) (subs (C b) (B q)))
    two-carried (operation o) a b =
        each_below (plain c) (plain d) _ _ (λ x. x) (λ x n. (low x n, givens-plain (C a) x n (seconds x n)))
      where
        low : (x : ℕ) → x < plain d → x < plain c
        low x n = let s = m.names in omega arith

        given_back : (x y : ℕ) → x < plain d → y < plain d
            → By (each (results c o x y) (λ z. put (C (σ p)) z)) (each (results d o x y) (λ z. put (C p) z))
        given_back x y i j =
            eachs (results c o x y) (results d o x y) _ _ (λ z. z)
            (λ z w. (
              subst (λ (zs : List ℕ). Memᴰ z zs) (sym (results-of σ d c m o x y i j)) w,
              puts_plain (C p) z (omega (arith, results-lt d o x y z w)),
            ))

        seconds : (x : ℕ) → x < plain d
            → By (every (plain c) (λ y. given (C (σ b)) y (each (results c o x y) (λ z. put (C (σ p)) z))))
            (every (plain d) (λ y. given (C b) y (each (results d o x y) (λ z. put (C p) z))))
        seconds x i =
            each_below (plain c) (plain d) _ _ (λ y. y) (λ y n. (low y n, givens-plain (C b) y n (given_back x y i n)))
    two-carried (send r) a b =
        both (puts_plain (C p) unit (omega arith))
        (somes (C b) (sendable c) (sendable d) (el-sendable σ d c m)
        (eachs c.blocks d.blocks _ _ σ
        (λ h w. (m.blocks h w, sent h w))))
      where
        sent : (h : ℕ) → Memᴰ h d.blocks
            → By (delivering c (σ p) r (σ a) (σ h) (live (σ h) and pass c (C (σ b)) (sendable c) (B (σ h)) and sub (P (σ h)) (P (σ p))))
            (delivering d p r a h (live h and pass d (C b) (sendable d) (B h) and sub (P h) (P p)))
        sent h w =
            let i = k.listed h w in
            deliverings r a h i.0 (is_block_lem (d.node h) i.1)
            (both (puts_plain (L h) 0 (omega arith))
            (both (passes m (C b) (B h) (sendable c) (sendable d) (el-sendable σ d c m)) (subs (P h) (P p))))

    flow-carried : (n : Node) → NodeLinked d p n → d.node p ≡ n → By (flow c (σ p) (rename_node σ n)) (flow d p n)
    unfolding flow rename_node rename_row
    flow-carried gap i h = nothing
    flow-carried (block n s g) i h =
        subst (λ (x : ℕ). By (part (σ p) x) (part p (p + 3))) (m.starts p n s g h) (parts p (p + 3))
    flow-carried (leaf x) i h = leaf-carried x i
    flow-carried (one o a) i h = both (parts p a) (one-carried o a)
    flow-carried (two t a b) i h = both (parts p a) (both (parts p b) (two-carried t a b))
    flow-carried (bind a b) i h =
        both (parts p a)
        (both (parts p b) (both (subs (C a) (B p)) (subs (C b) (C p))))
    flow-carried (while a b) i h =
        both (parts p a)
        (both (subs (P b) (P p))
        (both (givens-plain (C a) truth (omega arith) (puts_plain (L b) 0 (omega arith)))
        (givens-plain (C a) falsehood (omega arith) (puts_plain (C p) undefined (omega arith)))))
    flow-carried (branch a b x) i h =
        both (parts p a)
        (both (subs (P b) (P p))
        (both (subs (P x) (P p))
        (both (givens-plain (C a) truth (omega arith) (puts_plain (L b) 0 (omega arith)))
        (both (givens-plain (C a) falsehood (omega arith) (puts_plain (L x) 0 (omega arith)))
        (both (subs (C b) (C p)) (subs (C x) (C p)))))))
    flow-carried (update a b x) i h =
        both (parts p a)
        (both (parts p b)
        (both (parts p x)
        (somes (C b) is_string is_string (el-string σ d c m)
        (both
        (somes (C a) (any_record c) (any_record d) (el-record σ d c m) (both (puts-made (C p) p) (subs (C x) (B p))))
        (both (mades m is_record (C a) _ _ (λ q t. subs (B q) (B p)))
        (givens-plain (C a) opponent_record (omega arith) (fills m (B p))))))))

    entry-carried : (ρ : ℕ) → By (entry c ρ (σ p)) (entry d ρ p)
    unfolding entry rename_row
    entry-carried ρ =
        onlys (guarded (c.node (σ p)) ρ) (guarded (d.node p) ρ)
        (ap (λ (n : Node). guarded n ρ) (m.node p) ∙ (renamed-alike σ (d.node p)).guards ρ)
        (λ t. both (puts_plain (L p) 0 (omega arith))
        (both (fills m (B p)) (puts_plain (C p) opponent_record (omega arith))))

  -- what the send at p asks of the block b
  module _ (b : ℕ) (h : b < d.size) (t : T (is_block (d.node b))) (p : ℕ) (l : p < d.size) where
    two-sender : (o : Two) (a x : ℕ) → By (two_sender c (σ b) (σ p) o (σ a) (σ x)) (two_sender d b p o a x)
    unfolding two_sender rename_row
    two-sender apply a x = nothing
    two-sender sequence a x = nothing
    two-sender get a x = nothing
    two-sender delete a x = nothing
    two-sender assign a x = nothing
    two-sender (operation o) a x = nothing
    two-sender (send r) a x =
        givens-plain (L p) 0 (omega arith)
        (somes (C x) (sendable c) (sendable d) (el-sendable σ d c m)
        (deliverings p l r a b h t
        (subst (λ (y : ℕ). By (put (C (σ b)) (made c y)) (put (C b) (made d (d.home p)))) (sym (m.home p l)) (puts-made (C b) (d.home p)))))

    sender-carried : (n : Node) → By (sender c (σ b) (σ p) (rename_node σ n)) (sender d b p n)
    unfolding sender rename_node
    sender-carried gap = nothing
    sender-carried (block n s g) = nothing
    sender-carried (leaf x) = nothing
    sender-carried (one o a) = nothing
    sender-carried (two o a x) = two-sender o a x
    sender-carried (bind a x) = nothing
    sender-carried (while a x) = nothing
    sender-carried (branch a x y) = nothing
    sender-carried (update a x y) = nothing

  senders-carried : (b : ℕ) → b < d.size → By (senders c (σ b)) (senders d b)
  unfolding senders
  senders-carried b h =
      onlys (is_block (c.node (σ b))) (is_block (d.node b)) (ap is_block (m.node b) ∙ (renamed-alike σ (d.node b)).heads)
      (λ t. each_below c.size d.size (λ p. sender c (σ b) p (c.node p)) (λ p. sender d b p (d.node p)) σ
      (λ p l. (
        m.inside p l,
        subst (λ (n : Node). By (sender c (σ b) (σ p) n) (sender d b p (d.node p))) (sym (m.node p)) (sender-carried b h t p l (d.node p)),
      )))

  rule-carried : (ρ p : ℕ) → p < d.size → By (rule c ρ (σ p)) (rule d ρ p)
  unfolding rule rename_row
  rule-carried ρ p l =
      both (both (entry-carried p l ρ) (senders-carried p l))
      (givens-plain (L p) 0 (omega arith)
      (subst (λ (n : Node). By (flow c (σ p) n) (flow d p (d.node p))) (sym (m.node p)) (flow-carried p l (d.node p) (k.nodes p l) refl)))

  pub carried-obeys : (ρ : ℕ) → Estimate c ρ e → Estimate d ρ (carried σ d c e)
  carried-obeys ρ o p l = (rule-carried ρ p l).go (o (σ p) (m.inside p l))
