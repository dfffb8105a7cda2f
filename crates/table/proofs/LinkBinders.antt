-- The links of terms that wait: each has its innermost binder, and a word that binds its parts keeps that so.
use mathlib.Core.Path.{◌≡◌, refl, sym, ap, ◌∙◌, subst}
use mathlib.Core.List.{List, [], ◌∷◌, ◌++◌, map}
use mathlib.Core.Bool.{Bool, true, false}
use Prim.Native.Nat.{ℕ, suc, ◌^◌, ◌≤◌, ◌<◌}
use native.Mathlib.Nat.{le_refl, lt_of_lt_of_le}
use native.Mathlib.Decide.{ℕ_discrete}
use native.Mathlib.Omega.{arith}
use lib.ListN.{length, get_or, drop, length-drop}
use lib.Seq.{drop-cons}
use Rattle.table.specs.declared.Link.{Link}
use Rattle.table.specs.Words.{parts, arity}
use Rattle.table.specs.Scan.{Task, head, name, perms, guard, term, accepted, under, reading}
use Rattle.table.specs.Code.{part, end_of, task_at}
use Rattle.table.specs.Links.{link_at, innermost, with_binder, bind_parts}
use Rattle.table.proofs.Stack.{Names}
use Rattle.table.proofs.Parts.{part_task, part-suc, part-inside, end_after}
use Rattle.table.proofs.LinkReads.{link-other, binder-other, binder-same, length-binder}
use Rattle.table.proofs.LinkEnds.{Ended}

-- ---- binders along the stack

module _ (ws : List ℕ) where
  -- each term that waits from the place p on has its innermost binder
  abbrev pub Laid : List ℕ → ℕ → List Task → Type 0
  Laid l p [] = Unit {0}
  Laid l p (head n ∷ ts) = Unit {0}
  Laid l p (name ∷ ts) = Unit {0}
  Laid l p (perms n ∷ ts) = Laid l (suc p) ts
  Laid l p (guard ∷ ts) = Laid l (suc p) ts
  Laid l p (term d h s ∷ ts) = ((link_at l p).binder ≡ get_or s 0 0) × Laid l (end_of ws p) ts

  -- a list that agrees from p on
  pub laid-agree : (l l' : List ℕ) (p : ℕ) (ts : List Task) → ((q : ℕ) → p ≤ q → get_or l' q 0 ≡ get_or l q 0) → Laid l p ts → Laid l' p ts
  laid-agree l l' p [] a h = tt
  laid-agree l l' p (head n ∷ ts) a h = tt
  laid-agree l l' p (name ∷ ts) a h = tt
  laid-agree l l' p (perms n ∷ ts) a h = laid-agree l l' (suc p) ts (λ q i. a q (omega arith)) h
  laid-agree l l' p (guard ∷ ts) a h = laid-agree l l' (suc p) ts (λ q i. a q (omega arith)) h
  laid-agree l l' p (term d k s ∷ ts) a h = (
    ap (λ (x : Link). x.binder) (link-other l l' p (a p (le_refl p))) ∙ h.0,
    laid-agree l l' (end_of ws p) ts (λ q i. a q (omega (arith, end_after ws p))) h.1,
  )

  pub laid-names : (l : List ℕ) (p : ℕ) (ts : List Task) → Names ts → Laid l p ts
  laid-names l p [] h = tt
  laid-names l p (name ∷ ts) h = tt
  laid-names l p (head size ∷ ts) h = elim h [ ]
  laid-names l p (perms _ ∷ ts) h = elim h [ ]
  laid-names l p (guard ∷ ts) h = elim h [ ]
  laid-names l p (term depth home scope ∷ ts) h = elim h [ ]

  -- ---- the parts of a term

  -- terms from the place q on, one behind the other, end at r
  abbrev pub Spans : ℕ → List Bool → ℕ → Type 0
  Spans q [] r = q ≡ r
  Spans q (m ∷ ms) r = (q < length ws) × Spans (end_of ws q) ms r

  spans-le : (q : ℕ) (ms : List Bool) (r : ℕ) → Spans q ms r → q ≤ r
  spans-le q [] r h = omega arith
  spans-le q (m ∷ ms) r h = let z = spans-le (end_of ws q) ms r h.1 in omega (arith, end_after ws q)

  -- only binders differ
  pub record Same (l l' : List ℕ) : Type 0 where
    pub long : length l' ≡ length l
    pub ends : (q : ℕ) → (link_at l' q).end ≡ (link_at l q).end
    pub homes : (q : ℕ) → (link_at l' q).home ≡ (link_at l q).home

  pub same_refl : (l : List ℕ) → Same l l
  same_refl l = record { long = refl; ends = λ q. refl; homes = λ q. refl }

  same-trans : (l m n : List ℕ) → Same l m → Same m n → Same l n
  same-trans l m n a b =
      record { long = b.long ∙ a.long; ends = λ q. b.ends q ∙ a.ends q; homes = λ q. b.homes q ∙ a.homes q }

  pub same-binder : (l : List ℕ) (p b : ℕ) → p < length l → b < 2 ^ 10 → Same l (with_binder l p b)
  same-binder l p b h k =
      record {
        long = length-binder l p b;
        ends = λ q. go (λ x. x.end) refl q (ℕ_discrete q p);
        homes = λ q. go (λ x. x.home) refl q (ℕ_discrete q p);
      }
    where
      go : (f : Link → ℕ) → f (record { end = (link_at l p).end; binder = b; home = (link_at l p).home }) ≡ f (link_at l p)
          → (q : ℕ) → Dec (q ≡ p) → f (link_at (with_binder l p b) q) ≡ f (link_at l q)
      go f z q (yes e) = subst (λ (n : ℕ). f (link_at (with_binder l p b) n) ≡ f (link_at l n)) (sym e) (ap f (binder-same l p b h k) ∙ z)
      go f z q (no n) = ap f (link-other l (with_binder l p b) q (binder-other l p b q n))

  -- the binders of parts from q to r, below which us waits
  pub record Bound (l l' : List ℕ) (q r : ℕ) (ts us : List Task) : Type 0 where
    pub same : Same l l'
    pub before : (x : ℕ) → x < q → get_or l' x 0 ≡ get_or l x 0
    pub after : (x : ℕ) → r ≤ x → get_or l' x 0 ≡ get_or l x 0
    pub laid : Laid l' q (ts ++ us)

  innermost-under : (m : Bool) (p : ℕ) (s : List ℕ) → innermost m p (get_or s 0 0) ≡ get_or (under m p s) 0 0
  unfolding under
  innermost-under true p s = refl
  innermost-under false p s = refl

  innermost-lt : (m : Bool) (p b n : ℕ) → p < n → b < n → innermost m p b < n
  innermost-lt true p b n h k = h
  innermost-lt false p b n h k = k

module _ (ws : List ℕ) (e : reading ws ≡ accepted) where
  module _ (p d h : ℕ) (s : List ℕ) (small : length ws ≤ 2 ^ 10) (i : p < length ws) where
    pub bind-parts : (ms : List Bool) (l : List ℕ) (q r : ℕ) (us : List Task) → length ws ≤ length l → Ended ws e l 0 → get_or s 0 0 < 2 ^ 10
        → Spans ws q ms r → Laid ws l r us → Bound ws l (bind_parts l p (get_or s 0 0) ms q) q r (map (part_task p d h s) ms) us
    unfolding bind_parts
    bind-parts [] l q r us long ended b z a =
        record {
          same = same_refl ws l;
          before = λ x y. refl;
          after = λ x y. refl;
          laid = subst (λ (n : ℕ). Laid ws l n us) (sym z) a;
        }
    bind-parts (m ∷ ms) l q r us long ended b z a =
        let v = innermost m p (get_or s 0 0) in
        let k : v < 2 ^ 10 = innermost-lt ws m p (get_or s 0 0) (2 ^ 10) (lt_of_lt_of_le i small) b in
        let l₁ = with_binder l q v in
        let next : (link_at l q).end ≡ end_of ws q = ended q (omega arith) z.0 in
        let one = same-binder ws l q v (lt_of_lt_of_le z.0 long) k in
        let past : q < r = lt_of_lt_of_le (end_after ws q) (spans-le ws (end_of ws q) ms r z.1) in
        let rest =
        bind-parts ms l₁ (end_of ws q) r us (subst (λ (n : ℕ). length ws ≤ n) (sym one.long) long)
        (λ x y t. one.ends x ∙ ended x y t) b z.1
        (laid-agree ws l l₁ r us (λ x y. binder-other l q v x (λ t. let c : ⊥ = omega arith in c)) a) in
        subst (λ (n : ℕ). Bound ws l (bind_parts l₁ p (get_or s 0 0) ms n) q r (map (part_task p d h s) (m ∷ ms)) us) (sym next)
        (record {
          same = same-trans ws l l₁ _ one rest.same;
          before = λ x y. rest.before x (omega (arith, end_after ws q)) ∙ binder-other l q v x (λ t. let c : ⊥ = omega arith in c);
          after = λ x y. rest.after x y ∙ binder-other l q v x (λ t. let c : ⊥ = omega arith in c);
          laid = (
            ap (λ (y : Link). y.binder)
                (link-other l₁ _ q (rest.before q (end_after ws q)) ∙ binder-same l q v (lt_of_lt_of_le z.0 long) k)
                ∙ innermost-under ws m p s,
            rest.laid,
          );
        })

    -- the parts of a term span the words up to its end
    pub spans-parts : task_at ws p ≡ term d h s → (ms : List Bool) (j : ℕ) → j ≤ arity (get_or ws p 0) → drop j (parts (get_or ws p 0)) ≡ ms
        → Spans ws (part ws p j) ms (end_of ws p)
    unfolding arity end_of
    spans-parts t [] j b z =
        let k = length-drop j (parts (get_or ws p 0)) in
        let n = ap length z in
        ap (part ws p) (let y : j ≡ length (parts (get_or ws p 0)) = omega arith in y)
    spans-parts t (m ∷ ms) j b z =
        let k = length-drop j (parts (get_or ws p 0)) in
        let n = ap length z in
        let y : j < length (parts (get_or ws p 0)) = omega arith in
        let x = part-inside ws e p d h s i t j y in
        let cut : get_or (parts (get_or ws p 0)) j false ∷ drop (suc j) (parts (get_or ws p 0)) ≡ m ∷ ms =
        sym (drop-cons (parts (get_or ws p 0)) j false y) ∙ z in (
          x,
          subst (λ (n : ℕ). Spans ws n ms (end_of ws p)) (part-suc ws p j x)
              (spans-parts t ms (suc j) y (ap (drop 1) cut)),
        )
