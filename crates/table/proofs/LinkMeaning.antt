-- What the links of an accepted table say: the end of each term, its block, its innermost binder, and of a variable the binder that it
-- counts to.
use mathlib.Core.Path.{◌≡◌, refl, sym, ap, ◌∙◌, subst}
use mathlib.Core.Logic.{◌≢◌, ⊎_elim}
use mathlib.Core.List.{List, [], ◌∷◌, ◌++◌, map}
use mathlib.Core.Bool.{Bool, true, false}
use Prim.Native.Nat.{ℕ, zero, suc, ◌+◌, ◌^◌, ◌≤◌, ◌<◌, zero-le}
use native.Mathlib.Nat.{add-zero, zero-add, le_refl, le_trans, lt_of_lt_of_le, not-suc-le-zero}
use native.Mathlib.Decide.{ℕ_discrete}
use native.Mathlib.Omega.{arith}
use borrow.Author.Tests.{eq-eqb, ne_eqb, le-leb}
use lib.ListN.{length, get_or, replicate}
use lib.Dec.{eqb}
use Rattle.table.specs.declared.Link.{Link}
use Rattle.table.specs.Words.{kind, argument, size, parts, arity}
use Rattle.table.specs.Scan.{Task, head, name, perms, guard, term, accepted, next, reading, names_at}
use Rattle.table.specs.Code.{part, end_of, task_at}
use Rattle.table.specs.Links.{link_at, iterate, outward, with_binder, with_home, bind_parts, block_at, bind_word, binders, ends, linked}
use Rattle.table.proofs.Faults.{stands}
use Rattle.table.proofs.Stack.{Fact, Kept, Step, Names, Layered, Walked, walk, at-start, layered-next, names_more}
use Rattle.table.proofs.Parts.{part_task, part-zero, end-le}
use Rattle.table.proofs.Blocks.{block}
use Rattle.table.proofs.Scopes.{scoped, Binder, of-block, of-term, Chained, chained, All, all_append, parts-variable}
use Rattle.table.proofs.Limits.{size-le}
use Rattle.table.proofs.LinkReads.{link-other, link-packs, binder-other, binder-same, home-other, home_same, length-home}
use Rattle.table.proofs.LinkEnds.{Ended, parts_low, ends-ended, ends-length, ends-rest}
use Rattle.table.proofs.LinkBinders.{Laid, laid-agree, laid-names, Spans, Same, same_refl, same-binder, bind-parts, spans-parts}

-- ---- the second pass, word by word

-- the block of the word before p
cur : List ℕ → ℕ → ℕ
cur ws zero = 0
cur ws (suc p) = block_at (get_or ws p 0) p (cur ws p)

-- the links after p words
passed : List ℕ → List ℕ → ℕ → List ℕ
passed ws l zero = l
passed ws l (suc p) = with_home (bind_word (get_or ws p 0) p (passed ws l p)) p (cur ws (suc p))

passed-binders : (ws l : List ℕ) (n p : ℕ) → binders ws n p (cur ws p) (passed ws l p) ≡ passed ws l (p + n)
unfolding binders passed cur
passed-binders ws l zero p = ap (passed ws l) (sym (add-zero p))
passed-binders ws l (suc n) p =
    passed-binders ws l n (suc p) ∙ ap (passed ws l) (let z : suc p + n ≡ p + suc n = omega arith in z)

cur-name : (ws : List ℕ) (p : ℕ) → kind (get_or ws p 0) ≡ 2 → cur ws (suc p) ≡ p
unfolding cur block_at
cur-name ws p k = rw (eq-eqb (kind (get_or ws p 0)) 2 k, block_at)

cur-other : (ws : List ℕ) (p : ℕ) → kind (get_or ws p 0) ≢ 2 → cur ws (suc p) ≡ cur ws p
unfolding cur block_at
cur-other ws p k = rw (ne_eqb (kind (get_or ws p 0)) 2 k, block_at)

cur-step : (ws : List ℕ) (p : ℕ) → cur ws p ≤ p → Dec (kind (get_or ws p 0) ≡ 2) → cur ws (suc p) ≤ p
cur-step ws p h (yes k) = omega (arith, cur-name ws p k)
cur-step ws p h (no k) = omega (arith, cur-other ws p k)

cur-le : (ws : List ℕ) (p : ℕ) → cur ws p ≤ p
unfolding cur
cur-le ws zero = le_refl 0
cur-le ws (suc p) = let z = cur-step ws p (cur-le ws p) (ℕ_discrete (kind (get_or ws p 0)) 2) in omega arith

module _ (w p : ℕ) (l : List ℕ) where
  bind-name : kind w ≡ 2 → bind_word w p l ≡ with_binder l (p + 3) p
  unfolding bind_word
  bind-name k = rw (eq-eqb (kind w) 2 k, bind_word)

  bind-variable : kind w ≡ 20 → bind_word w p l ≡ with_binder l p (outward l (argument w) (link_at l p).binder)
  unfolding bind_word
  bind-variable k = rw (ne_eqb (kind w) 2 (λ z. let c : ⊥ = omega arith in c), eq-eqb (kind w) 20 k, bind_word)

  bind-term : kind w ≢ 2 → kind w ≢ 20 → bind_word w p l ≡ bind_parts l p (link_at l p).binder (parts w) (suc p)
  unfolding bind_word
  bind-term k m = rw (ne_eqb (kind w) 2 k, ne_eqb (kind w) 20 m, bind_word)

  bind-none : kind w < 16 → kind w ≢ 2 → bind_word w p l ≡ l
  unfolding bind_parts
  bind-none h k =
      bind-term k (λ z. let c : ⊥ = omega arith in c)
      ∙ ap (λ (bs : List Bool). bind_parts l p (link_at l p).binder bs (suc p)) (parts_low w h)

-- which of its scope's binders a word counts to: a variable's argument, and otherwise the innermost
unfoldable pub counted : ℕ → ℕ
counted w = elim (eqb (kind w) 20) [ true ↦ argument w | false ↦ 0 ]

pub counted-variable : (w : ℕ) → kind w ≡ 20 → counted w ≡ argument w
unfolding counted
counted-variable w k = rw (eq-eqb (kind w) 20 k, counted)

pub counted-other : (w : ℕ) → kind w ≢ 20 → counted w ≡ 0
unfolding counted
counted-other w k = rw (ne_eqb (kind w) 20 k, counted)

-- ---- what holds of the links after p words, and the stack there

-- a word that the pass has done
pub record Done (ws l : List ℕ) (q h : ℕ) (s : List ℕ) : Type 0 where
  pub home-right : (link_at l q).home ≡ h
  pub binder-right : (link_at l q).binder ≡ get_or s (counted (get_or ws q 0)) 0

abbrev DoneTask : List ℕ → List ℕ → ℕ → Task → Type 0
DoneTask ws l q (head n) = Unit {0}
DoneTask ws l q name = (link_at l q).home ≡ q
DoneTask ws l q (perms n) = Unit {0}
DoneTask ws l q guard = Unit {0}
DoneTask ws l q (term d h s) = Done ws l q h s

done-agree : (ws l l' : List ℕ) (q : ℕ) (t : Task) → get_or l' q 0 ≡ get_or l q 0 → DoneTask ws l q t → DoneTask ws l' q t
done-agree ws l l' q (head n) a r = tt
done-agree ws l l' q name a r = ap (λ (x : Link). x.home) (link-other l l' q a) ∙ r
done-agree ws l l' q (perms n) a r = tt
done-agree ws l l' q guard a r = tt
done-agree ws l l' q (term d h s) a r =
    record {
      home-right = ap (λ (x : Link). x.home) (link-other l l' q a) ∙ r.home-right;
      binder-right = ap (λ (x : Link). x.binder) (link-other l l' q a) ∙ r.binder-right;
    }

-- terms wait in the block b alone
abbrev HomedTask : ℕ → Task → Type 0
HomedTask b (head n) = Unit {0}
HomedTask b name = Unit {0}
HomedTask b (perms n) = Unit {0}
HomedTask b guard = Unit {0}
HomedTask b (term d h s) = h ≡ b

record Passed (ws l₀ : List ℕ) (ended : List ℕ → Type 0) (p : ℕ) (l : List ℕ) (ts : List Task) : Type 0 where
  long : length l ≡ length l₀
  rest : (q : ℕ) → length ws ≤ q → get_or l q 0 ≡ get_or l₀ q 0
  right : ended l
  layered : Layered ts
  homed : All (HomedTask (cur ws p)) ts
  laid : Laid ws l p ts
  done : (q : ℕ) → q < p → DoneTask ws l q (task_at ws q)

-- ---- a variable counts through the binders of its scope

module _ (ws l : List ℕ) (p : ℕ) (done : (q : ℕ) → q < p → DoneTask ws l q (task_at ws q)) where
  binder-next : (b : ℕ) (s : List ℕ) → Binder ws b s → b < p → 0 < length s → (link_at l b).binder ≡ get_or s 0 0
  binder-next b s (of-block t) h k = absurd (not-suc-le-zero k)
  binder-next b s (of-term {s = s'} t n) h k =
      (subst (DoneTask ws l b) t (done b h)).binder-right ∙ ap (λ (i : ℕ). get_or s' i 0) (counted-other (get_or ws b 0) n)

  outward-right : (s : List ℕ) → Chained ws s → ((k : ℕ) → k < length s → get_or s k 0 < p) → (n : ℕ) → n < length s
      → outward l n (get_or s 0 0) ≡ get_or s n 0
  unfolding iterate
  outward-right [] c b n h = absurd (not-suc-le-zero h)
  outward-right (x ∷ s) c b zero h = refl
  outward-right (x ∷ s) c b (suc n) h =
      ap (outward l n) (binder-next x s c.0 (b 0 (omega arith)) (omega arith))
      ∙ outward-right s c.1 (λ k i. b (suc k) (omega arith)) n (omega arith)

-- ---- one word

homed-names : (b : ℕ) (ts : List Task) → Names ts → All (HomedTask b) ts
homed-names b [] h = tt
homed-names b (name ∷ ts) h = (tt, homed-names b ts h)
homed-names b (head _ ∷ ts) h = elim h [ ]
homed-names b (perms _ ∷ ts) h = elim h [ ]
homed-names b (guard ∷ ts) h = elim h [ ]
homed-names b (term depth home scope ∷ ts) h = elim h [ ]

homed-parts : (p d h b : ℕ) (s : List ℕ) → h ≡ b → (bs : List Bool) → All (HomedTask b) (map (part_task p d h s) bs)
homed-parts p d h b s k [] = tt
homed-parts p d h b s k (m ∷ ms) = (k, homed-parts p d h b s k ms)

module _ (ws : List ℕ) (e : reading ws ≡ accepted) (l₀ : List ℕ) (room : length ws ≤ length l₀) where
  abbrev Inv : ℕ → List ℕ → List Task → Type 0
  Inv p l ts = Passed ws l₀ (λ m. Ended ws e m 0) p l ts

  -- the block of a word that has one, and its binder
  abbrev HomeRight : ℕ → Task → Type 0
  HomeRight p (head n) = Unit {0}
  HomeRight p name = cur ws (suc p) ≡ p
  HomeRight p (perms n) = Unit {0}
  HomeRight p guard = Unit {0}
  HomeRight p (term d h s) = cur ws (suc p) ≡ h

  abbrev BinderRight : List ℕ → ℕ → Task → Type 0
  BinderRight l p (head n) = Unit {0}
  BinderRight l p name = Unit {0}
  BinderRight l p (perms n) = Unit {0}
  BinderRight l p guard = Unit {0}
  BinderRight l p (term d h s) = (link_at l p).binder ≡ get_or s (counted (get_or ws p 0)) 0

  -- what `bind_word` makes of the links
  record Mid (l l₁ : List ℕ) (p : ℕ) (t : Task) (ts : List Task) : Type 0 where
    same : Same ws l l₁
    before : (q : ℕ) → q < p → get_or l₁ q 0 ≡ get_or l q 0
    rest : (q : ℕ) → length ws ≤ q → get_or l₁ q 0 ≡ get_or l q 0
    laid : Laid ws l₁ (suc p) (next p (get_or ws p 0) t ++ ts)
    bound : BinderRight l₁ p t

  module _ (p : ℕ) (l : List ℕ) (keys : List ℕ) (t : Task) (ts : List Task) (st : Step ws p keys t ts) (inv : Inv p l (t ∷ ts)) where
    small : length ws ≤ 2 ^ 10
    small = size-le ws e

    cur-small : cur ws (suc p) < 2 ^ 10
    cur-small =
        let a = cur-step ws p (cur-le ws p) (ℕ_discrete (kind (get_or ws p 0)) 2) in
        let i = st.inside in
        let b = small in
        omega arith

    wide : length ws ≤ length l
    wide = subst (λ (n : ℕ). length ws ≤ n) (sym inv.long) room

    module _ (l₁ : List ℕ) (mid : Mid l l₁ p t ts) (home : HomeRight p t)
        (homed : All (HomedTask (cur ws (suc p))) (next p (get_or ws p 0) t ++ ts)) where
      at_p : link_at (with_home l₁ p (cur ws (suc p))) p
          ≡ record { end = (link_at l₁ p).end; binder = (link_at l₁ p).binder; home = cur ws (suc p) }
      at_p =
          home_same l₁ p (cur ws (suc p))
          (subst (λ (n : ℕ). p < n) (sym mid.same.long) (lt_of_lt_of_le st.inside wide))
          cur-small

      done-here : (u : Task) → HomeRight p u → BinderRight l₁ p u → DoneTask ws (with_home l₁ p (cur ws (suc p))) p u
      done-here (head n) a b = tt
      done-here name a b = ap (λ (x : Link). x.home) at_p ∙ a
      done-here (perms n) a b = tt
      done-here guard a b = tt
      done-here (term d h s) a b =
          record { home-right = ap (λ (x : Link). x.home) at_p ∙ a; binder-right = ap (λ (x : Link). x.binder) at_p ∙ b }

      finish : Inv (suc p) (with_home l₁ p (cur ws (suc p))) (next p (get_or ws p 0) t ++ ts)
      finish =
          record {
            long = length-home l₁ p (cur ws (suc p)) ∙ mid.same.long ∙ inv.long;
            rest = λ q i.
                home-other l₁ p (cur ws (suc p)) q (λ z. let k = st.inside in let c : ⊥ = omega arith in c)
                ∙ mid.rest q i
                ∙ inv.rest q i;
            right = λ q i k. end-at q (ℕ_discrete q p) ∙ mid.same.ends q ∙ inv.right q i k;
            layered = layered-next p (get_or ws p 0) t ts inv.layered;
            homed = homed;
            laid =
                laid-agree ws l₁ (with_home l₁ p (cur ws (suc p))) (suc p) (next p (get_or ws p 0) t ++ ts)
                (λ q i. home-other l₁ p (cur ws (suc p)) q (λ z. let c : ⊥ = omega arith in c)) mid.laid;
            done = λ q i. done_at q i (ℕ_discrete q p);
          }
        where
          end-at : (q : ℕ) → Dec (q ≡ p) → (link_at (with_home l₁ p (cur ws (suc p))) q).end ≡ (link_at l₁ q).end
          end-at q (yes z) =
              subst (λ (n : ℕ). (link_at (with_home l₁ p (cur ws (suc p))) n).end ≡ (link_at l₁ n).end) (sym z) (ap (λ (x : Link). x.end) at_p)
          end-at q (no z) =
              ap (λ (x : Link). x.end) (link-other l₁ (with_home l₁ p (cur ws (suc p))) q (home-other l₁ p (cur ws (suc p)) q z))

          done_at : (q : ℕ) → q < suc p → Dec (q ≡ p) → DoneTask ws (with_home l₁ p (cur ws (suc p))) q (task_at ws q)
          done_at q i (yes z) =
              subst (λ (n : ℕ). DoneTask ws (with_home l₁ p (cur ws (suc p))) n (task_at ws n)) (sym z)
              (subst (DoneTask ws (with_home l₁ p (cur ws (suc p))) p) (sym st.task) (done-here t home mid.bound))
          done_at q i (no z) =
              done-agree ws l (with_home l₁ p (cur ws (suc p))) q (task_at ws q)
              (home-other l₁ p (cur ws (suc p)) q z ∙ mid.before q (omega (arith, z)))
              (inv.done q (omega (arith, z)))

  -- ---- the cases of a word

  module _ (p : ℕ) (l : List ℕ) (ts : List Task) (i : p < length ws) (wide : length ws ≤ length l) where
    mid_none : (t : Task) → kind (get_or ws p 0) < 16 → kind (get_or ws p 0) ≢ 2 → Laid ws l (suc p) (next p (get_or ws p 0) t ++ ts)
        → BinderRight l p t → Mid l (bind_word (get_or ws p 0) p l) p t ts
    mid_none t h k a b =
        subst (λ (m : List ℕ). Mid l m p t ts) (sym (bind-none (get_or ws p 0) p l h k))
        (record { same = same_refl ws l; before = λ q z. refl; rest = λ q z. refl; laid = a; bound = b })

    mid-name : kind (get_or ws p 0) ≡ 2 → p + 3 < length ws → Names ts → Mid l (bind_word (get_or ws p 0) p l) p name ts
    unfolding next
    mid-name k j n =
        let small = size-le ws e in
        subst (λ (m : List ℕ). Mid l m p name ts) (sym (bind-name (get_or ws p 0) p l k))
        (record {
          same = same-binder ws l (p + 3) p (lt_of_lt_of_le j wide) (omega arith);
          before = λ q z. binder-other l (p + 3) p q (λ y. let c : ⊥ = omega arith in c);
          rest = λ q z. binder-other l (p + 3) p q (λ y. let c : ⊥ = omega arith in c);
          laid = (
            subst (λ (q : ℕ). (link_at (with_binder l (p + 3) p) q).binder ≡ p) (let y : p + 3 ≡ suc (suc (suc p)) = omega arith in y)
                (ap (λ (x : Link). x.binder) (binder-same l (p + 3) p (lt_of_lt_of_le j wide) (omega arith))),
            laid-names ws (with_binder l (p + 3) p) (end_of ws (suc (suc (suc p)))) ts n,
          );
          bound = tt;
        })

    module _ (d h : ℕ) (s : List ℕ) (t : task_at ws p ≡ term d h s) (laid : Laid ws l p (term d h s ∷ ts)) where
      -- a term that is no variable binds its parts
      mid-parts : kind (get_or ws p 0) ≢ 2 → kind (get_or ws p 0) ≢ 20 → Ended ws e l 0 → Mid l (bind_word (get_or ws p 0) p l) p (term d h s) ts
      unfolding next
      mid-parts k m r =
          let w = get_or ws p 0 in
          let b : get_or s 0 0 < 2 ^ 10 = subst (λ (n : ℕ). n < 2 ^ 10) laid.0 (link-packs l p).1 in
          let z =
          bind-parts ws e p d h s (size-le ws e) i (parts w) l (suc p) (end_of ws p) ts wide r b
          (subst (λ (n : ℕ). Spans ws n (parts w) (end_of ws p)) (part-zero ws p)
          (spans-parts ws e p d h s (size-le ws e) i t (parts w) 0 (omega arith) refl))
          laid.1 in
          subst (λ (m : List ℕ). Mid l m p (term d h s) ts)
          (sym (bind-term w p l k m ∙ ap (λ (n : ℕ). bind_parts l p n (parts w) (suc p)) laid.0))
          (record {
            same = z.same;
            before = λ q y. z.before q (omega arith);
            rest = λ q y. z.after q (le_trans (end-le ws p i) y);
            laid = z.laid;
            bound =
                ap (λ (x : Link). x.binder) (link-other l (bind_parts l p (get_or s 0 0) (parts w) (suc p)) p (z.before p (le_refl (suc p))))
                ∙ laid.0
                ∙ ap (λ (n : ℕ). get_or s n 0) (sym (counted-other w m));
          })

      -- a variable counts to its binder
      mid-variable : kind (get_or ws p 0) ≡ 20 → argument (get_or ws p 0) < length s → ((q : ℕ) → q < p → DoneTask ws l q (task_at ws q))
          → Mid l (bind_word (get_or ws p 0) p l) p (term d h s) ts
      unfolding next arity end_of
      mid-variable k a done =
          let w = get_or ws p 0 in
          let none = parts-variable w k in
          let c = scoped ws e p d h s i t in
          let out : outward l (argument w) (link_at l p).binder ≡ get_or s (argument w) 0 =
          ap (outward l (argument w)) laid.0
          ∙ outward-right ws l p done s (chained ws e p d h s i t) c.binders-before (argument w) a in
          let b : get_or s (argument w) 0 < 2 ^ 10 = let x = c.binders-before (argument w) a in let y = size-le ws e in omega arith in
          let here : end_of ws p ≡ suc p = ap (λ (bs : List Bool). part ws p (length bs)) none ∙ part-zero ws p in
          subst (λ (m : List ℕ). Mid l m p (term d h s) ts) (sym (bind-variable w p l k ∙ ap (with_binder l p) out))
          (record {
            same = same-binder ws l p (get_or s (argument w) 0) (lt_of_lt_of_le i wide) b;
            before = λ q y. binder-other l p (get_or s (argument w) 0) q (λ z. let c : ⊥ = omega arith in c);
            rest = λ q y. binder-other l p (get_or s (argument w) 0) q (λ z. let c : ⊥ = omega arith in c);
            laid =
                subst (λ (bs : List Bool). Laid ws (with_binder l p (get_or s (argument w) 0)) (suc p) (map (part_task p d h s) bs ++ ts))
                (sym none)
                (laid-agree ws l (with_binder l p (get_or s (argument w) 0)) (suc p) ts
                (λ q y. binder-other l p (get_or s (argument w) 0) q (λ z. let c : ⊥ = omega arith in c))
                (subst (λ (n : ℕ). Laid ws l n ts) here laid.1));
            bound =
                ap (λ (x : Link). x.binder) (binder-same l p (get_or s (argument w) 0) (lt_of_lt_of_le i wide) b)
                ∙ ap (λ (n : ℕ). get_or s n 0) (sym (counted-variable w k));
          })

  -- ---- all words

  first-pass : List ℕ
  first-pass = ends ws (length ws) l₀

  InvAt : Fact
  InvAt p keys ts = Inv p (passed ws first-pass p) ts

  start : InvAt 0 [] (head (length ws) ∷ [])
  unfolding InvAt first-pass passed
  start =
      record {
        long = ends-length ws (length ws) l₀;
        rest = λ q h. ends-rest ws (length ws) l₀ q h;
        right = ends-ended ws e (length ws) l₀ (le_refl (length ws)) room (λ q h k. let c : ⊥ = omega arith in absurd c);
        layered = tt;
        homed = (tt, tt);
        laid = tt;
        done = λ q h. absurd (not-suc-le-zero h);
      }

  kept : Kept ws InvAt
  unfolding InvAt passed next
  kept p keys (head n) ts st inv =
      let w = get_or ws p 0 in
      let l = passed ws first-pass p in
      let f = stands (names_at ws) keys w (head n) st.faultless in
      let names = names_more (argument w) ts inv.layered in
      finish p l keys (head n) ts st inv (bind_word w p l)
      (mid_none p l ts st.inside (wide p l keys (head n) ts st inv) (head n)
      (⊎_elim (λ y. let c : kind w < 16 = omega arith in c) (λ y. let c : kind w < 16 = omega arith in c) f.0)
      (⊎_elim (λ y z. let c : ⊥ = omega arith in c) (λ y z. let c : ⊥ = omega arith in c) f.0)
      (laid-names ws l (suc p) (replicate (argument w) name ++ ts) names) tt)
      tt (homed-names (cur ws (suc p)) (replicate (argument w) name ++ ts) names)
  kept p keys name ts st inv =
      let w = get_or ws p 0 in
      let l = passed ws first-pass p in
      let k = (stands (names_at ws) keys w name st.faultless).0 in
      let c = cur-name ws p k in
      finish p l keys name ts st inv (bind_word w p l)
      (mid-name p l ts st.inside (wide p l keys name ts st inv) k (block ws e p st.inside st.task).inside inv.layered)
      c (tt, (tt, (sym c, homed-names (cur ws (suc p)) ts inv.layered)))
  kept p keys (perms n) ts st inv =
      let w = get_or ws p 0 in
      let l = passed ws first-pass p in
      let k = (stands (names_at ws) keys w (perms n) st.faultless).0 in
      finish p l keys (perms n) ts st inv (bind_word w p l)
      (mid_none p l ts st.inside (wide p l keys (perms n) ts st inv) (perms n) (omega arith) (λ z. let c : ⊥ = omega arith in c)
      inv.laid tt)
      tt (subst (λ (b : ℕ). All (HomedTask b) ts) (sym (cur-other ws p (λ z. let c : ⊥ = omega arith in c))) inv.homed.1)
  kept p keys guard ts st inv =
      let w = get_or ws p 0 in
      let l = passed ws first-pass p in
      let k = stands (names_at ws) keys w guard st.faultless in
      finish p l keys guard ts st inv (bind_word w p l)
      (mid_none p l ts st.inside (wide p l keys guard ts st inv) guard (omega arith) (λ z. let c : ⊥ = omega arith in c) inv.laid tt)
      tt (subst (λ (b : ℕ). All (HomedTask b) ts) (sym (cur-other ws p (λ z. let c : ⊥ = omega arith in c))) inv.homed.1)
  kept p keys (term d h s) ts st inv =
      let w = get_or ws p 0 in
      let l = passed ws first-pass p in
      let t = term d h s in
      let f = stands (names_at ws) keys w t st.faultless in
      let c = cur-other ws p (λ z. let c : ⊥ = omega arith in c) in
      finish p l keys t ts st inv (bind_word w p l) (mid (ℕ_discrete (kind w) 20))
      (c ∙ sym inv.homed.0)
      (all_append (HomedTask (cur ws (suc p))) (map (part_task p d h s) (parts w)) ts
      (homed-parts p d h (cur ws (suc p)) s (inv.homed.0 ∙ sym c) (parts w))
      (subst (λ (b : ℕ). All (HomedTask b) ts) (sym c) inv.homed.1))
    where
      mid : Dec (kind (get_or ws p 0) ≡ 20)
          → Mid (passed ws first-pass p) (bind_word (get_or ws p 0) p (passed ws first-pass p)) p (term d h s) ts
      mid (yes k) =
          let f = stands (names_at ws) keys (get_or ws p 0) (term d h s) st.faultless in
          mid-variable p (passed ws first-pass p) ts st.inside (wide p (passed ws first-pass p) keys (term d h s) ts st inv)
          d h s st.task inv.laid k (f.3 k) inv.done
      mid (no k) =
          let f = stands (names_at ws) keys (get_or ws p 0) (term d h s) st.faultless in
          mid-parts p (passed ws first-pass p) ts st.inside (wide p (passed ws first-pass p) keys (term d h s) ts st inv)
          d h s st.task inv.laid (λ z. let c : ⊥ = omega arith in c) k inv.right

  linked-passed : linked ws l₀ ≡ passed ws first-pass (0 + length ws)
  unfolding linked first-pass passed cur
  linked-passed =
      rw (le-leb (length ws) (length l₀) room, le-leb (length ws) size (size-le ws e), linked)
      (passed-binders ws (ends ws (length ws) l₀) (length ws) 0)

  -- behind the last word
  last : Walked ws InvAt (0 + length ws)
  last = walk ws InvAt kept 0 [] (head (length ws) ∷ []) (at-start ws e) start (length ws) (omega arith)

  final : Inv (length ws) (linked ws l₀) last.stack
  unfolding InvAt
  final =
      subst (λ (l : List ℕ). Inv (length ws) l last.stack) (sym linked-passed)
      (subst (λ (n : ℕ). Inv n (passed ws first-pass (0 + length ws)) last.stack) (zero-add (length ws)) last.holds)

  -- ---- the links

  pub link-end : (p : ℕ) → p < length ws → (link_at (linked ws l₀) p).end ≡ end_of ws p
  link-end p i = final.right p zero-le i

  pub link-term : (p d h : ℕ) (s : List ℕ) → p < length ws → task_at ws p ≡ term d h s → Done ws (linked ws l₀) p h s
  link-term p d h s i t = subst (DoneTask ws (linked ws l₀) p) t (final.done p i)
