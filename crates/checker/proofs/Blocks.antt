-- The blocks that a send may start: what its tests say of one block, and the loop over all.
use Prim.Native.Nat.{ℕ, ◌+◌, ◌*◌, ◌≤◌, ◌<◌}
use mathlib.Core.Path.{◌≡◌, refl, sym, ap, ◌∙◌, subst}
use mathlib.Core.Logic.{⊎_elim}
use mathlib.Core.Bool.{Bool, true, not, ◌&&◌}
use mathlib.Core.List.Memᴰ
use mathlib.Core.List.{List, Memᴰ}
use native.Mathlib.Omega.{arith}
use lib.Dec.{T}
use lib.ListN.{length, get_or}
use Rattle.delivery.specs.Delivery.{delivered}
use Rattle.table.specs.declared.Link.{Link}
use Rattle.table.specs.Words.{argument}
use Rattle.table.specs.Item.{handler_at}
use Rattle.table.specs.Links.{link_at, LinksOf}
use Rattle.table.specs.Scan.{name, accepted, reading}
use Rattle.table.specs.Code.{Code, block, code, task_at, node_for, end_of}
use Rattle.table.proofs.Blocks.{Follows, block as Block-words, blocks-first, blocks-next, blocks_end}
use Rattle.table.proofs.BlockLoop.{blocks_on, named-there, follows-first, next-is, follows_next, next-later}
use Rattle.calculus.specs.Elements.{made, name_element}
use Rattle.calculus.specs.Constraint.{C, Sets, Rule, put}
use Rattle.calculus.specs.Rules.{name_of, permissions, delivery_to, delivering}
use Rattle.calculus.specs.Layout.{sets}
use Rattle.calculus.proofs.Digits.{T_and, T-fst, T-snd}
use Rattle.rows.specs.declared.layout.Layout.{Layout}
use Rattle.clauses.proofs.Sorts.{row-C}
use Rattle.queries.specs.Starts.{starts_at}
use Rattle.checker.specs.declared.sends.Sending.{Sending}
use Rattle.checker.specs.Lowered.{Lowered}
use Rattle.checker.specs.Sends.{delivery, AskedFor, Sent}
use Rattle.checker.proofs.Lowered.{lowered_none, lowered-same, lowered-then}
use Rattle.checker.proofs.Laws.{Under, idle}

-- ---- one block

module _ {ws masks est : List ℕ} {l : Layout} {s : Sending} (h : Sent ws masks est l s) (b : ℕ) (i : b < length ws) (t : task_at ws b ≡ name) where
  abbrev c : Code
  c = code ws

  pub name_in : name_element (argument (get_or ws b 0)) < 32 * l.lead
  unfolding code
  name_in = omega (arith, (Block-words ws h.readable b i t).named, h.laid.lead)

  abbrev e : Sets
  e = sets c est

  abbrev named : Bool
  named = e (C (s.p + 1)) (name_element (name_of (c.node b)))

  abbrev answer : Bool
  answer = delivered (delivery_to (name_of (c.node b)) s.required.bits (permissions c s.p) (c.node b))

  abbrev starting : Bool
  starting = starts_at c ws est s.p s.required.bits s.own.bits b

  starts_is : starting ≡ named && answer
  unfolding code node_for name_of delivery_to handler_at
  starts_is =
      let n : c.node b ≡ block (argument (get_or ws b 0)) (argument (get_or ws (b + 1) 0)) (argument (get_or ws (b + 2) 0)) = ap (node_for ws b) t in
      rw (n, row-C (s.p + 1), h.own) refl

  -- what is asked where the send starts b
  pub on-started : {k : Rule} {r : Bool} → r ≡ starting → Under e (delivering c s.p s.required.bits (s.p + 1) b k) r k
  on-started q =
      record {
        asks = λ o x. let g = subst T (q ∙ starts_is) x in o (T-snd named answer g) (T-fst named answer g);
        from = λ f a n. f (subst T (sym (q ∙ starts_is)) (T_and named answer n a));
      }

  -- a block that is not started is asked nothing for
  pub unasked : {r : Bool} → r ≡ starting → not r ≡ true → (w : ℕ) → AskedFor c e s.p s.d s.required.bits b w
  unasked q n w =
      (λ z. (idle (on-started {k = delivery c s.p s.d b} q) n).yes tt, λ z. (idle (on-started {k = put (C b) (made c (c.home s.p))} q) n).yes tt)

-- ---- all blocks in turn

-- what each of some blocks asks of the word w, as A says
abbrev pub Among : List ℕ → (ℕ → ℕ → Type 0) → ℕ → Type 0
Among bs A w = (x : ℕ) → Memᴰ x bs → A x w

-- b is a block or the end; what the blocks from b on ask is still to be looked at, from m down
abbrev pub Looked : List ℕ → (ℕ → ℕ → Type 0) → (below b m : ℕ) → Type 0
Looked ws A below b m = Follows ws b × ((r : ℕ) → Lowered (Among (blocks_on ws b) A) m r → Lowered (Among (code ws).blocks A) below r)

module _ (ws : List ℕ) (q : reading ws ≡ accepted) (A : ℕ → ℕ → Type 0) {below : ℕ} where
  pub looked-start : Looked ws A below 1 below
  unfolding code
  looked-start = (follows-first ws q, λ r x. subst (λ (bs : List ℕ). Lowered (Among bs A) below r) (sym (blocks-first ws q)) x)

  module _ {b m : ℕ} (k : Looked ws A below b m) where
    pub looked-next : b < length ws → {links : List ℕ} → LinksOf ws links → {x : Link} → x ≡ link_at links (b + 3) → {n : ℕ} → Lowered (A b) m n
        → Looked ws A below x.end n × (b < x.end)
    looked-next i {links} l {x} e {n} y =
        let t = named-there ws q b k.0 i in
        let z : x.end ≡ end_of ws (b + 3) = ap (λ (v : Link). v.end) e ∙ next-is ws q b i t links l in (
          (
            subst (Follows ws) (sym z) (follows_next ws q b i t),
            λ r f. k.1 r
                (subst (λ (bs : List ℕ). Lowered (Among bs A) m r) (sym (blocks-next ws q b i t))
                (lowered-same
                (λ w h a o g. ⊎_elim (λ u. subst (λ (v : ℕ). A v w) (sym u) a.0) (a.1 o) (Memᴰ.cases_cons g))
                (λ w h a. (a b (Memᴰ.head refl), λ o g. a o (Memᴰ.tail g)))
                (lowered-then y (subst (λ (u : ℕ). Lowered (Among (blocks_on ws u) A) n r) z f)))),
          ),
          omega (arith, next-later ws q b i t),
        )

    pub looked-all : length ws ≤ b → Lowered (Among (code ws).blocks A) below m
    looked-all h =
        let z : b ≡ length ws = ⊎_elim (λ y. y) (λ y. absurd (omega (arith, y.0))) k.0 in
        k.1 m (lowered_none (λ w i x o. absurd (Memᴰ.not-nil (subst (Memᴰ x) (ap (blocks_on ws) z ∙ blocks_end ws q) o))))
