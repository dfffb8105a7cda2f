-- Blocks in another order: there is a renumbering of their words that moves each block as a whole.
use Prim.Native.Nat.{ℕ, suc, ◌+◌, ◌-◌, ◌≤◌, ◌<◌}
use mathlib.Core.Path.{◌≡◌, refl, sym, ap, ap₂, ◌∙◌, subst}
use mathlib.Core.List.{List, [], ◌∷◌, ◌++◌, map, map-map, flatten, Permᴰ}
use native.Mathlib.Omega.{arith}
use lib.ListN.{length, length-append}
use Rattle.blocks.specs.Blocks.{places, All}
use Rattle.block_order.specs.Order.{Stands, first, later, Moves}
use Rattle.block_order.proofs.Exchange.{exchange, below, first_part, second-part, beyond, exchanged-back}

abbrev pub Long : List ℕ → Type 0
Long b = 0 < length b

-- the words of the blocks bs, from `at` on, renumbered to those of the blocks cs
pub record Rearranges (at : ℕ) (bs cs : List (List ℕ)) : Type 0 where
  pub π : ℕ → ℕ
  pub σ : ℕ → ℕ
  pub there : (p : ℕ) → σ (π p) ≡ p
  pub back : (q : ℕ) → π (σ q) ≡ q
  pub before : (p : ℕ) → p < at → π p ≡ p
  pub behind : (p : ℕ) → at + length (flatten bs) ≤ p → π p ≡ p
  pub long : length (flatten bs) ≡ length (flatten cs)
  pub moves : Moves π at bs cs
  pub moves-back : Moves σ at cs bs
  pub starts : All Long bs → All Long cs × Permᴰ (map π (places at bs)) (places at cs)

-- ---- none

none_moves : (at : ℕ) → Moves (λ p. p) at [] []
none_moves at p b s = elim s [ ]

-- ---- one stays before others that move

stand-after : (at : ℕ) (bs : List (List ℕ)) (p : ℕ) (b : List ℕ) → Stands at bs p b → at ≤ p
stand-after at bs p b first = omega arith
stand-after at bs p b (later {a} s) = omega (arith, stand-after (at + length a) _ p b s)

one-moves : (π : ℕ → ℕ) (at : ℕ) (a : List ℕ) (bs cs : List (List ℕ)) → ((p : ℕ) → p < at + length a → π p ≡ p)
    → Moves π (at + length a) bs cs → Moves π at (a ∷ bs) (a ∷ cs)
one-moves π at a bs cs h m p b first = record { to = at; there = first; whole = λ j l. h (at + j) (omega arith) }
one-moves π at a bs cs h m p b (later s) =
    let r = m p b s in record { to = r.to; there = later r.there; whole = r.whole }

one : (at : ℕ) (a : List ℕ) (bs cs : List (List ℕ)) → Rearranges (at + length a) bs cs → Rearranges at (a ∷ bs) (a ∷ cs)
unfolding flatten places
one at a bs cs r =
    let l = r.long in
    record {
      π = r.π;
      σ = r.σ;
      there = r.there;
      back = r.back;
      before = λ p h. r.before p (omega arith);
      behind = λ p h. r.behind p (omega (arith, length-append a (flatten bs)));
      long = omega (arith, length-append a (flatten bs), length-append a (flatten cs));
      moves = one-moves r.π at a bs cs r.before r.moves;
      moves-back = one-moves r.σ at a cs bs (λ p h. ap r.σ (sym (r.before p h)) ∙ r.there p) r.moves-back;
      starts = λ h. let s = r.starts h.1 in let i = h.0 in ((h.0, s.0), Permᴰ.cons (r.before at (omega arith)) s.1);
    }

-- ---- two neighbours change places

two-moves : (at : ℕ) (a b : List ℕ) (bs : List (List ℕ)) → Moves (exchange at (length a) (length b)) at (a ∷ b ∷ bs) (b ∷ a ∷ bs)
two-moves at a b bs p c first =
    record {
      to = at + length b;
      there = later first;
      whole = λ j l.
          first_part at (length a) (length b) (at + j) (omega arith) (omega arith)
          ∙ (let e : at + j + length b ≡ at + length b + j = omega arith in e);
    }
two-moves at a b bs p c (later first) =
    record {
      to = at;
      there = first;
      whole = λ j l.
          second-part at (length a) (length b) (at + length a + j) (omega arith) (omega arith)
          ∙ (let e : at + length a + j - length a ≡ at + j = omega arith in e);
    }
two-moves at a b bs p c (later (later s)) =
    let n = stand-after (at + length a + length b) bs p c s in
    let e : at + length a + length b ≡ at + length b + length a = omega arith in
    record {
      to = p;
      there = later (later (subst (λ (i : ℕ). Stands i bs p c) e s));
      whole = λ j l. beyond at (length a) (length b) (p + j) (omega arith);
    }

-- the places of those behind them
fixed : (π : ℕ → ℕ) (at : ℕ) (bs : List (List ℕ)) → ((p : ℕ) → at ≤ p → π p ≡ p) → map π (places at bs) ≡ places at bs
unfolding places
fixed π at [] h = refl
fixed π at (b ∷ bs) h =
    ap₂ (λ (p : ℕ) (ps : List ℕ). p ∷ ps) (h at (omega arith)) (fixed π (at + length b) bs (λ p l. h p (omega arith)))

two-starts : (at : ℕ) (a b : List ℕ) (bs : List (List ℕ)) → Long a → Long b
    → Permᴰ (map (exchange at (length a) (length b)) (places at (a ∷ b ∷ bs))) (places at (b ∷ a ∷ bs))
unfolding places
two-starts at a b bs h l =
    let m = length a in
    let n = length b in
    let π = exchange at m n in
    let rest : map π (places (at + m + n) bs) ≡ places (at + n + m) bs =
    fixed π (at + m + n) bs (λ p i. beyond at m n p i)
    ∙ ap (λ (i : ℕ). places i bs) (let e : at + m + n ≡ at + n + m = omega arith in e) in
    subst (λ (ps : List ℕ). Permᴰ (π at ∷ π (at + m) ∷ map π (places (at + m + n) bs)) (at ∷ (at + n) ∷ ps)) rest
    (Permᴰ.swap (first_part at m n at (omega arith) (omega arith))
    (second-part at m n (at + m) (omega arith) (omega arith) ∙ (let e : at + m - m ≡ at = omega arith in e)))

two : (at : ℕ) (a b : List ℕ) (bs : List (List ℕ)) → Rearranges at (a ∷ b ∷ bs) (b ∷ a ∷ bs)
unfolding flatten
two at a b bs =
    let m = length a in
    let n = length b in
    let l = flatten bs in
    record {
      π = exchange at m n;
      σ = exchange at n m;
      there = exchanged-back at m n;
      back = exchanged-back at n m;
      before = λ p h. below at m n p h;
      behind = λ p h. beyond at m n p (omega (arith, length-append a (b ++ l), length-append b l));
      long = omega (arith, length-append a (b ++ l), length-append b l, length-append b (a ++ l), length-append a l);
      moves = two-moves at a b bs;
      moves-back = two-moves at b a bs;
      starts = λ h. ((h.1.0, (h.0, h.1.1)), two-starts at a b bs h.0 h.1.0);
    }

-- ---- permutations

pub perm-length : {A : Type 0} {xs ys : List A} → Permᴰ xs ys → length xs ≡ length ys
perm-length Permᴰ.nil = refl
perm-length (Permᴰ.cons e p) = ap suc (perm-length p)
perm-length (Permᴰ.swap d e) = refl
perm-length (Permᴰ.trans p q) = perm-length p ∙ perm-length q

pub perm-map : {A B : Type 0} (f : A → B) {xs ys : List A} → Permᴰ xs ys → Permᴰ (map f xs) (map f ys)
perm-map f Permᴰ.nil = Permᴰ.nil
perm-map f (Permᴰ.cons e p) = Permᴰ.cons (ap f e) (perm-map f p)
perm-map f (Permᴰ.swap d e) = Permᴰ.swap (ap f d) (ap f e)
perm-map f (Permᴰ.trans p q) = Permᴰ.trans (perm-map f p) (perm-map f q)

-- ---- one after the other

then-moves : (π τ : ℕ → ℕ) (at : ℕ) (bs cs ds : List (List ℕ)) → Moves π at bs cs → Moves τ at cs ds → Moves (λ p. τ (π p)) at bs ds
then-moves π τ at bs cs ds m n p b s =
    let r = m p b s in
    let t = n r.to b r.there in
    record { to = t.to; there = t.there; whole = λ j l. ap τ (r.whole j l) ∙ t.whole j l }

then : (at : ℕ) (bs cs ds : List (List ℕ)) → Rearranges at bs cs → Rearranges at cs ds → Rearranges at bs ds
then at bs cs ds r t =
    let l = r.long in
    record {
      π = λ p. t.π (r.π p);
      σ = λ q. r.σ (t.σ q);
      there = λ p. ap r.σ (t.there (r.π p)) ∙ r.there p;
      back = λ q. ap t.π (r.back (t.σ q)) ∙ t.back q;
      before = λ p h. ap t.π (r.before p h) ∙ t.before p h;
      behind = λ p h. ap t.π (r.behind p h) ∙ t.behind p (omega arith);
      long = r.long ∙ t.long;
      moves = then-moves r.π t.π at bs cs ds r.moves t.moves;
      moves-back = then-moves t.σ r.σ at ds cs bs t.moves-back r.moves-back;
      starts = λ h.
          let s = r.starts h in
          let u = t.starts s.0 in (
            u.0,
            subst (λ (ps : List ℕ). Permᴰ ps (places at ds)) (map-map t.π r.π (places at bs))
                (Permᴰ.trans (perm-map t.π s.1) u.1),
          );
    }

pub rearranges : (at : ℕ) {bs cs : List (List ℕ)} → Permᴰ bs cs → Rearranges at bs cs
unfolding flatten places
rearranges at Permᴰ.nil =
    record {
      π = λ p. p;
      σ = λ q. q;
      there = λ p. refl;
      back = λ q. refl;
      before = λ p h. refl;
      behind = λ p h. refl;
      long = refl;
      moves = none_moves at;
      moves-back = none_moves at;
      starts = λ h. (tt, Permᴰ.nil);
    }
rearranges at (Permᴰ.cons {a} {b} {l₁ = bs} {l₂ = cs} e p) =
    subst (λ (x : List ℕ). Rearranges at (a ∷ bs) (x ∷ cs)) e (one at a bs cs (rearranges (at + length a) p))
rearranges at (Permᴰ.swap {a} {b} {a'} {b'} {l = bs} e f) =
    subst (λ (x : List ℕ). Rearranges at (a ∷ b ∷ bs) (x ∷ b' ∷ bs)) f
    (subst (λ (x : List ℕ). Rearranges at (a ∷ b ∷ bs) (b ∷ x ∷ bs)) e (two at a b bs))
rearranges at (Permᴰ.trans {l₁ = bs} {l₂ = cs} {l₃ = ds} p q) = then at bs cs ds (rearranges at p) (rearranges at q)
