-- The members of the top object, one by one.
-- Assumes nothing.
use Prim.Native.Nat.{ℕ, zero, suc, ◌+◌, ◌-◌, ◌<◌}
use native.Mathlib.Numerals.{add-one}
use native.Mathlib.Omega.{arith}
use mathlib.Core.Path.{◌≡◌, refl, ap, ◌∙◌}
use mathlib.Core.Bool.{Bool, true, false, ◌||◌}
use mathlib.Core.List.{List, [], ◌∷◌, ◌++◌}
use lib.ListN.{length, take, drop}
use Rattle.std.specs.Prelude.{Option, None, Some}
use Rattle.json_text.specs.Bytes.{nothing, Step, fails, goes, ends, starts_by, starts}
use Rattle.json_text.specs.Answers.{ended}
use Rattle.json_text.specs.Units.{matches}
use Rattle.json_text.specs.Values.{name, value, item, starts_from}
use Rattle.json_text.proofs.Repetition.{Narrow}
use Rattle.json_text.proofs.Shorter.{item-narrow, value_in}
use Rattle.manifest.specs.Members.{key_of, has, repeated, find}

pub narrow : (nest : ℕ) (k : Bool) → Narrow (item (value nest) k)
narrow nest k = item-narrow (value nest) (value_in nest) k

module _ (nest : ℕ) (k : Bool) (text : List ℕ) (e : Option ℕ) where
  pub starts_none : e ≡ None → starts_from (value nest) k (ended text e) ≡ []
  unfolding starts_from
  starts_none q = ap (λ (x : Option ℕ). starts_from (value nest) k (ended text x)) q

  pub starts-at : (at : ℕ) → e ≡ Some at → starts_from (value nest) k (ended text e) ≡ starts (item (value nest) k) (drop at text)
  unfolding starts_from
  starts-at at q = ap (λ (x : Option ℕ). starts_from (value nest) k (ended text x)) q

-- ---- the value of a key

pub find_none : (key : List ℕ) → find key [] ≡ nothing
unfolding find
find_none key = refl

module _ (key m : List ℕ) (ms : List (List ℕ)) where
  pub find-yes : matches true key (key_of m) ≡ true → find key (m ∷ ms) ≡ name true m
  unfolding find
  find-yes e = rw (e, find)

  pub find-no : matches true key (key_of m) ≡ false → find key (m ∷ ms) ≡ find key ms
  unfolding find
  find-no e = rw (e, find)

  -- ---- repeated keys

  pub has-yes : matches true (key_of m) key ≡ true → has (m ∷ ms) key ≡ true
  unfolding has
  has-yes e = ap (λ (b : Bool). b || has ms key) e

  pub has_no : matches true (key_of m) key ≡ false → has (m ∷ ms) key ≡ has ms key
  unfolding has
  has_no e = ap (λ (b : Bool). b || has ms key) e

pub has-none : (key : List ℕ) → has [] key ≡ false
unfolding has
has-none key = refl

pub take_none : {A : Type 0} (n : ℕ) (l : List A) → n ≡ 0 → take n l ≡ []
take_none n l e = ap (λ (k : ℕ). take k l) e

pub take_more : {A : Type 0} (n : ℕ) (m : A) (ms : List A) → 0 < n → take n (m ∷ ms) ≡ m ∷ take (n - 1) ms
take_more zero m ms h = absurd (omega arith)
take_more (suc n) m ms h = let e : n ≡ suc n - 1 = omega arith in ap (λ (k : ℕ). m ∷ take k ms) e

next : {A : Type 0} (l : List A) (n : ℕ) {m : A} {ms : List A} → drop n l ≡ m ∷ ms → (take (suc n) l ≡ take n l ++ m ∷ []) × (drop (suc n) l ≡ ms)
next [] zero e = let z : ◌≡◌ {A = ℕ} 0 1 = cc in absurd (omega arith)
next [] (suc n) e = let z : ◌≡◌ {A = ℕ} 0 1 = cc in absurd (omega arith)
next (x ∷ l) zero e = (cc, cc)
next (x ∷ l) (suc n) e = let r = next l n e in (ap (λ k. x ∷ k) r.0, r.1)

take-nil : {A : Type 0} (n : ℕ) → ◌≡◌ {A = List A} (take n []) []
take-nil zero = refl
take-nil (suc n) = refl

-- the next of a list, from the n-th on
pub split-next : {A : Type 0} (l : List A) (n : ℕ) {m : A} {ms : List A} → drop n l ≡ m ∷ ms → (take (n + 1) l ≡ take n l ++ m ∷ []) × (drop (n + 1) l ≡ ms)
split-next l n e = rw add-one (next l n e)

module _ (before : List (List ℕ)) where
  pub repeated-end : repeated before [] ≡ false
  unfolding repeated
  repeated-end = refl

  module _ (m : List ℕ) (ms : List (List ℕ)) where
    pub repeated-yes : has before (key_of m) ≡ true → repeated before (m ∷ ms) ≡ true
    unfolding repeated
    repeated-yes e = ap (λ (b : Bool). b || repeated (before ++ m ∷ []) ms) e

    pub repeated-no : has before (key_of m) ≡ false → repeated before (m ∷ ms) ≡ repeated (before ++ m ∷ []) ms
    unfolding repeated
    repeated-no e = ap (λ (b : Bool). b || repeated (before ++ m ∷ []) ms) e

-- ---- from the start of a member

module _ (f : List ℕ → Step) (key bs : List ℕ) where
  pub find-here : matches true key (key_of bs) ≡ true → find key (starts f bs) ≡ name true bs
  unfolding starts_by
  find-here e = find-yes key bs (elim (f bs) [ fails ↦ [] | goes us cs ↦ starts_by f (length bs) cs | ends cs ↦ [] ]) e

  pub find-later : (ms : List (List ℕ)) → starts f bs ≡ bs ∷ ms → matches true key (key_of bs) ≡ false → find key (starts f bs) ≡ find key ms
  find-later ms s e = ap (find key) s ∙ find-no key bs ms e

  module _ (n : ℕ) (some : 0 < n) where
    pub has_here : matches true (key_of bs) key ≡ true → has (take n (starts f bs)) key ≡ true
    unfolding starts_by
    has_here e =
        let ms : List (List ℕ) = elim (f bs) [ fails ↦ [] | goes us cs ↦ starts_by f (length bs) cs | ends cs ↦ [] ] in
        ap (λ (l : List (List ℕ)). has l key) (take_more n bs ms some) ∙ has-yes key bs (take (n - 1) ms) e

    pub has-later : (ms : List (List ℕ)) → starts f bs ≡ bs ∷ ms → matches true (key_of bs) key ≡ false
        → has (take n (starts f bs)) key ≡ has (take (n - 1) ms) key
    has-later ms s e =
        ap (λ (l : List (List ℕ)). has (take n l) key) s
        ∙ ap (λ (l : List (List ℕ)). has l key) (take_more n bs ms some)
        ∙ has_no key bs (take (n - 1) ms) e

    pub has_last : starts f bs ≡ bs ∷ [] → matches true (key_of bs) key ≡ false → has (take n (starts f bs)) key ≡ false
    has_last s e = has-later [] s e ∙ ap (λ (l : List (List ℕ)). has l key) (take-nil (n - 1)) ∙ has-none key

module _ (f : List ℕ → Step) (before : List (List ℕ)) (bs : List ℕ) where
  pub repeated-here : has before (key_of bs) ≡ true → repeated before (starts f bs) ≡ true
  unfolding starts_by
  repeated-here e = repeated-yes before bs (elim (f bs) [ fails ↦ [] | goes us cs ↦ starts_by f (length bs) cs | ends cs ↦ [] ]) e

  pub repeated-later : (ms : List (List ℕ)) → starts f bs ≡ bs ∷ ms → has before (key_of bs) ≡ false → repeated before (starts f bs) ≡ repeated (before ++ bs ∷ []) ms
  repeated-later ms s e = ap (repeated before) s ∙ repeated-no before bs ms e
