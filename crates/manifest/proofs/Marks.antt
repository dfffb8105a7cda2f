-- Marks of keys by their numbers: where a key is marked for every member so far, an unmarked one is new.
-- Assumes nothing.
use Prim.Native.Nat.{ℕ, ◌<◌}
use native.Mathlib.Decide.{ℕ_discrete}
use native.Mathlib.Omega.{arith}
use mathlib.Core.Path.{◌≡◌, refl, sym, ap, subst, ◌∙◌}
use mathlib.Core.Bool.{Bool, true, false, ◌||◌}
use mathlib.Core.List.{List, [], ◌∷◌, ◌++◌}
use lib.ListN.{length, get_or, set}
use lib.Seq.{get_or-set_same, get_or-set_other}
use borrow.Author.Tests.{eq-eqb, ne_eqb}
use Rattle.json_text.specs.Units.{matches, spread}
use Rattle.json_text.proofs.Compared.{matches-same}
use Rattle.manifest.specs.Members.{key_of, has, unless_zero}
use Rattle.manifest.proofs.Tops.{has-none, has-yes, has_no}

abbrev pub Marked : List ℕ → List (List ℕ) → Type 0
Marked marks ms = (key : List ℕ) → has ms key ≡ true → get_or marks (spread 0 key) 0 ≡ 1

pub marked-none : (marks : List ℕ) → Marked marks []
marked-none marks key e = let n : has [] key ≡ false = has-none key in let z : ◌≡◌ {A = ℕ} 0 1 = cc in absurd (omega arith)

-- a test that is made only where a mark is there
module _ (mark : ℕ) (t : Bool) where
  pub unmarked : mark ≡ 0 → unless_zero mark t ≡ false
  unfolding unless_zero
  unmarked e = rw (eq-eqb mark 0 e, unless_zero)

  pub marked : (mark ≡ 0 → ⊥) → unless_zero mark t ≡ t
  unfolding unless_zero
  marked n = rw (ne_eqb mark 0 n, unless_zero)

pub made : (mark : ℕ) (t : Bool) → unless_zero mark t ≡ true → t ≡ true
made mark t e = by (ℕ_discrete mark 0)
  where
    by : Dec (mark ≡ 0) → t ≡ true
    by (yes z) = let f : unless_zero mark t ≡ false = unmarked mark t z in let o : ◌≡◌ {A = ℕ} 0 1 = cc in absurd (omega arith)
    by (no n) = sym (marked mark t n) ∙ e

-- a key that is new, marked or not
pub free : (marks : List ℕ) (ms : List (List ℕ)) (key : List ℕ) (number : ℕ) → Marked marks ms → number ≡ spread 0 key
    → unless_zero (get_or marks number 0) (has ms key) ≡ false → has ms key ≡ false
free marks ms key number m n e = by (ℕ_discrete (get_or marks number 0) 0) (has ms key) refl
  where
    by : Dec (get_or marks number 0 ≡ 0) → (t : Bool) → has ms key ≡ t → has ms key ≡ false
    by (no z) t q = sym (marked (get_or marks number 0) (has ms key) z) ∙ e
    by (yes z) false q = q
    by (yes z) true q =
        let one : get_or marks number 0 ≡ 1 = ap (λ (k : ℕ). get_or marks k 0) n ∙ m key q in
        absurd (omega arith)

has-append : (ms : List (List ℕ)) (m key : List ℕ) → has (ms ++ m ∷ []) key ≡ (has ms key || matches true (key_of m) key)
has-append [] m key = by (matches true (key_of m) key) refl
  where
    by : (t : Bool) → matches true (key_of m) key ≡ t → has (m ∷ []) key ≡ (has [] key || matches true (key_of m) key)
    by true e = has-yes key m [] e ∙ sym (ap (λ (b : Bool). b || matches true (key_of m) key) (has-none key) ∙ e)
    by false e = has_no key m [] e ∙ has-none key ∙ sym (ap (λ (b : Bool). b || matches true (key_of m) key) (has-none key) ∙ e)
has-append (x ∷ ms) m key = go (matches true (key_of x) key) refl (has-append ms m key)
  where
    go : (t : Bool) → matches true (key_of x) key ≡ t → has (ms ++ m ∷ []) key ≡ (has ms key || matches true (key_of m) key)
        → has (x ∷ (ms ++ m ∷ [])) key ≡ (has (x ∷ ms) key || matches true (key_of m) key)
    go true e r = has-yes key x (ms ++ m ∷ []) e ∙ sym (ap (λ (b : Bool). b || matches true (key_of m) key) (has-yes key x ms e))
    go false e r = has_no key x (ms ++ m ∷ []) e ∙ r ∙ sym (ap (λ (b : Bool). b || matches true (key_of m) key) (has_no key x ms e))

-- one member more, and its key marked
pub marked_next : (marks : List ℕ) (ms : List (List ℕ)) (m : List ℕ) (number : ℕ) → Marked marks ms → number ≡ spread 0 (key_of m) → number < length marks
    → Marked (set marks number 1) (ms ++ m ∷ [])
marked_next marks ms m number old n inside key e = by (has ms key) refl (sym (has-append ms m key) ∙ e)
  where
    here : spread 0 key ≡ number → get_or (set marks number 1) (spread 0 key) 0 ≡ 1
    here q = subst (λ (k : ℕ). get_or (set marks number 1) k 0 ≡ 1) (sym q) (get_or-set_same marks number 1 0 inside)

    there : get_or marks (spread 0 key) 0 ≡ 1 → Dec (spread 0 key ≡ number) → get_or (set marks number 1) (spread 0 key) 0 ≡ 1
    there o (yes q) = here q
    there o (no q) = get_or-set_other marks number (spread 0 key) 1 0 q ∙ o

    by : (t : Bool) → has ms key ≡ t → (t || matches true (key_of m) key) ≡ true → get_or (set marks number 1) (spread 0 key) 0 ≡ 1
    by true h q = there (old key h) (ℕ_discrete (spread 0 key) number)
    by false h q = here (ap (spread 0) (sym (matches-same (key_of m) key q)) ∙ sym n)
