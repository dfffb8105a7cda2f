-- Blocks counted word by word, and what is left of a text that is made from all words.
use Prim.Native.Nat.{ℕ, ◌+◌, ◌-◌, ◌*◌, ◌≤◌, ◌<◌}
use mathlib.Core.Path.{◌≡◌, refl, sym, ap, ◌∙◌}
use mathlib.Core.Bool.{Bool, true, false}
use mathlib.Core.List.{List, [], ◌∷◌, ◌++◌, append-nil, append_assoc}
use native.Mathlib.Numerals.{add-one}
use native.Mathlib.Omega.{arith}
use lib.Dec.{eqb}
use lib.ListN.{length, get_or, drop, length-drop}
use lib.Seq.{drop-cons}
use Rattle.table.specs.Words.{kind}
use Rattle.text.specs.Added.{Added}
use Rattle.text.proofs.Adding.{added-nothing, added_then, added-as}
use Rattle.deliveries.specs.Positions.{counted, each_word}

pub counted-most : (w count : ℕ) → counted w count ≤ count + 1
unfolding counted
counted-most w count = go (eqb (kind w) 2)
  where
    go : (b : Bool) → elim b [ true ↦ count + 1 | false ↦ count ] ≤ count + 1
    go true = omega arith
    go false = omega arith

mul-add-one : (a b : ℕ) → a * (b + 1) ≡ a * b + a
mul-add-one a b = omega arith

pub past_end : (ws : List ℕ) (q : ℕ) → length ws ≤ q → drop q ws ≡ []
past_end ws q h = go (drop q ws) (length-drop q ws)
  where
    go : (l : List ℕ) → length l ≡ length ws - q → l ≡ []
    go [] e = refl
    go (x ∷ xs) e = absurd (omega arith)

module _ (f : ℕ → ℕ → ℕ → List ℕ) (ws : List ℕ) where
  -- what is left from a word on
  abbrev pub rest : (p count : ℕ) → List ℕ
  rest p count = each_word f p count (drop p ws)

  pub rest_end : (p count : ℕ) → length ws ≤ p → rest p count ≡ []
  unfolding each_word
  rest_end p count h = ap (each_word f p count) (past_end ws p h)

  pub rest-here : (p count : ℕ) → p < length ws → rest p count ≡ f p count (get_or ws p 0) ++ rest (p + 1) (counted (get_or ws p 0) count)
  unfolding each_word
  rest-here p count h = ap (each_word f p count) (drop-cons ws p 0 h) ∙ rw add-one refl

  -- A loop over the words that writes what f makes of each, at most so many bytes: what it added, with what is left, is the whole.
  pub record Filled (most : ℕ) (before : List ℕ) (at p count : ℕ) (after : List ℕ) (next : ℕ) : Type 0 where
    pub done : List ℕ
    pub added : Added before at done after next
    pub whole : done ++ rest p count ≡ each_word f 0 0 ws
    pub near : next ≤ at + most * p
    pub few : count ≤ p
    pub inside : p ≤ length ws

  module _ {most : ℕ} where
    pub filled-start : (before : List ℕ) (at : ℕ) → Filled most before at 0 0 before at
    filled-start before at =
        record { done = []; added = added-nothing before at; whole = refl; near = omega arith; few = omega arith; inside = omega arith }

    module _ {before : List ℕ} {at p count : ℕ} {after : List ℕ} {next : ℕ} (i : Filled most before at p count after next) where
      pub filled-step : p < length ws → {after' : List ℕ} {next' count' : ℕ} → Added after next (f p count (get_or ws p 0)) after' next'
          → next' ≤ next + most → count' ≡ counted (get_or ws p 0) count → Filled most before at (p + 1) count' after' next'
      filled-step h {after'} {next'} {count'} a n e =
          let r = f p count (get_or ws p 0) in
          record {
            done = i.done ++ r;
            added = added_then i.added a;
            whole =
                ap (λ (t : ℕ). (i.done ++ r) ++ rest (p + 1) t) e
                ∙ append_assoc i.done r _
                ∙ ap (λ (l : List ℕ). i.done ++ l) (sym (rest-here p count h))
                ∙ i.whole;
            near = omega (arith, i.near, mul-add-one most p);
            few = omega (arith, e, counted-most (get_or ws p 0) count, i.few);
            inside = omega arith;
          }

      pub filled-end : length ws ≤ p → Added before at (each_word f 0 0 ws) after next
      filled-end h =
          added-as (sym (append-nil i.done) ∙ ap (λ (l : List ℕ). i.done ++ l) (sym (rest_end p count h)) ∙ i.whole) i.added
