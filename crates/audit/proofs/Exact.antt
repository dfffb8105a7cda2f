-- The answer says yes exactly where an estimate passes, and then its leak is sound.
use Prim.Native.Nat.{ℕ, ◌^◌, ◌<◌}
use mathlib.Core.Path.{◌≡◌, refl, sym, ◌∙◌}
use mathlib.Core.Bool.{Bool, true, false}
use mathlib.Core.List.{List}
use native.Mathlib.Omega.{arith}
use borrow.Author.Tests.{eqb-true, eqb-false, ltb-true, ltb-false, leb-true, leb-false}
use lib.Dec.{eqb, leb, ltb}
use lib.ListN.{length}
use Rattle.permset.specs.Sets.{width}
use Rattle.table.specs.Scan.{Outcome, accepted, reading}
use Rattle.table.specs.Scan.{refused as unreadable}
use Rattle.table.specs.Code.{Code, code}
use Rattle.table.proofs.Linked.{linked}
use Rattle.calculus.specs.Layout.{estimate_words, sets, Words, WellFormed}
use Rattle.calculus.specs.Estimate.{leak}
use Rattle.calculus.proofs.Guarantee.{covers}
use Rattle.calculus.proofs.Leak.{leak-has, leak-only, leak-least, leak-lt}
use Rattle.checker.specs.Obeyed.{first_broken}
use Rattle.checker.proofs.Laws.{unbroken, estimate-unbroken, broken-most}
use Rattle.stray.specs.Stray.{first_stray}
use Rattle.stray.proofs.Clean.{stray-most, unstray-proper, proper-unstray, proper-used}
use Rattle.audit.specs.Audited.{refused, obeys, ruled, swept, sized, judged, audited}
use Rattle.audit.specs.Passes.{Passes, Sound, Exact}

-- words without a stray bit are those of an estimate
pub well-formed : (c : Code) (est : List ℕ) → Words est → length est ≡ estimate_words c → first_stray c est ≡ length est → WellFormed c est
well-formed c est w l e = record { long = l; words = w; clean = λ n t. proper-used c n (unstray-proper c est e n t) }

module _ (ws : List ℕ) (ρ : ℕ) (est : List ℕ) (w : Words est) where
  abbrev c : Code
  c = code ws

  sound : Passes ws ρ est → Sound ws ρ est (leak c ρ est)
  sound p =
      let k = linked ws p.readable in
      let v : WellFormed c est = well-formed c est w p.long (proper-unstray c est w p.clean) in
      record {
        small = leak-lt c ρ est;
        leaks = leak-has c ρ est v;
        only = leak-only c ρ est v k;
        covers = covers c k ρ (sets c est) p.obeyed (leak c ρ est) (leak-has c ρ est v);
        contains = λ x t. leak-has c ρ est v x (leak-least c k ρ (sets c est) p.obeyed x t);
      }

  -- each test, with what the tests before it have shown

  exact-ruled : reading ws ≡ accepted → ρ < 2 ^ width → length est ≡ estimate_words c → first_stray c est ≡ length est
      → (b : Bool) → ltb (first_broken c ρ est) c.size ≡ b
      → Exact ws ρ est (elim b [ true ↦ refused 54 (first_broken c ρ est) | false ↦ obeys (leak c ρ est) ])
  unfolding Exact
  exact-ruled a s l e true t = λ p. let z = estimate-unbroken c ρ est p.obeyed in omega (arith, ltb-true (first_broken c ρ est) c.size t)
  exact-ruled a s l e false t =
      let p : Passes ws ρ est =
      record {
        readable = a;
        small = s;
        long = l;
        clean = unstray-proper c est e;
        obeyed = unbroken c ρ est (omega (arith, ltb-false (first_broken c ρ est) c.size t, broken-most c ρ est));
      }
      in
      (p, sound p)

  exact-swept : reading ws ≡ accepted → ρ < 2 ^ width → length est ≡ estimate_words c → (b : Bool) → ltb (first_stray c est) (length est) ≡ b
      → Exact ws ρ est (elim b [ true ↦ refused 53 (first_stray c est) | false ↦ ruled c ρ est ])
  unfolding Exact ruled
  exact-swept a s l true t = λ p. let z = proper-unstray c est w p.clean in omega (arith, ltb-true (first_stray c est) (length est) t)
  exact-swept a s l false t =
      exact-ruled a s l (omega (arith, ltb-false (first_stray c est) (length est) t, stray-most c est)) (ltb (first_broken c ρ est) c.size) refl

  exact-sized : reading ws ≡ accepted → ρ < 2 ^ width → (b : Bool) → eqb (length est) (estimate_words c) ≡ b
      → Exact ws ρ est (elim b [ true ↦ swept c ρ est | false ↦ refused 52 0 ])
  unfolding Exact swept
  exact-sized a s true t = exact-swept a s (eqb-true (length est) (estimate_words c) t) (ltb (first_stray c est) (length est)) refl
  exact-sized a s false t = λ p. eqb-false (length est) (estimate_words c) t p.long

  exact-judged : reading ws ≡ accepted → (b : Bool) → leb (2 ^ width) ρ ≡ b → Exact ws ρ est (elim b [ true ↦ refused 20 0 | false ↦ sized c ρ est ])
  unfolding Exact sized
  exact-judged a true t = λ p. omega (arith, leb-true (2 ^ width) ρ t, p.small)
  exact-judged a false t = exact-sized a (omega (arith, leb-false (2 ^ width) ρ t)) (eqb (length est) (estimate_words c)) refl

  pub exact : Exact ws ρ est (audited ws ρ est)
  unfolding audited Exact judged
  exact = go (reading ws) refl
    where
      go : (o : Outcome) → reading ws ≡ o → Exact ws ρ est (elim o [ accepted ↦ judged c ρ est | unreadable n at ↦ refused n at ])
      go accepted e = exact-judged e (leb (2 ^ width) ρ) refl
      go (unreadable n at) e = λ p. let z : ◌≡◌ {A = ℕ} 0 1 = cc (sym e ∙ p.readable) in omega arith
