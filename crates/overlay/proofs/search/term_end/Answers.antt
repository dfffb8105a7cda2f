use mathlib.Core.Path.{◌≡◌, refl, sym, ap, ◌∙◌}
use Prim.Native.Nat.{ℕ, ◌+◌, ◌-◌}
use native.Mathlib.Nat.{add-zero}
use native.Mathlib.Omega.{arith}
use lib.ListN.{get_or, drop}
use borrow.Author.Rules.{rules}
use Rattle.table.specs.Code.{skip}
use Rattle.table.proofs.ByKind.{arity-small}
use Rattle.table.proofs.Parts.{skip-zero}
use Rattle.overlay.proofs.Ends.{skip-past, skip-on}
use Rattle.overlay.proofs.search.term_end.Goals as goal

pub loop-next-init : goal.loop-next-init
loop-next-init c = (omega arith, omega arith, omega arith, refl)

pub overflow_add-left : goal.overflow_add-left
overflow_add-left c = omega (arith, arity-small (get_or c.args.words.now c.loop-next.next 0))

pub returns-then-left-eq0 : goal.returns-then-left-eq0
returns-then-left-eq0 c =
    let l = c.loop-next in
    let ws = c.args.words.now in
    let past = drop (l.next + 1) ws in
    sym
    (l.invariant.3
    ∙ skip-on ws l.next l.left (search rules) (search rules)
    ∙ ap (λ (n : ℕ). l.next + 1 + skip past (l.left - 1 + n)) (sym c.arity_of.ensures)
    ∙ ap (λ (n : ℕ). l.next + 1 + skip past n) c.if-left-eq0.true
    ∙ ap (λ (n : ℕ). l.next + 1 + n) (skip-zero past)
    ∙ add-zero (l.next + 1))

pub loop-next-preserved : goal.loop-next-preserved
loop-next-preserved c =
    let l = c.loop-next in
    let ws = c.args.words.now in (
      omega arith,
      omega (arith, arity-small (get_or ws l.next 0)),
      omega arith,
      l.invariant.3
          ∙ skip-on ws l.next l.left (search rules) (search rules)
          ∙ ap (λ (n : ℕ). l.next + 1 + skip (drop (l.next + 1) ws) (l.left - 1 + n)) (sym c.arity_of.ensures),
    )

pub returns : goal.returns
returns c =
    let l = c.loop-next in
    let last : c.max.result ≡ l.next = omega arith in
    last ∙ sym (l.invariant.3 ∙ skip-past c.args.words.now l.next l.left (search rules))
