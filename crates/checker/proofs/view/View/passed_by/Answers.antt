-- `checker::view::View::passed_by` meets its contract. Assumes nothing.
use mathlib.Core.Path.{refl, ap, ◌∙◌}
use mathlib.Core.Bool.{not}
use Prim.Native.Nat.{◌*◌}
use Rattle.rows.proofs.Laws.{same-part}
use Rattle.clauses.specs.Asks.{sort_at}
use Rattle.checker.proofs.Laws.{decided}
use Rattle.checker.proofs.Rows.{passed-by-is}
use Rattle.checker.proofs.view.View.passed_by.Goals as goal

pub returns : goal.returns
returns c = λ k j o w n. let a = c.args in let v = a.self.now in decided (ap not c.lacks_masked.ensures ∙ rw (same-part v.masks.now (a.m * v.layout.row) v.layout.row) refl) (passed-by-is _ _ v.sized k o w _ _ c.requires.0 c.requires.1 (sort_at a.m k) _ (n.mask a.m c.requires.2))
