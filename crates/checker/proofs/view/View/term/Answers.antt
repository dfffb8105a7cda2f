-- `checker::view::View::term` meets its contract: an arm for each term. Assumes nothing.
use mathlib.Core.Bool.{not}
use mathlib.Core.Path.{refl, ap}
use native.Mathlib.Omega.{arith}
use Rattle.table.specs.Code.{code, term_node}
use Rattle.calculus.specs.Rules.{flow, leaf_rule, sender as sender_rule, two_sender}
use Rattle.calculus.specs.Layout.{sets}
use Rattle.calculus.proofs.Fitting.{constant-lt, sign-lt}
use Rattle.queries.proofs.Home.{sender}
use Rattle.checker.specs.Decides.{Decides}
use Rattle.checker.proofs.Rows.{BC}
use Rattle.checker.proofs.Asking.{own_is}
use Rattle.checker.proofs.Placed.{Silent, masks-of, sizes, part_at, on, by, value, there, linked-here, out, binder-is, binder-in}
use Rattle.checker.proofs.Sent.{term-idle, term-live}
use Rattle.checker.proofs.view.View.term.Goals as goal
use Rattle.checker.proofs.view.View.term.Goals.{in-Constant, in-Number, in-Literal, in-Name, in-Variable, in-Function, in-Apply, in-Let, in-Sequence, in-If, in-While, in-Operation, in-Record, in-Get, in-Set, in-Delete, in-Cell, in-Read, in-Assign, in-Exercise}

pub in_value-obeyed-requires : goal.in_value-obeyed-requires
unfolding term_node
in_value-obeyed-requires c = let g = c.requires.0 in (g.inside, omega (arith, c.constant_element.ensures, constant-lt c.in-Constant.c, (sizes g).lead))

pub in_value-obeyed-requires-in-Number : goal.in_value-obeyed-requires-in-Number
unfolding term_node
in_value-obeyed-requires-in-Number c = let g = c.requires.0 in (g.inside, omega (arith, c.sign_element.ensures, sign-lt c.in-Number.n, (sizes g).lead))

pub in_value-obeyed-requires-in-Literal : goal.in_value-obeyed-requires-in-Literal
unfolding term_node
in_value-obeyed-requires-in-Literal c = let g = c.requires.0 in (g.inside, omega (arith, linked-here g c.requires.1 c.in-Literal.is refl refl, (sizes g).lead))

pub in_value-obeyed-requires-in-Name : goal.in_value-obeyed-requires-in-Name
unfolding term_node
in_value-obeyed-requires-in-Name c = let g = c.requires.0 in (g.inside, omega (arith, linked-here g c.requires.1 c.in-Name.is refl refl, g.ready.laid.lead))

pub passed-obeyed-requires : goal.passed-obeyed-requires
unfolding term_node
passed-obeyed-requires c = let g = c.requires.0 in (omega (arith, binder-in g (there g c.requires.1 c.in-Variable.is) c.binder_of.ensures.0 (linked-here g c.requires.1 c.in-Variable.is refl refl)), omega (arith, g.inside))

pub apply-obeyed-requires : goal.apply-obeyed-requires
unfolding term_node
apply-obeyed-requires c = let g = c.requires.0 in let x = linked-here g c.requires.1 c.in-Apply.is c.end.ensures.0 refl in (part_at g x.1, part_at g x.2, masks-of g.ready)

pub bind-obeyed-requires : goal.bind-obeyed-requires
unfolding term_node
bind-obeyed-requires c = let g = c.requires.0 in let x = linked-here g c.requires.1 c.in-Let.is c.end-in-Let.ensures.0 refl in (part_at g x.0, part_at g x.1)

pub sequence-obeyed-requires : goal.sequence-obeyed-requires
unfolding term_node
sequence-obeyed-requires c = let g = c.requires.0 in let x = linked-here g c.requires.1 c.in-Sequence.is c.end-in-Sequence.ensures.0 refl in (part_at g x.1, part_at g x.2)

pub branch-obeyed-requires : goal.branch-obeyed-requires
unfolding term_node
branch-obeyed-requires c = let g = c.requires.0 in let x = linked-here g c.requires.1 c.in-If.is c.end-in-If.ensures.0 c.next_end.ensures.0 in (part_at g x.0, part_at g x.1, part_at g x.2)

pub repeat-obeyed-requires : goal.repeat-obeyed-requires
unfolding term_node
repeat-obeyed-requires c = let g = c.requires.0 in let x = linked-here g c.requires.1 c.in-While.is c.end-in-While.ensures.0 refl in (part_at g x.0, part_at g x.1)

pub operation-obeyed-requires : goal.operation-obeyed-requires
unfolding term_node
operation-obeyed-requires c = let g = c.requires.0 in let x = linked-here g c.requires.1 c.in-Operation.is c.end-in-Operation.ensures.0 refl in (part_at g x.1, part_at g x.2)

pub get-obeyed-requires : goal.get-obeyed-requires
unfolding term_node
get-obeyed-requires c = let g = c.requires.0 in let x = linked-here g c.requires.1 c.in-Get.is c.end-in-Get.ensures.0 refl in (part_at g x.1, part_at g x.2, masks-of g.ready)

pub set-obeyed-requires : goal.set-obeyed-requires
unfolding term_node
set-obeyed-requires c = let g = c.requires.0 in let x = linked-here g c.requires.1 c.in-Set.is c.end-in-Set.ensures.0 c.next_end-in-Set.ensures.0 in (part_at g x.0, part_at g x.1, part_at g x.2, masks-of g.ready)

pub delete-obeyed-requires : goal.delete-obeyed-requires
unfolding term_node
delete-obeyed-requires c = let g = c.requires.0 in let x = linked-here g c.requires.1 c.in-Delete.is c.end-in-Delete.ensures.0 refl in (part_at g x.1, part_at g x.2, masks-of g.ready)

pub cell-obeyed-requires : goal.cell-obeyed-requires
unfolding term_node
cell-obeyed-requires c = let g = c.requires.0 in part_at g (linked-here g c.requires.1 c.in-Cell.is refl refl)

pub read-obeyed-requires : goal.read-obeyed-requires
unfolding term_node
read-obeyed-requires c = let g = c.requires.0 in (part_at g (linked-here g c.requires.1 c.in-Read.is refl refl), masks-of g.ready)

pub assign-obeyed-requires : goal.assign-obeyed-requires
unfolding term_node
assign-obeyed-requires c = let g = c.requires.0 in let x = linked-here g c.requires.1 c.in-Assign.is c.end-in-Assign.ensures.0 refl in (part_at g x.1, part_at g x.2, masks-of g.ready)

pub exercise-obeyed-requires : goal.exercise-obeyed-requires
unfolding term_node
exercise-obeyed-requires c = let g = c.requires.0 in (g.inside, omega (arith, linked-here g c.requires.1 c.in-Exercise.is refl refl))

pub returns-then-not-is_live : goal.returns-then-not-is_live
returns-then-not-is_live c = λ ρ. let g = c.requires.0 in term-idle g ρ c.requires.1 (c.is_live.ensures _ g.ready.laid) (ap not c.if-not-is_live.true)

-- in each case: it asks nothing of its receivers, and the test decides its rule
decides : (c : goal.After-lowered) → Silent c.requires.0 c.args.t × Decides (sets (code c.args.self.now.words.now) c.args.self.now.estimate.now) (flow (code c.args.self.now.words.now) c.args.p ((code c.args.self.now.words.now).node c.args.p)) c.match-t.obeyed
unfolding term_node flow leaf_rule sender_rule two_sender
decides c =
    let g = c.requires.0 in let i = c.requires.1 in
    elim c.match-t.branch [
      | in-Constant w ↦ out g i w.in-Constant.is refl refl (λ b x y z. tt) w.obeyed-is (value g w.in_value-obeyed.ensures w.constant_element.ensures)
      | in-Number w ↦ out g i w.in-Number.is refl refl (λ b x y z. tt) w.obeyed-is (value g w.in_value-obeyed-in-Number.ensures w.sign_element.ensures)
      | in-Literal w ↦ out g i w.in-Literal.is refl refl (λ b x y z. tt) w.obeyed-is (value g w.in_value-obeyed-in-Literal.ensures refl)
      | in-Name w ↦ out g i w.in-Name.is refl refl (λ b x y z. tt) w.obeyed-is (value g w.in_value-obeyed-in-Name.ensures refl)
      | in-Variable w ↦ out g i w.in-Variable.is refl refl (λ b x y z. tt) w.obeyed-is (rw (binder-is g (there g i w.in-Variable.is) w.binder_of.ensures.0) at (BC (on g w.passed-obeyed.ensures)))
      | in-Function w ↦ out g i w.in-Function.is refl refl (λ b x y z. tt) w.obeyed-is (own_is g.ready.laid (w.in_value-obeyed-in-Function.ensures _ g.ready.laid))
      | in-Apply w ↦ out g i w.in-Apply.is w.end.ensures.0 refl (λ b x y z. tt) w.obeyed-is (by g w.apply-obeyed.ensures)
      | in-Let w ↦ out g i w.in-Let.is w.end-in-Let.ensures.0 refl (λ b x y z. tt) w.obeyed-is (on g w.bind-obeyed.ensures)
      | in-Sequence w ↦ out g i w.in-Sequence.is w.end-in-Sequence.ensures.0 refl (λ b x y z. tt) w.obeyed-is (on g w.sequence-obeyed.ensures)
      | in-If w ↦ out g i w.in-If.is w.end-in-If.ensures.0 w.next_end.ensures.0 (λ b x y z. tt) w.obeyed-is (on g w.branch-obeyed.ensures)
      | in-While w ↦ out g i w.in-While.is w.end-in-While.ensures.0 refl (λ b x y z. tt) w.obeyed-is (on g w.repeat-obeyed.ensures)
      | in-Operation w ↦ out g i w.in-Operation.is w.end-in-Operation.ensures.0 refl (λ b x y z. tt) w.obeyed-is (on g w.operation-obeyed.ensures)
      | in-Record w ↦ out g i w.in-Record.is refl refl (λ b x y z. tt) w.obeyed-is (own_is g.ready.laid (w.in_value-obeyed-in-Record.ensures _ g.ready.laid))
      | in-Get w ↦ out g i w.in-Get.is w.end-in-Get.ensures.0 refl (λ b x y z. tt) w.obeyed-is (by g w.get-obeyed.ensures)
      | in-Set w ↦ out g i w.in-Set.is w.end-in-Set.ensures.0 w.next_end-in-Set.ensures.0 (λ b x y z. tt) w.obeyed-is (by g w.set-obeyed.ensures)
      | in-Delete w ↦ out g i w.in-Delete.is w.end-in-Delete.ensures.0 refl (λ b x y z. tt) w.obeyed-is (by g w.delete-obeyed.ensures)
      | in-Cell w ↦ out g i w.in-Cell.is refl refl (λ b x y z. tt) w.obeyed-is (on g w.cell-obeyed.ensures)
      | in-Read w ↦ out g i w.in-Read.is refl refl (λ b x y z. tt) w.obeyed-is (by g w.read-obeyed.ensures)
      | in-Assign w ↦ out g i w.in-Assign.is w.end-in-Assign.ensures.0 refl (λ b x y z. tt) w.obeyed-is (by g w.assign-obeyed.ensures)
      | in-Exercise w ↦ out g i w.in-Exercise.is refl refl (λ b x y z. tt) w.obeyed-is (w.exercise-obeyed.ensures _ g.ready.laid g.well (sender g.ready _ _ (there g i w.in-Exercise.is) _ w.permissions_of.ensures))
    ]

pub returns : goal.returns
returns c = λ ρ.
    let g = c.requires.0 in
    term-live g ρ c.requires.1 (c.is_live.ensures _ g.ready.laid) (ap not c.if-not-is_live.false) (decides c) (λ k d. c.lowered.ensures _ k d)
