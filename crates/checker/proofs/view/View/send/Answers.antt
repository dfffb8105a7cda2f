-- `checker::view::View::send` meets its contract. Assumes nothing.
use mathlib.Core.Path.{refl, ap}
use Rattle.table.specs.declared.Link.{Link}
use Rattle.table.specs.Code.{term_node}
use Rattle.queries.proofs.Home.{sender, sender-home, sender-inside}
use Rattle.checker.proofs.Laws.{both, put_is}
use Rattle.checker.proofs.Placed.{links-of, part_at, linked-here, node-here}
use Rattle.checker.proofs.Sent.{send-live}
use Rattle.checker.proofs.view.View.send.Goals as goal

pub to_blocks-lowest-requires : goal.to_blocks-lowest-requires
unfolding term_node
to_blocks-lowest-requires c =
    let g = c.requires.0 in let y = g.ready in let i = c.requires.1 in
    let x = linked-here g i refl c.end-d.ensures.0 refl in
    let h = ap (λ (v : Link). v.home) c.link_at-home.ensures in (
      record {
        readable = y.readable;
        laid = y.laid;
        masked = y.masked;
        well = g.well;
        target = part_at g x.1;
        message = part_at g x.2;
        homed = sender-inside y _ _ i _ h;
        home = sender-home y _ _ i _ h;
        own = sender y _ _ i _ c.permissions_of-own.ensures;
      },
      links-of y,
    )

pub parts-requires : goal.parts-requires
unfolding term_node
parts-requires c = let g = c.requires.0 in let x = linked-here g c.requires.1 refl c.end-d.ensures.0 refl in (part_at g x.1, part_at g x.2)

pub returns : goal.returns
unfolding term_node
returns c = λ ρ.
    let g = c.requires.0 in let o = g.ready.laid in
    send-live g ρ c.requires.1 (node-here g c.requires.1 refl c.end-d.ensures.0 refl) c.requires.2 c.to_blocks-lowest.ensures
    (c.lowered.ensures _ _ (both (c.parts.ensures _ o g.well) (put_is (c.in_value.ensures _ o))))
