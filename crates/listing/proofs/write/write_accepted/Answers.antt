-- `listing::write::write_accepted` meets its contract. Assumes nothing.
use Prim.Native.Nat.{ℕ}
use mathlib.Core.Path.{refl, sym, ap, ◌∙◌}
use mathlib.Core.List.{◌++◌}
use native.Mathlib.Omega.{arith}
use lib.ListN.{drop}
use Rattle.listing.proofs.Depths.{narrow_size}
use Rattle.listing.specs.Keywords.{style_letter, entries, packed, packed_all, letters}
use Rattle.listing.specs.Listing.{done, left, listing}
use Rattle.listing.specs.Answer.{number, place, answered}
use Rattle.listing.proofs.Answers.{write-long, write-short, write_done}
use Rattle.listing.proofs.write.write_accepted.Goals as goal

pub find_depths-requires : goal.find_depths-requires
find_depths-requires c =
    (c.requires, narrow_size c.args.words.now c.requires)

pub text_size-n-requires : goal.text_size-n-requires
unfolding letters entries packed_all packed style_letter
text_size-n-requires c =
    record {
      letters_value = (refl, c.requires);
      depths_value = c.find_depths.ensures;
    }

pub returns-then-n-gt65536 : goal.returns-then-n-gt65536
unfolding answered left number place
returns-then-n-gt65536 c =
    record {
      result_value = sym (write-long c.args.words.now _ c.requires (omega (arith, c.text_size-n.ensures)));
      out_after = refl;
    }

pub returns-then-out-n : goal.returns-then-out-n
unfolding answered left number place
returns-then-out-n c =
    let size = c.text_size-n.ensures in
    record {
      result_value = sym (write-short c.args.words.now _ c.requires (omega (arith, size)) (omega (arith, size)));
      out_after = refl;
    }

pub put_lines-requires : goal.put_lines-requires
unfolding letters entries packed_all packed style_letter
put_lines-requires c =
    record {
      letters_value = (refl, c.requires);
      depths_value = c.find_depths.ensures;
      words_in_bounds = omega (arith, c.text_size-n.ensures);
    }

pub returns : goal.returns
unfolding answered left
returns c =
    let ws = c.args.words.now in
    let size = c.text_size-n.ensures in record {
      result_value = ap done size ∙ sym (write_done ws _ c.requires (omega (arith, size)) (omega (arith, size)));
      out_after = c.put_lines.ensures ∙ ap (λ (n : ℕ). listing ws ++ drop n c.args.out.now) (sym size);
    }
