-- `wiphosega::sends::deliveries_of` is safe: the slices have all bytes of the array. The lemma's arguments are written out, since the array is too
-- large to be counted byte by byte. Assumes nothing.
use Rattle.std.proofs.Common.{ℕ, sym, ◌∙◌}
use Rattle.std.proofs.lemmas.List.{length-replicate}
use Rattle.wiphosega.proofs.sends.deliveries_of.Goals as goal

pub slice_bounds-write-end : goal.slice_bounds-write-end
slice_bounds-write-end g c = sym (length-replicate {0} {A = ℕ} 532480 0)

pub slice_bounds-first-end : goal.slice_bounds-first-end
slice_bounds-first-end g c = sym (c.write.auto.out ∙ length-replicate {0} {A = ℕ} 532480 0)
