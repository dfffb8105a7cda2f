-- `packing::put_packed` meets its contract. Assumes nothing.
use Rattle.packing.proofs.Bytes.{packed-put}
use Rattle.packing.proofs.put_packed.Goals as goal

pub returns : goal.returns
returns c =
    let h = c.bytes_of in
    let w = c.bytes_of-n in
    packed-put c.args.rho c.args.words.now c.args.out.now h.new.bytes w.new.bytes h.result w.result c.requires.0 c.requires.1 h.ensures.count h.ensures.content w.ensures.count w.ensures.content
