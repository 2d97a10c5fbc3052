-- `Decoder::contiguous` meets its contract.
-- Assumes nothing.
use lib.Dec.{eqb, ltb}
use Rattle.descriptor.proofs.Masks.{and_contiguous}
use Rattle.descriptor.proofs.turn.Decoder.contiguous.Goals as goal

pub returns : goal.returns
returns c =
    let g = c.args.self.now.geometry in
    rw c.args.self.now.made (and_contiguous c.args.x (eqb c.args.n g.block) (ltb g.inputsize g.contiguous))
