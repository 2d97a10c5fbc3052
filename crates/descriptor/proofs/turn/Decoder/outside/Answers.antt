-- `Decoder::outside` meets its contract.
-- Assumes nothing.
use Rattle.descriptor.proofs.Masks.{beyond_above}
use Rattle.descriptor.proofs.turn.Decoder.outside.Goals as goal

pub returns : goal.returns
returns c = let d = c.args.self.now in rw d.made (beyond_above c.args.x d.geometry.outputsize)
