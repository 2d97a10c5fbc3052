-- `Decoder::leaf` meets its contract.
-- Assumes nothing.
use Rattle.bits.proofs.Tests.{choices}
use Rattle.descriptor.proofs.Turns.{settled_leaf}
use Rattle.descriptor.proofs.turn.Decoder.leaf.Goals as goal

pub returns-then-outside : goal.returns-then-outside
returns-then-outside c = rw (settled_leaf c.args.self.now.geometry c.args.n c.args.x c.requires) (search choices)

pub returns-else-outside : goal.returns-else-outside
returns-else-outside c = rw (settled_leaf c.args.self.now.geometry c.args.n c.args.x c.requires) (search choices)
