-- `Decoder::next_entry` meets its contract: the masks keep the table's address and the index.
-- Assumes nothing.
use native.Mathlib.Omega.{arith}
use lib.Bits.{and_mask}
use Rattle.descriptor.proofs.Masks.{and_table}
use Rattle.descriptor.proofs.turn.Decoder.next_entry.Goals as goal

pub returns : goal.returns
returns c = let d = c.args.self.now in rw (d.made, and_mask, and_table c.args.x d.geometry.grainsize (omega (arith, d.small)))
