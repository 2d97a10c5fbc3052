-- `Decoder::turn` meets its contract.
-- Assumes nothing.
use Rattle.bits.specs.Bits.{pick}
use Rattle.bits.proofs.Tests.{choices, told}
use Rattle.descriptor.specs.Entry.{descriptor_type, decode_as}
use Rattle.descriptor.specs.Turn.{turn_of}
use Rattle.descriptor.proofs.Turns.{type_11}
use borrow.Author.Tests.{not-false}
use Rattle.descriptor.proofs.turn.Decoder.turn.Goals as goal

pub returns-then-not-bit : goal.returns-then-not-bit
unfolding pick descriptor_type decode_as turn_of
returns-then-not-bit c = rw (told c.bit.ensures c.if-not-bit.true)

pub returns-then-outside : goal.returns-then-outside
unfolding pick descriptor_type decode_as turn_of
returns-then-outside c = rw (type_11 c.args.self.now.geometry c.args.n c.args.x (search (told, not-false)) (search (told, not-false)) c.requires) (search choices)

pub returns-then-n-ne0 : goal.returns-then-n-ne0
unfolding pick descriptor_type decode_as turn_of
returns-then-n-ne0 c = rw (type_11 c.args.self.now.geometry c.args.n c.args.x (search (told, not-false)) (search (told, not-false)) c.requires) (search choices)

pub returns : goal.returns
unfolding pick descriptor_type decode_as turn_of
returns c = rw (type_11 c.args.self.now.geometry c.args.n c.args.x (search (told, not-false)) (search (told, not-false)) c.requires) (search choices)
