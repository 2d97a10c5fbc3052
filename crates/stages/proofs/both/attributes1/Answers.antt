-- `attributes1` meets its contract, by those of what it calls.
-- Assumes nothing.
use Rattle.bits.specs.Bits.{pick}
use Rattle.stages.proofs.both.attributes1.Goals as goal

pub returns-then-on : goal.returns-then-on
unfolding pick
returns-then-on c = rw (c.if-on.true, ← c.uncached1.ensures, ← c.stage1_attributes.ensures) c.settled_part.ensures

pub returns-else-on : goal.returns-else-on
unfolding pick
returns-else-on c = rw (c.if-on.false, ← c.is_fetch.ensures) c.stage1_off_attributes.ensures
