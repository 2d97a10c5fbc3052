-- `combined` meets its contract, by those of what it calls.
-- Assumes nothing.
use Rattle.bits.specs.Bits.{pick}
use Rattle.stages.proofs.both.combined.Goals as goal

pub returns-then-on : goal.returns-then-on
unfolding pick
returns-then-on c = rw (c.if-on.true, ← c.uncached2.ensures, ← c.stage2_attributes.ensures, ← c.settled_part-two.ensures) c.combine.ensures

pub returns-else-on : goal.returns-else-on
unfolding pick
returns-else-on c = rw c.if-on.false
