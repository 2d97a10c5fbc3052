-- `by_stage2` meets its contract.
-- Assumes nothing.
use Rattle.bits.specs.Bits.{pick}
use Rattle.stages.proofs.both.by_stage2.Goals as goal

pub returns-then-onwalk : goal.returns-then-onwalk
unfolding pick
returns-then-onwalk c = rw c.if-onwalk.true

pub returns-else-onwalk : goal.returns-else-onwalk
unfolding pick
returns-else-onwalk c = rw c.if-onwalk.false
