-- `uncached1` meets its contract.
-- Assumes nothing.
use Rattle.bits.specs.Bits.{pick}
use Rattle.stages.proofs.both.uncached1.Goals as goal

pub returns-then-is_fetch : goal.returns-then-is_fetch
unfolding pick
returns-then-is_fetch c = rw (← c.is_fetch.ensures, c.if-is_fetch.true)

pub returns-else-is_fetch : goal.returns-else-is_fetch
unfolding pick
returns-else-is_fetch c = rw (← c.is_fetch.ensures, c.if-is_fetch.false)
