-- `output_of` meets its contract.
-- Assumes nothing.
use Rattle.bits.specs.Bits.{pick}
use Rattle.accesses.proofs.output_of.Goals as goal

pub returns-then-passed : goal.returns-then-passed
unfolding pick
returns-then-passed c = rw (← c.passed.ensures, c.if-passed.true)

pub returns-else-passed : goal.returns-else-passed
unfolding pick
returns-else-passed c = rw (← c.passed.ensures, c.if-passed.false)
