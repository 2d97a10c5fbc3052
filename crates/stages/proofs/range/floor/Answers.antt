-- `floor` meets its contract: no address of ones has a bit at or past 64.
-- Assumes nothing.
use native.Mathlib.Nat.{zero-mul}
use Rattle.bits.proofs.Shifts.{shifted_out}
use Rattle.stages.proofs.Ranges.{ones_64}
use Rattle.stages.proofs.range.floor.Goals as goal

pub returns-else-inputsize-lt64 : goal.returns-else-inputsize-lt64
returns-else-inputsize-lt64 c = simp (shifted_out (ones_64 c.args.tbi) c.if-inputsize-lt64.false, zero-mul)
