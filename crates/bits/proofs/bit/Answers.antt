-- `bit` meets its contract: past the end every bit is clear.
-- Assumes nothing.
use borrow.Author.Tests.{le-ltb}
use Rattle.bits.proofs.Shifts.{shifted_out}
use Rattle.bits.proofs.bit.Goals as goal

pub returns-else-i-lt64 : goal.returns-else-i-lt64
returns-else-i-lt64 c = simp (le-ltb _ _ c.if-i-lt64.false, shifted_out c.ranges.x.fits c.if-i-lt64.false)
