-- `upper` meets its contract.
-- Assumes nothing.
use native.Mathlib.Nat.{zero-mul}
use Rattle.bits.proofs.Shifts.{shifted_out, low_48}
use Rattle.bits.proofs.upper.Goals as goal

pub returns-else-low-lt48 : goal.returns-else-low-lt48
returns-else-low-lt48 c = simp (shifted_out (low_48 c.args.x) c.if-low-lt48.false, zero-mul)
