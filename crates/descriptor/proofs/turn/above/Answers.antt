-- `turn::above` meets its contract.
-- Assumes nothing.
use lib.Pow.{pow_mono}
use Rattle.bits.proofs.Shifts.{one_shl}
use Rattle.bits.proofs.Tests.{choices}
use native.Mathlib.Omega.{arith}
use Rattle.descriptor.proofs.turn.above.Goals as goal

pub overflow_sub-result : goal.overflow_sub-result
overflow_sub-result c = rw (one_shl c.args.size (omega arith)) (omega (arith, pow_mono {i = c.args.size} {j = 48} (omega arith)))

pub returns-then-size-le48 : goal.returns-then-size-le48
returns-then-size-le48 c = rw (one_shl c.args.size (omega arith)) (search choices)
