-- `entry::output_address` meets its contract: the two parts do not overlap, so the sum fits.
-- Assumes nothing.
use native.Mathlib.Nat.{le_of_lt}
use native.Mathlib.Omega.{arith}
use lib.Pow.{pow_mono}
use lib.Bits.{and_mask}
use Rattle.bits.proofs.Shifts.{one_shl}
use Rattle.descriptor.proofs.Masks.{and_table}
use Rattle.descriptor.proofs.entry.output_address.Goals as goal

pub overflow_sub-result : goal.overflow_sub-result
overflow_sub-result c = rw (one_shl c.args.t (omega (arith, c.requires))) (omega (arith, pow_mono {i = c.args.t} {j = 48} (le_of_lt c.requires)))

pub returns : goal.returns
returns c = rw (one_shl c.args.t (omega (arith, c.requires)), and_table c.args.x c.args.t (le_of_lt c.requires), and_mask c.args.input c.args.t)
