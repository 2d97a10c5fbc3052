-- `table_of` meets its contract: a mask keeps the bits of the base.
-- Assumes nothing.
use Prim.Native.Nat.{◌+◌, ◌≤◌}
use native.Mathlib.Numerals.{add-one}
use native.Mathlib.Omega.{arith}
use Rattle.bits.proofs.Shifts.{one_shl}
use Rattle.descriptor.proofs.Masks.{and_table}
use Rattle.regime.proofs.table_of.Goals as goal

pub returns : goal.returns
returns c =
    let few : (c.saturating_sub-width.result ≤ 17) = rw c.saturating_sub-width.ensures c.requires.2.bits in
    rw (one_shl (3 + c.saturating_sub-width.result) (omega (arith, few)), and_table c.args.register (3 + c.saturating_sub-width.result) (omega (arith, few)))
    (simp (add-one, c.saturating_sub-width.ensures))
