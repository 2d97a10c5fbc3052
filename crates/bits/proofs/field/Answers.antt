-- `field` meets its contract: past the end there is nothing, and a field of 64 bits and more is all that is left.
-- Assumes nothing.
use mathlib.Core.Path.{sym}
use Prim.Native.Nat.{◌^◌}
use native.Mathlib.Nat.{lt_of_le_of_lt, div-le_self, zero-mod}
use Rattle.bits.proofs.Shifts.{shifted_out, kept}
use Rattle.bits.proofs.field.Goals as goal

pub returns-else-n-lt64 : goal.returns-else-n-lt64
returns-else-n-lt64 c =
    let a = c.args in
    sym (kept (lt_of_le_of_lt (div-le_self a.x (2 ^ a.low)) c.ranges.x.fits) c.if-n-lt64.false)

pub returns-else-low-lt64 : goal.returns-else-low-lt64
returns-else-low-lt64 c = simp (shifted_out c.ranges.x.fits c.if-low-lt64.false, zero-mod)
