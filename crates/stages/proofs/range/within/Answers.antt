-- `within` meets its contract.
-- Assumes nothing.
use borrow.Author.Tests.{lt-ltb, le-ltb}
use mathlib.Core.Path.{refl}
use Rattle.bits.proofs.Tests.{then, else}
use Rattle.bits.proofs.Shifts.{one_shl}
use Rattle.stages.proofs.range.within.Goals as goal

pub returns-then-inputsize-lt64 : goal.returns-then-inputsize-lt64
returns-then-inputsize-lt64 c = then _ _ _ _ (lt-ltb _ _ c.if-inputsize-lt64.true) (one_shl _ c.if-inputsize-lt64.true)

pub returns-else-inputsize-lt64 : goal.returns-else-inputsize-lt64
returns-else-inputsize-lt64 c = else _ _ _ _ (le-ltb _ _ c.if-inputsize-lt64.false) refl
