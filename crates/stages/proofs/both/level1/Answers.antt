-- `level1` meets its contract, by whether stage 1 is on.
-- Assumes nothing.
use native.Mathlib.Omega.{arith}
use Rattle.bits.specs.Bits.{pick}
use Rattle.stages.proofs.both.level1.Goals as goal

pub returns-then-left-lt3 : goal.returns-then-left-lt3
unfolding pick
returns-then-left-lt3 c = rw c.if-on.true

pub returns-else-left-lt3 : goal.returns-else-left-lt3
unfolding pick
returns-else-left-lt3 c = rw c.if-on.true (omega (arith, c.if-left-lt3.false))

pub returns-else-on : goal.returns-else-on
unfolding pick
returns-else-on c = rw c.if-on.false
