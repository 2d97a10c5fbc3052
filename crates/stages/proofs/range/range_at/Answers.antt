-- `range_at` meets its contract.
-- Assumes nothing.
use borrow.Author.Tests.{lt-ltb, le-ltb, le-leb, lt-leb}
use Rattle.bits.specs.Bits.{pick}
use Rattle.stages.specs.Ranges.{range_at}
use Rattle.stages.proofs.range.range_at.Goals as goal

pub returns-then-counted-b : goal.returns-then-counted-b
unfolding pick range_at
returns-then-counted-b c =
    rw (← c.bit.ensures, c.if-bit.true, ← c.counted.ensures _ c.requires.1, lt-ltb _ _ c.if-counted-b.true)

pub returns-else-counted-b : goal.returns-else-counted-b
unfolding pick range_at
returns-else-counted-b c =
    rw (← c.bit.ensures, c.if-bit.true, ← c.counted.ensures _ c.requires.1, le-ltb _ _ c.if-counted-b.false)

pub returns-then-b-counted : goal.returns-then-b-counted
unfolding pick range_at
returns-then-b-counted c =
    rw (← c.bit.ensures, c.if-bit.false, ← c.counted-else-bit.ensures _ c.requires.0, le-leb _ _ c.if-b-counted.true)

pub returns-else-b-counted : goal.returns-else-b-counted
unfolding pick range_at
returns-else-b-counted c =
    rw (← c.bit.ensures, c.if-bit.false, ← c.counted-else-bit.ensures _ c.requires.0, lt-leb _ _ c.if-b-counted.false)
