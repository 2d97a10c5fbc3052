-- `in_pamax` meets its contract.
-- Assumes nothing.
use Rattle.bits.specs.Bits.{pick}
use Rattle.stages.proofs.Ranges.{below_ceiling}
use Rattle.stages.proofs.range.in_pamax.Goals as goal

pub returns-then-bit : goal.returns-then-bit
unfolding pick
returns-then-bit c = λ n e.
    let tbi = c.args.b.tbi1 in
    rw (c.counted.ensures tbi c.requires.1, ← c.bit.ensures, c.if-bit.true) (below_ceiling _ n tbi c.ranges.address.fits e)

pub returns-else-bit : goal.returns-else-bit
unfolding pick
returns-else-bit c = λ n e.
    let tbi = c.args.b.tbi0 in
    rw (c.counted-else-bit.ensures tbi c.requires.0, ← c.bit.ensures, c.if-bit.false) (below_ceiling _ n tbi c.ranges.address.fits e)
