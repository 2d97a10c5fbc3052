-- `counted` meets its contract.
-- Assumes nothing.
use Rattle.stages.proofs.Ranges.{and_ones}
use Rattle.stages.proofs.range.counted.Goals as goal

pub returns : goal.returns
returns c = λ tbi e. rw e (and_ones c.args.a tbi c.ranges.a.fits)
