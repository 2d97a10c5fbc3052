-- `prepared2` meets its contract, by those of what it calls.
-- Assumes nothing.
use Rattle.walk.proofs.Ends.{starts_root}
use Rattle.regime.proofs.prepared2.Goals as goal

pub invariant_of-result : goal.invariant_of-result
invariant_of-result c = record { masked = λ on. c.above.ensures; started = rw (starts_root _ _ c.start2_if_on.ensures) c.start2_if_on.ensures }

pub returns : goal.returns
returns c = let root = starts_root _ _ c.start2_if_on.ensures in cc
