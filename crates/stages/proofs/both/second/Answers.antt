-- `second` meets its contract: stage 2 translates, or leaves the IPA as it is.
-- Assumes nothing.
use Rattle.std.proofs.Common.{arith}
use Rattle.stages.proofs.Calls.{seconded_on, seconded_off}
use Rattle.stages.proofs.both.second.Goals as goal

pub returns-then-on : goal.returns-then-on
returns-then-on g c = (seconded_on _ _ _ _ c.if-on.true _ _ c.translate2.ensures.0, c.translate2.ensures.1)

pub returns-else-on : goal.returns-else-on
returns-else-on g c = (seconded_off _ _ _ _ _ c.if-on.false, omega arith)
