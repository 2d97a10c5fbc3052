-- `core` meets its contract: the parts that were laid out are read.
-- Assumes nothing.
use Rattle.layout.proofs.Core.{held, laid_captured}
use Rattle.layout.proofs.memories.core.Goals as goal

pub invariant_of-result : goal.invariant_of-result
invariant_of-result c = record { held = held c.lay_out.ensures c.in_ok-laid.was c.if-laid.false }

pub returns-clause-finds : goal.returns-clause-finds
returns-clause-finds c = laid_captured c.lay_out.ensures c.in_ok-laid.was
