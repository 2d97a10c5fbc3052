-- `read_logged` meets its contract: the log has the address of what was there.
-- Assumes nothing.
use Rattle.std.proofs.Common.{rules}
use Rattle.reads.specs.Log.{logged}
use Rattle.capture.proofs.view.OnePartMemory.read_logged.Goals as goal

pub returns-in_err-word-clause-noted : goal.returns-in_err-word-clause-noted
unfolding logged
returns-in_err-word-clause-noted c = search rules

pub returns-clause-noted : goal.returns-clause-noted
unfolding logged
returns-clause-noted c = search rules
