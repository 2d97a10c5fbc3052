-- `entry_lies` meets its contract, by what the read finds.
-- Assumes nothing.
use Rattle.reads.specs.Program.{stage_2}
use Rattle.audit.specs.Audit.{missing}
use Rattle.audit.proofs.table.Auditor.entry_lies.Goals as goal

pub returns-in-None : goal.returns-in-None
unfolding missing
returns-in-None c = rw (← c.read.ensures stage_2, c.in-None.is, c.at.ensures)

pub returns-in-Some : goal.returns-in-Some
unfolding missing
returns-in-Some c = rw (← c.read.ensures stage_2, c.in-Some.is)
