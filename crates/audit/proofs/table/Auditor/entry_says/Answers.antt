-- `entry_says` meets its contract, by what the read finds.
-- Assumes nothing.
use Rattle.reads.specs.Program.{stage_2}
use Rattle.audit.specs.Audit.{examine}
use Rattle.audit.proofs.table.Auditor.entry_says.Goals as goal

pub returns-in-None : goal.returns-in-None
unfolding examine
returns-in-None c = rw (← c.read.ensures stage_2, c.in-None.is)

pub returns-in-Some : goal.returns-in-Some
unfolding examine
returns-in-Some c = rw (← c.read.ensures stage_2, c.in-Some.is) c.examine.ensures
