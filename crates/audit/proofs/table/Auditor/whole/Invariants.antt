-- `whole` goes over the entries of a table that the part in front has not.
-- Assumes nothing.
use Rattle.audit.specs.Calls.{found_in, entry_lies}
use Rattle.audit.proofs.table.Auditor.whole.Given as goal

abbrev pub ghost-each_entry : goal.ghost-each_entry
ghost-each_entry a = let s = a.says.0.now in entry_lies (found_in s.memory) a.says.1.now
