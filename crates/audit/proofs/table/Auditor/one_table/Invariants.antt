-- `one_table` goes over the entries: what each says.
-- Assumes nothing.
use Rattle.audit.specs.Calls.{found_in, grants_in, tables_in, entry_says}
use Rattle.audit.proofs.table.Auditor.one_table.Given as goal

abbrev pub ghost-each_entry : goal.ghost-each_entry
ghost-each_entry a =
    let s = a.says.0.now in
    entry_says (found_in s.memory) a.says.1.now (grants_in s.lists) (tables_in s.lists) a.says.2.now
