-- `listed_tables` meets its contract: a table that is clean leaves the answer to those after it.
-- Assumes nothing.
use lib.ListN.{length}
use Rattle.audit.specs.Calls.{found_in, grants_in, tables_in}
use Rattle.audit.proofs.Calls.{Listing}
use Rattle.audit.proofs.table.Auditor.listed_tables.Given as goal

abbrev pub invariant-loop-table : goal.invariant-loop-table
invariant-loop-table l =
    let s = l.self in
    Listing (found_in s.memory) l.geometry (grants_in s.lists) (tables_in s.lists) (length l.yielded)
