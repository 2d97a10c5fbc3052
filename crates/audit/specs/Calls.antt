-- For the contracts of code: what code finds, as an answer, the lists that it is given, and what a table's entries say, one by one.
-- Assumes nothing.
use Rattle.std.specs.Prelude.{List, ℕ, Some, None, Result, Ok, Err, Option}
use Rattle.reads.specs.Program.{Request}
use Rattle.capture.specs.Calls.{captured}
use Rattle.capture.specs.declared.view.Parts.{Parts}
use Rattle.descriptor.specs.declared.entry.Geometry.{Geometry}
use Rattle.lists.specs.Lists.{zip}
use Rattle.lists.specs.declared.Lists.{Lists}
use Rattle.audit.specs.Audit.{AuditAnswer, stage2_read, missing, examine}
use Rattle.audit.specs.declared.Finding.{Finding}

-- code that goes on where nothing is found
abbrev pub answered : Result (Unit {0}) Finding → AuditAnswer
answered (Ok u) = Ok None
answered (Err f) = Ok (Some f)

-- what code reads of the parts of a file
abbrev pub found_in : Parts → Request → Option ℕ
found_in p = captured p.front p.parts.now p.file.now

-- the pairs of lists that are well formed
abbrev pub grants_in : Lists → List (ℕ × ℕ)
grants_in l = zip l.grants.addresses.now l.grants.counts.now

abbrev pub tables_in : Lists → List (ℕ × ℕ)
tables_in l = zip l.tables.addresses.now l.tables.levels.now

-- what the entry at an address says, and whether it is in the capture
abbrev pub entry_says : (Request → Option ℕ) → Geometry → (grants tables : List (ℕ × ℕ)) → (n at : ℕ) → AuditAnswer
entry_says m g grants tables n a = examine g grants tables n a (m (stage2_read a))

abbrev pub entry_lies : (Request → Option ℕ) → (table at : ℕ) → AuditAnswer
entry_lies m table a = missing table (m (stage2_read a))
