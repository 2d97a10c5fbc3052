-- Where a walk starts: at a table, or at the fault that every walk from there meets before it reads (01, Walk).
-- Assumes nothing.
use Rattle.std.specs.Prelude.{ℕ, Result, Err}
use Rattle.descriptor.specs.declared.entry.FaultKind.{FaultKind}
use Rattle.walk.specs.declared.table.RootFault.{RootFault}
use Rattle.walk.specs.declared.table.Table.{Table}

abbrev pub Root : Type 0
Root = Result Table RootFault

abbrev pub unusable : FaultKind → ℕ → Root
unusable kind level = Err (record { kind = kind; level = level })
