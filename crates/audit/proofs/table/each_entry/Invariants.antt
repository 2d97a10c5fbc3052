-- `each_entry` meets its contract: an entry that is clean leaves the answer to those after it.
-- Assumes nothing.
use Rattle.std.specs.Prelude.{◌≡◌, ◌+◌, ◌*◌}
use Rattle.audit.proofs.Calls.{Left}
use Rattle.audit.proofs.table.each_entry.Given as goal

abbrev pub invariant-loop-i : goal.invariant-loop-i
invariant-loop-i g l = Left g.finds l.entries l.table l.i × (l.at ≡ l.table + 8 * l.i)
