-- `mair_class` meets its contract.
-- Assumes nothing.
use Rattle.bits.proofs.Tests.{choices}
use Rattle.attributes.proofs.Classes.{mair_class}
use Rattle.attributes.proofs.mair_class.Goals as goal

pub returns-then-byte-eq0-2 : goal.returns-then-byte-eq0-2
returns-then-byte-eq0-2 c = λ u. rw mair_class (search choices)

pub returns-else-byte-eq0-2 : goal.returns-else-byte-eq0-2
returns-else-byte-eq0-2 c = λ u. rw mair_class (search choices)

pub returns-then-byte-eq0-3 : goal.returns-then-byte-eq0-3
returns-then-byte-eq0-3 c = λ u. rw mair_class (search choices)

pub returns-else-byte-eq0-3 : goal.returns-else-byte-eq0-3
returns-else-byte-eq0-3 c = λ u. rw mair_class (search choices)
