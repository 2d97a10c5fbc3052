-- `stage2_class` meets its contract.
-- Assumes nothing.
use Rattle.bits.proofs.Tests.{choices}
use Rattle.attributes.proofs.Classes.{codes_class}
use Rattle.attributes.proofs.stage2_class.Goals as goal

pub returns-then-field-eq0 : goal.returns-then-field-eq0
returns-then-field-eq0 c = λ u. rw (codes_class, ← c.field.ensures) (search choices)

pub returns-then-field-eq0-2 : goal.returns-then-field-eq0-2
returns-then-field-eq0-2 c = λ u. rw (codes_class, ← c.field-else-field-eq0.ensures, ← c.field.ensures) (search choices)

pub returns-else-field-eq0-2 : goal.returns-else-field-eq0-2
returns-else-field-eq0-2 c = λ u. rw (codes_class, ← c.field-else-field-eq0-2.ensures, ← c.field-else-field-eq0.ensures, ← c.field.ensures) (search choices)
