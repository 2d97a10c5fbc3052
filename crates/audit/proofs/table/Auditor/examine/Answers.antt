-- `examine` meets its contract, by the type of the descriptor.
-- Assumes nothing.
use Rattle.bits.specs.Bits.{pick}
use Rattle.audit.specs.Audit.{examine_as}
use Rattle.audit.proofs.table.Auditor.examine.Goals as goal

pub returns-in-Invalid : goal.returns-in-Invalid
unfolding examine_as
returns-in-Invalid c = rw (← c.descriptor_type.ensures, c.in-Invalid.is)

pub returns-then-is_listed : goal.returns-then-is_listed
unfolding examine_as pick
returns-then-is_listed c = rw (← c.descriptor_type.ensures, c.in-Table.is, ← c.upper-next.ensures, ← c.is_listed.ensures, c.if-is_listed.true)

pub returns-else-is_listed : goal.returns-else-is_listed
unfolding examine_as pick
returns-else-is_listed c =
    rw (← c.descriptor_type.ensures, c.in-Table.is, ← c.upper-next.ensures, ← c.is_listed.ensures, c.if-is_listed.false, c.at.ensures)

pub returns-then-granted : goal.returns-then-granted
unfolding examine_as pick
returns-then-granted c =
    rw (← c.descriptor_type.ensures, c.in-Leaf.is, ← c.upper.ensures, ← c.two_to.ensures, ← c.granted.ensures, c.if-granted.true)

pub returns-else-granted : goal.returns-else-granted
unfolding examine_as pick
returns-else-granted c =
    rw (← c.descriptor_type.ensures, c.in-Leaf.is, ← c.upper.ensures, ← c.two_to.ensures, ← c.granted.ensures, c.if-granted.false, c.at-else-granted.ensures)
