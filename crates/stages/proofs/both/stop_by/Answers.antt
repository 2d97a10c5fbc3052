-- `stop_by` meets its contract, by what ended it.
-- Assumes nothing.
use Rattle.walk.specs.Ends.{stop_by}
use Rattle.stages.proofs.both.stop_by.Goals as goal

pub returns-in-Passed : goal.returns-in-Passed
unfolding stop_by
returns-in-Passed c = rw c.in-Passed.is

pub returns-in-Translation : goal.returns-in-Translation
unfolding stop_by
returns-in-Translation c = rw c.in-Translation.is c.fault_at.ensures

pub returns-in-AddressSize : goal.returns-in-AddressSize
unfolding stop_by
returns-in-AddressSize c = rw c.in-AddressSize.is c.fault_at-in-AddressSize.ensures

pub returns-in-AccessFlag : goal.returns-in-AccessFlag
unfolding stop_by
returns-in-AccessFlag c = rw c.in-AccessFlag.is c.fault_at-in-AccessFlag.ensures

pub returns-in-Permission : goal.returns-in-Permission
unfolding stop_by
returns-in-Permission c = rw c.in-Permission.is c.fault_at-in-Permission.ensures

pub returns-in-Misaligned : goal.returns-in-Misaligned
unfolding stop_by
returns-in-Misaligned c = rw c.in-Misaligned.is

pub returns-in-Absent : goal.returns-in-Absent
unfolding stop_by
returns-in-Absent c = rw c.in-Absent.is

pub returns-in-Unsettled : goal.returns-in-Unsettled
unfolding stop_by
returns-in-Unsettled c = rw c.in-Unsettled.is
