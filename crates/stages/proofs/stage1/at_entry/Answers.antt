-- `at_entry` meets its contract, by what the entry is.
-- Assumes nothing.
use Rattle.bits.specs.Bits.{pick}
use Rattle.stages.proofs.stage1.at_entry.Goals as goal

pub returns-then-is_leaf : goal.returns-then-is_leaf
unfolding pick
returns-then-is_leaf c = rw (← c.is_leaf.ensures, c.if-is_leaf.true) c.check1.ensures

pub returns-else-is_leaf : goal.returns-else-is_leaf
unfolding pick
returns-else-is_leaf c = rw (← c.is_leaf.ensures, c.if-is_leaf.false) c.over.ensures
