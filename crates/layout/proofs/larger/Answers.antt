-- `larger` meets its contract: its test is that of the definition.
-- Assumes nothing.
use mathlib.Core.Path.{sym}
use Rattle.bits.proofs.Tests.{pick_true, pick_false, told_le, told_lt}
use Rattle.layout.proofs.larger.Goals as goal

pub returns-then-kept : goal.returns-then-kept
returns-then-kept c = sym (pick_true _ _ _ (told_le c.kept.ensures c.kept-2.ensures c.if-kept.true))

pub returns-else-kept : goal.returns-else-kept
returns-else-kept c = sym (pick_false _ _ _ (told_lt c.kept.ensures c.kept-2.ensures c.if-kept.false))
