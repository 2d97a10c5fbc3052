-- `ones` meets its contract.
-- Assumes nothing.
use mathlib.Core.Path.{refl}
use Rattle.bits.proofs.Tests.{then, else}
use Rattle.stages.proofs.range.ones.Goals as goal

pub returns-then-tbi : goal.returns-then-tbi
returns-then-tbi c = then _ _ _ _ c.if-tbi.true refl

pub returns-else-tbi : goal.returns-else-tbi
returns-else-tbi c = else _ _ _ _ c.if-tbi.false refl
