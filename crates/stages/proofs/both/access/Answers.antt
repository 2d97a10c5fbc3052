-- `access` meets its contract: it begins, or it stops at once.
-- Assumes nothing.
use mathlib.Core.Path.{sym, ◌∙◌}
use native.Mathlib.Omega.{arith}
use Rattle.stages.proofs.Openings.{opens_stopped}
use Rattle.stages.proofs.both.access.Goals as goal

pub returns-else-passed : goal.returns-else-passed
returns-else-passed g c =
    rw (c.first.ensures, c.stopped.ensures)
    ((opens_stopped _ _ _ _ _ _ c.opening_of-o.ensures (sym c.passed.ensures ∙ c.if-passed.false), omega arith))
