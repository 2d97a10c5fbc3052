-- `reached_by` meets its contract, by what ended the access.
-- Assumes nothing.
use mathlib.Core.Path.{sym, ◌∙◌}
use Rattle.walk.proofs.Ends.{outcome_passed, outcome_stopped}
use Rattle.stages.specs.Calls.{outcome_of, arrived}
use Rattle.stages.proofs.both.reached_by.Goals as goal

pub returns-then-passed : goal.returns-then-passed
unfolding outcome_of arrived
returns-then-passed c =
    rw (← c.attributes1.ensures, ← c.combined.ensures, ← c.level1.ensures) (sym (outcome_passed _ _ _ (sym c.passed.ensures ∙ c.if-passed.true)))

pub returns-else-passed : goal.returns-else-passed
unfolding outcome_of arrived
returns-else-passed c =
    rw (c.stop_by.ensures, c.stage_of.ensures) (sym (outcome_stopped _ _ _ (sym c.passed.ensures ∙ c.if-passed.false)))
