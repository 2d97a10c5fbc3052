-- `stage_of` meets its contract, by whose end it is.
-- Assumes nothing.
use Rattle.stages.specs.Calls.{stage_by}
use Rattle.stages.proofs.both.stage_of.Goals as goal

pub returns-in-First : goal.returns-in-First
unfolding stage_by
returns-in-First c = rw c.in-First.is

pub returns-in-OnWalk : goal.returns-in-OnWalk
unfolding stage_by
returns-in-OnWalk c = rw c.in-OnWalk.is

pub returns-in-Second : goal.returns-in-Second
unfolding stage_by
returns-in-Second c = rw c.in-Second.is
