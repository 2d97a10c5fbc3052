-- `is_listed` looks for the table at the level.
-- Assumes nothing.
use mathlib.Core.Bool.{◌&&◌}
use lib.Dec.{eqb}
use Rattle.lists.proofs.search.Tables.is_listed.Given as goal

abbrev pub ghost-any : goal.ghost-any
ghost-any a = λ e. eqb e.0 a.passes.0.now && eqb e.1 a.passes.1.now
