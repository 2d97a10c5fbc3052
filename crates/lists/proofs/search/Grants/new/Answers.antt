-- `new` meets its contract: the test is the definition's.
-- Assumes nothing.
use mathlib.Core.Path.{sym, ◌∙◌}
use Rattle.lists.specs.Lists.{grants_formed}
use Rattle.lists.proofs.search.Grants.new.Goals as goal

pub invariant_of-result : goal.invariant_of-result
unfolding grants_formed
invariant_of-result c = record { formed = sym c.keeps.ensures ∙ c.if-keeps.true }

pub returns-else-keeps : goal.returns-else-keeps
unfolding grants_formed
returns-else-keeps c = sym c.keeps.ensures ∙ c.if-keeps.false
