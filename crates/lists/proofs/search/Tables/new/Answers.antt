-- `new` meets its contract: the test is the definition's.
-- Assumes nothing.
use mathlib.Core.Path.{refl, sym, ◌∙◌}
use Rattle.lists.specs.Lists.{tables_formed}
use Rattle.lists.proofs.search.Tables.new.Goals as goal

pub invariant_of-result : goal.invariant_of-result
unfolding tables_formed
invariant_of-result c = record { formed = ∣ record { size = c.args.size; some = c.requires; formed = sym c.keeps.ensures ∙ c.if-keeps.true } ∣₁ }

pub returns-then-keeps : goal.returns-then-keeps
unfolding tables_formed
returns-then-keeps c = (sym c.keeps.ensures ∙ c.if-keeps.true, refl, refl)

pub returns-else-keeps : goal.returns-else-keeps
unfolding tables_formed
returns-else-keeps c = sym c.keeps.ensures ∙ c.if-keeps.false
