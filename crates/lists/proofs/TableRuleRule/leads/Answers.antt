-- `leads` meets its contract, word by word.
-- Assumes nothing.
use mathlib.Core.Path.{refl}
use Rattle.lists.specs.Lists.{table_before}
use Rattle.lists.proofs.TableRuleRule.leads.Goals as goal

pub returns : goal.returns
unfolding table_before
returns c = refl
