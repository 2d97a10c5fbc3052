-- `leads` meets its contract: a grant that fits ends by 2^48.
-- Assumes nothing.
use native.Mathlib.Omega.{arith}
use mathlib.Core.Path.{refl}
use Rattle.lists.specs.Lists.{grant_before}
use Rattle.lists.proofs.Pairs.{grant_ends}
use Rattle.lists.proofs.GrantRuleRule.leads.Goals as goal

pub overflow_add-result : goal.overflow_add-result
overflow_add-result c = omega (arith, grant_ends _ c.requires)

pub returns : goal.returns
unfolding grant_before
returns c = refl
