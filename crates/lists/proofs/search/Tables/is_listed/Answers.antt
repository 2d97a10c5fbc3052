-- `is_listed` meets its contract: some pair is the table at the level.
-- Assumes nothing.
use contract.BorrowLft.{⊑_meet, ⊑_static}
use mathlib.Core.Path.{◌∙◌}
use Rattle.std.proofs.Common.{rules}
use Rattle.lists.proofs.Pairs.{tables_same}
use Rattle.lists.proofs.Searches.{listed_any}
use Rattle.lists.proofs.search.Tables.is_listed.Goals as goal

pub any-requires : goal.any-requires
any-requires c κs within = (
  search (⊑_meet, ⊑_static, within.0, within.1.0) depth 40 fits 5000,
  (tables_same _ _ c.args.self.now.formed, (λ i less. search rules, λ i r less said. search rules)),
)

pub returns : goal.returns
returns c = c.any.ensures ∙ listed_any _ c.args.table c.args.level
