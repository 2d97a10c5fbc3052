-- `touches` meets its contract: some pair is a grant that shares one.
-- Assumes nothing.
use contract.BorrowLft.{⊑_meet, ⊑_static}
use mathlib.Core.Path.{◌∙◌}
use Rattle.std.proofs.Common.{rules}
use Rattle.lists.proofs.Pairs.{grants_same, grant_end_at}
use Rattle.lists.proofs.Searches.{touches_any}
use Rattle.lists.proofs.search.Grants.touches.Goals as goal

pub any-requires : goal.any-requires
any-requires c κs within = (
  search (⊑_meet, ⊑_static, within.0, within.1.0) depth 40 fits 5000,
  (grants_same _ _ c.args.self.now.formed, (λ i less. let ends = grant_end_at _ _ c.args.self.now.formed i less in search rules, λ i r less said. search rules)),
)

pub returns : goal.returns
returns c = c.any.ensures ∙ touches_any _ c.args.address c.args.n
