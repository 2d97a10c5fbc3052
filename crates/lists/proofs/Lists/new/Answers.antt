-- `new` meets its contract: the lists are well formed where the grants are and the tables are.
-- Assumes nothing.
use borrow.Author.Rules.{rules}
use Rattle.lists.specs.Lists.{well_formed}
use Rattle.lists.proofs.Lists.new.Goals as goal

pub returns-in_err-new : goal.returns-in_err-new
unfolding well_formed
returns-in_err-new c = rw (c.in_err-new.ensures) (search rules)

pub returns-in_err-new-2 : goal.returns-in_err-new-2
unfolding well_formed
returns-in_err-new-2 c = rw (c.in_ok-new.ensures.0, c.in_err-new-2.ensures) (search rules)

pub returns : goal.returns
unfolding well_formed
returns c = rw (c.in_ok-new.ensures.0, c.in_ok-new-2.ensures.0) (search rules)
