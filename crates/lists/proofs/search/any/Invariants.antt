-- `any` meets its contract: where no pair before passes, those from here on decide.
-- Assumes nothing.
use Rattle.lists.specs.Lists.{zip}
use Rattle.lists.proofs.Searches.{Searching}
use Rattle.lists.proofs.search.any.Given as goal

abbrev pub invariant-loop-i : goal.invariant-loop-i
invariant-loop-i g l = Searching g.test (zip l.firsts l.seconds) l.i
