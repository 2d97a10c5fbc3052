-- `in_order` meets its contract: a pair that fits and is led by the last leaves the verdict to those after it.
-- Assumes nothing.
use lib.ListN.{length}
use Rattle.lists.specs.Lists.{zip}
use Rattle.lists.proofs.Orders.{Deciding}
use Rattle.lists.proofs.order.in_order.Given as goal

abbrev pub invariant-loop-first : goal.invariant-loop-first
invariant-loop-first g l =
    (goal.iterator-loop-first g).can_next l.first-iterator × (goal.iterator-loop-first g).is_finite l.first-iterator
    × Deciding (g.R.Rule.fitting l.rule) g.R.Rule.leading (zip l.firsts l.seconds) l.last (length l.yielded)
