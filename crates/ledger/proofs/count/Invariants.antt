-- `count` meets its contract: after so many turns each counter is how many of the numbers so far are below its bound, which a word holds.
-- Assumes nothing.
use Rattle.ledger.proofs.Figures.{Counting}
use Rattle.ledger.proofs.count.Given as goal

abbrev pub invariant-loop-number : goal.invariant-loop-number
invariant-loop-number l = Counting l.numbers l.below1 l.below6 l.below7 l.below8 l.number-index
