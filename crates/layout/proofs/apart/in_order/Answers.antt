-- `in_order` meets its contract: a bank that stands past the one before it leaves the verdict to those after it.
-- Assumes nothing.
use borrow.Author.Tests.{le-leb, lt-leb}
use Rattle.std.proofs.lemmas.List.{drop_all}
use Rattle.layout.specs.Calls.{in_order}
use Rattle.layout.proofs.apart.in_order.Invariants.{step}
use Rattle.layout.proofs.apart.in_order.Goals as goal

pub returns-then-p-end : goal.returns-then-p-end
returns-then-p-end c = step _ _ _ _ _ c.loop-bank-test.true c.loop-bank.invariant c.part-p.ensures (lt-leb _ _ c.if-p-end.true)

pub loop-bank-preserved : goal.loop-bank-preserved
loop-bank-preserved c = step _ _ _ _ _ c.loop-bank-test.true c.loop-bank.invariant c.part-p.ensures (le-leb _ _ c.if-p-end.false)

pub returns : goal.returns
unfolding in_order
returns c = rw (drop_all _ _ c.loop-bank-test.false) at c.loop-bank.invariant
