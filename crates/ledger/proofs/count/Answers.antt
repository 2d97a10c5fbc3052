-- `count` meets its contract: after so many turns each counter is how many of the numbers so far are below its bound, which a word holds.
-- Assumes nothing.
use native.Mathlib.Omega.{arith}
use Rattle.ledger.proofs.Figures.{counted_start, counted_next, counting_done, differences}
use Rattle.ledger.proofs.count.Goals as goal

pub loop-number-init : goal.loop-number-init
loop-number-init c = record { to1 = counted_start _ _; to6 = counted_start _ _; to7 = counted_start _ _; to8 = counted_start _ _ }

pub loop-number-preserved : goal.loop-number-preserved
loop-number-preserved c =
    let w = c.loop-number.invariant in
    record {
      to1 = counted_next (omega arith) w.to1 c.from-below1.ensures;
      to6 = counted_next (omega arith) w.to6 c.from-below6.ensures;
      to7 = counted_next (omega arith) w.to7 c.from-below7.ensures;
      to8 = counted_next (omega arith) w.to8 c.from-below8.ensures;
    }

pub overflow_sub-result : goal.overflow_sub-result
overflow_sub-result c = omega (arith, (counting_done (omega arith) c.loop-number.invariant).faulted)

pub overflow_sub-result-2 : goal.overflow_sub-result-2
overflow_sub-result-2 c = omega (arith, (counting_done (omega arith) c.loop-number.invariant).absent)

pub overflow_sub-result-3 : goal.overflow_sub-result-3
overflow_sub-result-3 c = omega (arith, (counting_done (omega arith) c.loop-number.invariant).unsettled)

pub returns : goal.returns
returns c = differences (counting_done (omega arith) c.loop-number.invariant)
