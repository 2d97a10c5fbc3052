-- `each` meets its contract: what is stored from an address on is what is stored from the first.
-- Assumes nothing.
use mathlib.Core.Path.{◌∙◌}
use native.Mathlib.Omega.{arith}
use Rattle.answers.proofs.Entries.{ran_number, ran_output}
use Rattle.accesses.proofs.Filling.{filling_next, filling_done}
use Rattle.accesses.proofs.Runs.{runs_next, runs_left, runs_ended, runs_none}
use Rattle.accesses.proofs.each.Goals as goal

pub loop-i-preserved : goal.loop-i-preserved
loop-i-preserved g c =
    let less = c.loop-i-test.true in
    let ran = c.access-last.ensures.0 in (
      filling_next _ _ _ _ _ _ less (c.output_of.ensures ∙ ran_output _ _ _ _ _ ran) c.loop-i.invariant.0,
      filling_next _ _ _ _ _ _ less (c.ending_number.ensures ∙ ran_number _ _ _ _ _ ran) c.loop-i.invariant.1,
      runs_next _ _ _ _ _ _ c.loop-i.invariant.2 (omega (arith, less)) ran,
    )

pub returns : goal.returns
returns g c =
    let p = c.requires in
    let over = c.loop-i-test.false in
    record {
      placed = filling_done _ _ _ _ _ over p.2 c.loop-i.invariant.0;
      numbered = filling_done _ _ _ _ _ over p.3 c.loop-i.invariant.1;
      left = runs_left _ _ _ _ _ _ c.loop-i.invariant.2 over;
      ended = runs_ended _ _ _ _ _ _ c.loop-i.invariant.2 over;
      none = runs_none _ _ _ _ _ _ c.loop-i.invariant.2 over;
    }
