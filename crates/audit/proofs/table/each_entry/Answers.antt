-- `each_entry` meets its contract: an entry that is clean leaves the answer to those after it.
-- Assumes nothing.
use native.Mathlib.Omega.{arith}
use Rattle.std.proofs.lemmas.Result.{err_from_is_err_and}
use Rattle.audit.proofs.Calls.{left_next, left_found, left_none}
use Rattle.audit.proofs.table.each_entry.Goals as goal

pub returns-in_err-says : goal.returns-in_err-says
returns-in_err-says g c =
    let w = c.loop-i.invariant in
    let said = c.requires.1.1.1 c.loop-i.at _ (omega arith) c.in_err-says.ensures in
    let p = err_from_is_err_and c.from_residual.result c.from_residual.ensures.1 in
    rw (p.1, p.2) (left_found _ _ _ _ w.0 c.loop-i-test.true _ (rw w.1 at said))

pub loop-i-preserved : goal.loop-i-preserved
loop-i-preserved g c =
    let w = c.loop-i.invariant in
    let said = c.requires.1.1.1 c.loop-i.at _ (omega arith) c.in_ok-says.ensures in
    (left_next _ _ _ _ w.0 c.loop-i-test.true (rw w.1 at said), omega (arith, w.1))

pub returns : goal.returns
returns g c = left_none _ _ _ _ c.loop-i.invariant.0 (omega arith)
