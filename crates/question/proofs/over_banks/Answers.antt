-- `over_banks` meets its contract: what the file has of its banks is read, and a file that is not accepted is refused.
-- Assumes nothing.
use Rattle.std.proofs.Common.{sym, ◌∙◌}
use Rattle.std.proofs.lemmas.Result.{err_from_is_err_and}
use Rattle.answers.proofs.Tried.{had, lacked}
use Rattle.question.proofs.Telling.{core_tells, core_refused}
use Rattle.question.proofs.over_banks.Goals as goal

pub returns-in_err-memory : goal.returns-in_err-memory
returns-in_err-memory c =
    let p = err_from_is_err_and c.from_residual.result c.from_residual.ensures.1 in
    let none = lacked c.core.result _ _ (sym c.ok_or.ensures.value ∙ c.in_err-memory.was) in
    rw (p.1, p.2, none.1) (core_refused _ _ _ _ _ (sym (rw none.0 at c.core.ensures.found)))

pub returns : goal.returns
returns c =
    let some = had c.core.result _ _ (sym c.ok_or.ensures.value ∙ c.in_ok-memory.was) in
    core_tells _ _ _ _ _ (sym (rw some at c.core.ensures.found)) (rw some at c.core.ensures.high) (c.over.ensures _ (rw some at c.core.ensures.finds))
