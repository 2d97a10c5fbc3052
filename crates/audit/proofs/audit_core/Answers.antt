-- `audit_core` meets its contract: what the file has of its banks is audited, and a file that is not accepted is refused; and demand 3
-- holds of every audit.
-- Assumes nothing.
use Rattle.std.proofs.Common.{sym, ◌∙◌}
use Rattle.std.proofs.lemmas.Result.{err_from_is_err_and}
use Rattle.answers.proofs.Tried.{had, lacked}
use Rattle.audit.proofs.Confinement.{confinement}
use Rattle.audit.proofs.Telling.{core_told, core_refused}
use Rattle.audit.proofs.audit_core.Goals as goal

pub returns-in_err-memory-clause-told : goal.returns-in_err-memory-clause-told
returns-in_err-memory-clause-told c =
    let p = err_from_is_err_and c.from_residual.result c.from_residual.ensures.1 in
    let none = lacked c.core.result _ _ (sym c.ok_or.ensures.value ∙ c.in_err-memory.was) in
    rw (p.1, p.2, none.1) (core_refused _ _ _ _ _ _ (sym (rw none.0 at c.core.ensures.found)))

pub returns-in_err-memory-clause-confined : goal.returns-in_err-memory-clause-confined
returns-in_err-memory-clause-confined c = λ other. confinement _ _ _ _ _ _ _ _

pub returns-clause-told : goal.returns-clause-told
returns-clause-told c =
    let some = had c.core.result _ _ (sym c.ok_or.ensures.value ∙ c.in_ok-memory.was) in
    core_told _ _ _ _ _ _ (sym (rw some at c.core.ensures.found)) (rw some at c.core.ensures.high) (c.over.ensures _ (rw some at c.core.ensures.finds))

pub returns-clause-confined : goal.returns-clause-confined
returns-clause-confined c = λ other. confinement _ _ _ _ _ _ _ _
