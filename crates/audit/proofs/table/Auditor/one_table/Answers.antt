-- `one_table` meets its contract: finding 1, then 2, then what the entries say.
-- Assumes nothing.
use contract.BorrowLft.{⊑_meet, ⊑_static}
use mathlib.Core.Path.{sym, ◌∙◌}
use Rattle.std.proofs.Common.{rules, of_calls}
use Rattle.std.proofs.lemmas.Result.{err_from_is_err_and}
use Rattle.audit.proofs.Calls.{table_missing, table_touched, table_said}
use Rattle.audit.proofs.table.Auditor.one_table.Goals as goal

pub returns-in_err-whole : goal.returns-in_err-whole
returns-in_err-whole c =
    let p = err_from_is_err_and c.from_residual.result c.from_residual.ensures.1 in
    rw (p.1, p.2) (table_missing _ _ _ _ _ _ _ _ (rw c.two_to-entries.ensures at c.in_err-whole.ensures))

pub returns-then-touches : goal.returns-then-touches
returns-then-touches c =
    rw (c.at.ensures)
    (table_touched _ _ _ _ _ _ _ (rw c.two_to-entries.ensures at c.in_ok-whole.ensures) (rw (← c.two_to-entries.ensures) (sym c.touches.ensures ∙ c.if-touches.true)))

pub returns : goal.returns
returns c =
    let t = c.two_to-entries.ensures in
    rw t at c.each_entry.ensures
    ∙ table_said _ _ _ _ _ _ _ (rw t at c.in_ok-whole.ensures) (rw (← t) (sym c.touches.ensures ∙ c.if-touches.false))

pub each_entry-requires : goal.each_entry-requires
each_entry-requires c κs within =
    (search (⊑_meet, ⊑_static, within.0, within.1.0, within.1.1.0) depth 40 fits 5000, (search rules, (search of_calls, λ at r less said. search rules)))
