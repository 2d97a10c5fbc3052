-- `from_root` meets its contract: the root, and then the listed tables.
-- Assumes nothing.
use mathlib.Core.Path.{sym, ◌∙◌}
use Rattle.std.proofs.lemmas.Result.{err_from_is_err_and}
use Rattle.audit.specs.Audit.{audit_from}
use Rattle.audit.proofs.Calls.{or_clean, or_found}
use Rattle.audit.proofs.table.from_root.Goals as goal

pub returns-in_err-one_table : goal.returns-in_err-one_table
unfolding audit_from
returns-in_err-one_table c =
    let p = err_from_is_err_and c.from_residual.result c.from_residual.ensures.1 in
    rw (p.1, p.2) (sym (or_found _ _ _ c.in_err-one_table.ensures))

pub returns : goal.returns
unfolding audit_from
returns c = c.listed_tables.ensures ∙ sym (or_clean _ _ c.in_ok-one_table.ensures)
