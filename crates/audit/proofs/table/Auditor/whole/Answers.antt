-- `whole` meets its contract: the part in front has each entry, or each is looked for.
-- Assumes nothing.
use contract.BorrowLft.{⊑_meet, ⊑_static}
use mathlib.Core.Path.{sym, ◌∙◌}
use Rattle.std.proofs.Common.{rules, of_calls}
use Rattle.audit.proofs.Calls.{all_lie}
use Rattle.audit.proofs.table.Auditor.whole.Goals as goal

pub returns-then-has : goal.returns-then-has
returns-then-has c = all_lie _ _ _ _ _ _ (sym c.has.ensures ∙ c.if-has.true)

pub each_entry-requires : goal.each_entry-requires
each_entry-requires c κs within =
    (search (⊑_meet, ⊑_static, within.0, within.1.0, within.1.1.0) depth 40 fits 5000, (search rules, (search of_calls, λ at r less said. search rules)))
