-- `Page::put_line` meets its contract: the first figure before the others.
-- Assumes nothing.
use native.Mathlib.Omega.{arith}
use Rattle.ledger.specs.Ledger.{ascii}
use Rattle.ledger.proofs.Fields.{sorts_most, line_put}
use Rattle.ledger.proofs.line.Page.put_line.Goals as goal

pub put_field-requires : goal.put_field-requires
put_field-requires c = let most = sorts_most c.args.l in omega arith

pub returns : goal.returns
unfolding ascii
returns c = line_put _ c.put_sorts.ensures c.put_field.ensures
