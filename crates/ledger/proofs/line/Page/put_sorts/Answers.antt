-- `Page::put_sorts` meets its contract: the four fields, and that each has room before the one written last.
-- Assumes nothing.
use Rattle.ledger.specs.Ledger.{ascii}
use Rattle.ledger.proofs.Fields.{sorts_put}
use Rattle.ledger.proofs.line.Page.put_sorts.Goals as goal

pub returns : goal.returns
unfolding ascii
returns c =
    sorts_put c.args.l c.put_field.ensures c.put_field-2.ensures c.put_field-3.ensures c.put_field-4.ensures
