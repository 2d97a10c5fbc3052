-- `Page::put_field` meets its contract: a figure has at most twenty digits.
-- Assumes nothing.
use native.Mathlib.Omega.{arith}
use Rattle.ledger.proofs.Digits.{decimal_most}
use Rattle.ledger.proofs.Fields.{field_put}
use Rattle.ledger.proofs.line.Page.put_field.Goals as goal

pub put_text-requires : goal.put_text-requires
put_text-requires c = let most = decimal_most c.args.figure in omega arith

pub returns : goal.returns
returns c = field_put c.put_number.ensures c.put_text.ensures
