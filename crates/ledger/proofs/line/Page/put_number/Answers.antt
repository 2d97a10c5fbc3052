-- `Page::put_number` meets its contract: the digits still to be written are those of what is left of the number.
-- Assumes nothing.
use borrow.Author.Rules.{rules}
use native.Mathlib.Omega.{arith}
use Rattle.ledger.proofs.Digits.{numbering_start, numbering_next, numbering_done}
use Rattle.ledger.proofs.line.Page.put_number.Goals as goal

pub loop-rest-init : goal.loop-rest-init
loop-rest-init c = numbering_start _ _ _ (search rules)

pub loop-rest-preserved : goal.loop-rest-preserved
loop-rest-preserved c =
    numbering_next _ _ _ c.requires (omega arith) _ _ _ _ (omega arith) c.digit.ensures c.loop-rest.invariant

pub returns : goal.returns
returns c =
    numbering_done _ _ _ c.requires (omega arith) _ _ _ _ (omega arith) c.digit-2.ensures c.loop-rest.invariant
