-- `Page::put_number` meets its contract: the digits still to be written are those of what is left of the number.
-- Assumes nothing.
use Rattle.ledger.proofs.Digits.{Numbering}
use Rattle.ledger.proofs.line.Page.put_number.Given as goal

abbrev pub invariant-loop-rest : goal.invariant-loop-rest
invariant-loop-rest l = Numbering l.n l.initial.here l.initial.self.bytes l.self.bytes l.here l.rest

abbrev pub decreases-loop-rest : goal.decreases-loop-rest
decreases-loop-rest l = l.rest
