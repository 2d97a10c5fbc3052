-- `lone` meets its contract: a bank that is alone is one part, with none behind it.
-- Assumes nothing.
use Rattle.layout.proofs.Core.{lone_leads, lone_captured}
use Rattle.layout.proofs.memories.lone.Goals as goal

pub invariant_of-one : goal.invariant_of-one
invariant_of-one c = record { leads = lone_leads c.lone_bank.ensures c.in_ok-lone.was c.if-lone.false }

pub returns-clause-finds : goal.returns-clause-finds
returns-clause-finds c =
    let a = c.as_parts.ensures in
    rw (a.0, a.1, a.2) (lone_captured c.lone_bank.ensures c.in_ok-lone.was)
