-- `spot` meets its contract: eight bytes are in the part where one of the places is.
-- Assumes nothing.
use Rattle.bits.proofs.Tests.{choices}
use Rattle.std.proofs.Common.{rules}
use Rattle.bits.specs.Bits.{pick}
use Rattle.capture.proofs.Part.spot.Goals as goal

pub returns-then-at-saturating_sub : goal.returns-then-at-saturating_sub
unfolding pick
returns-then-at-saturating_sub c = search (rules, choices)

pub returns-else-at-saturating_sub : goal.returns-else-at-saturating_sub
unfolding pick
returns-else-at-saturating_sub c = search (rules, choices)
