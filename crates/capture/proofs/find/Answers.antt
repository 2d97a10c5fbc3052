-- `find` meets its contract: the part that it looks into is the only one that may have the descriptor.
-- Assumes nothing.
use Rattle.std.proofs.Common.{◌≡◌, ◌-◌, ◌<◌, arith}
use Rattle.capture.proofs.Searches.{none_placed, last_placed}
use Rattle.capture.proofs.find.Goals as goal

pub returns-in_err-last : goal.returns-in_err-last
returns-in_err-last c = λ file o.
    rw c.from_residual.ensures (none_placed c.starting_by.ensures file o (omega (arith, c.in_err-last.ensures)))

pub returns : goal.returns
returns c = λ file o.
    let some : 0 < c.starting_by.result = omega (arith, c.in_ok-last.ensures) in
    let at : c.in_ok-last.last ≡ c.starting_by.result - 1 = omega (arith, c.in_ok-last.ensures) in
    rw (c.spot.ensures, at) (last_placed c.starting_by.ensures file o some _)
