-- `meets` meets its contract.
-- Assumes nothing.
use Rattle.capture.proofs.Lesser.{least_min}
use Rattle.layout.proofs.InOrder.{greatest_max}
use Rattle.layout.proofs.apart.meets.Goals as goal

pub returns : goal.returns
returns c = rw (greatest_max, least_min, c.max.ensures, c.min.ensures)
