-- `granule2` meets its contract: what any code says is granular. Assumes nothing.
use Rattle.level.proofs.Granules.{tg0_granular}
use Rattle.regime.proofs.granule2.Goals as goal

pub returns : goal.returns
returns c = (rw (← c.tg0.ensures) c.by_tg0.ensures, rw c.by_tg0.ensures (tg0_granular _))
