-- `prepared1` meets its contract, by those of what it calls.
-- Assumes nothing.
use Rattle.regime.proofs.Settings.{pamax_small, lower_sound, upper_sound}
use Rattle.regime.proofs.prepared1.Goals as goal

pub started-lower-requires : goal.started-lower-requires
started-lower-requires c = rw c.lower.ensures (lower_sound _ _ c.requires c.stage1_on-on.ensures)

pub started-upper-requires : goal.started-upper-requires
started-upper-requires c = rw c.upper.ensures (upper_sound _ _ c.requires c.stage1_on-on.ensures)

pub with_ranges-requires : goal.with_ranges-requires
with_ranges-requires c = (pamax_small _ _ c.requires, c.started-lower.ensures.1, c.started-upper.ensures.1)
