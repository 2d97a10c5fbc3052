-- `prepared1_at` meets its contract, by those of what it calls.
-- Assumes nothing.
use Rattle.regime.proofs.Settings.{pamax_small, half_sound}
use Rattle.regime.proofs.prepared1_at.Goals as goal

pub started-range-requires : goal.started-range-requires
started-range-requires c = rw c.of-half.ensures (half_sound _ _ c.requires c.stage1_on.ensures _)

pub with_ranges-requires : goal.with_ranges-requires
with_ranges-requires c = (pamax_small _ _ c.requires, c.started-range.ensures.1, c.started-range.ensures.1)
