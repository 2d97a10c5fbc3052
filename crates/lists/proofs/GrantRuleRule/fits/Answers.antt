-- `fits` meets its contract, by those of what it calls.
-- Assumes nothing.
use Rattle.lists.specs.Lists.{grant_fits}
use Rattle.lists.proofs.GrantRuleRule.fits.Goals as goal

pub returns : goal.returns
unfolding grant_fits
returns c = rw (c.whole_frames.ensures, c.whole_frames-2.ensures, c.ends_low.ensures)
