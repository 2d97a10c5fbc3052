-- `fits` meets its contract, by those of what it calls.
-- Assumes nothing.
use Rattle.lists.specs.Lists.{table_fits}
use Rattle.lists.proofs.TableRuleRule.fits.Goals as goal

pub returns : goal.returns
unfolding table_fits
returns c = rw (c.is_multiple.ensures, c.ends_low.ensures)
