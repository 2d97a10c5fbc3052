-- `Half::started` meets its contract: its start stands for the range's root.
-- Assumes nothing.
use Rattle.std.proofs.Common.{refl}
use Rattle.walk.proofs.Ends.{starts_root}
use Rattle.regime.proofs.Ready.{range_narrow}
use Rattle.regime.proofs.Half.started.Goals as goal

pub returns : goal.returns
returns c =
    let root = starts_root _ _ c.start.ensures in
    (rw root refl, (rw root c.start.ensures, rw root (range_narrow c.args.output c.args.self c.requires)))
