-- What the checks after a walk leave of it: an output, or a stop.
-- Assumes nothing.
use Rattle.std.specs.Prelude.{Result}
use Rattle.walk.specs.declared.check.Output.{Output}
use Rattle.walk.specs.declared.stop.Stop.{Stop}

abbrev pub Checked : Type 0
Checked = Result Output Stop
