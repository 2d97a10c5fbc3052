-- That a start stands for a root is a fact with at most one proof.
-- Assumes nothing.
use Rattle.std.proofs.Props.{props}
use Rattle.std.specs.Prelude.{Ok, Err}
use Rattle.walk.specs.Root.{Root}
use Rattle.walk.specs.declared.start.Start.{Start}
use Rattle.walk.specs.Calls.{Starts}

pub starts_prop : (p : Start) (r : Root) → IsProp (Starts p r)
starts_prop p (Err u) = hlevel props
starts_prop p (Ok t) = hlevel props
