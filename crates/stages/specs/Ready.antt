-- For the contracts of code: a VA range with which walks of stage 1 may start.
-- Assumes nothing.
use Rattle.std.proofs.Props.{props}
use Rattle.std.specs.Prelude.{◌≡◌, Bool, true}
use Rattle.walk.specs.Calls.{Starts, root_of}
use Rattle.walk.specs.Starts.{starts_prop}
use Rattle.stages.specs.Ranges.{Narrow}
use Rattle.stages.specs.declared.prepared.StartedRange.{StartedRange}

abbrev pub Ready : StartedRange → Type 0
Ready r = Starts r.start (root_of r.start) × Narrow (record { inputsize = r.inputsize; root = root_of r.start })

-- it is a fact with at most one proof
pub ready_prop : (on : Bool) (l u : StartedRange) → IsProp (on ≡ true → Ready l × Ready u)
ready_prop on l u = hlevel (props, starts_prop l.start (root_of l.start), starts_prop u.start (root_of u.start))
