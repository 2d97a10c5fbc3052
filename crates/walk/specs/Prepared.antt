-- For the contracts of code: the stage that its words stand for.
-- Assumes nothing.
use Rattle.walk.specs.Calls.{root_of}
use Rattle.walk.specs.declared.stage2.Stage2.{Stage2}
use Rattle.walk.specs.declared.prepared.Prepared2.{Prepared2}

abbrev pub stage2_of : Prepared2 → Stage2
stage2_of p = record { on = p.on; inputsize = p.inputsize; root = root_of p.start; cd = p.cd; id = p.id; ptw = p.ptw }
