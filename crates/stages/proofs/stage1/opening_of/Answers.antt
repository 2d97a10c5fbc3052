-- `opening_of` meets its contract: from the start for the address, or with stage 1 off at its output.
-- Assumes nothing.
use Rattle.walk.proofs.Ends.{starts_within}
use Rattle.stages.specs.Stage1.{root1_at}
use Rattle.stages.specs.Prepared.{stage1_of}
use Rattle.stages.proofs.stage1.opening_of.Goals as goal

pub first_entry-requires : goal.first_entry-requires
first_entry-requires c =
    let z = c.args in
    let w = starts_within c.start_at-start.result (root1_at (stage1_of z.p) z.a.access.address) c.start_at-start.ensures in
    (w.shift, w.bits, w.base)
