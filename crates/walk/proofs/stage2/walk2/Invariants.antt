-- `walk2` meets its contract: whatever finishes the walk from an entry finishes the whole.
-- Assumes nothing.
use Prim.Native.Nat.{◌+◌, ◌≤◌, ◌<◌}
use lib.ListN.{length}
use Rattle.reads.specs.Program.{done}
use Rattle.descriptor.specs.Entry.{nothing}
use Rattle.walk.specs.declared.stop.Stage.TheVariants.{Two}
use Rattle.walk.proofs.Turns.{entering, Walking}
use Rattle.walk.proofs.stage2.walk2.Given as goal

abbrev pub invariant-loop-x : goal.invariant-loop-x
invariant-loop-x g l =
    Walking (g.M.Memory.finds l.memory) done l.p.start.geometry (Two l.ipa l.onwalk) l.ipa (entering (g.M.Memory.finds l.memory) done l.p.start.geometry (Two l.ipa l.onwalk) l.ipa l.initial.left l.initial.at nothing) l.initial.log l.count l.log l.k l.left l.shift l.at nothing
    × (l.k + l.left ≤ l.count + l.initial.left) × (l.k < length l.initial.log)

abbrev pub decreases-loop-x : goal.decreases-loop-x
decreases-loop-x g l = l.left
