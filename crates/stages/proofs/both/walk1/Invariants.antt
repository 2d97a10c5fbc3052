-- `walk1` meets its contract: whatever finishes the access from where it stands finishes the whole.
-- Assumes nothing.
use Prim.Native.Nat.{suc}
use Rattle.bits.specs.Bits.{pick}
use Rattle.walk.specs.Prepared.{stage2_of}
use Rattle.stages.specs.Prepared.{stage1_of}
use Rattle.stages.proofs.Calls.{Going}
use Rattle.stages.proofs.both.walk1.Given as goal

abbrev pub invariant-loop-walking : goal.invariant-loop-walking
invariant-loop-walking g l =
    Going (g.M.Memory.finds l.memory) (stage1_of l.p) (stage2_of l.q) l.a.access l.start.geometry l.initial.log l.log l.walking l.left l.shift l.ipa l.tables l.word1 l.k

-- the levels that are left, while there is a walk
abbrev pub decreases-loop-walking : goal.decreases-loop-walking
decreases-loop-walking g l = pick l.walking (suc l.left) 0
