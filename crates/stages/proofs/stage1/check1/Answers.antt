-- `check1` meets its contract, by the class of the leaf's memory.
-- Assumes nothing.
use mathlib.Core.Path.{◌≡◌, refl}
use mathlib.Core.Bool.{Bool, true, false, not, ◌||◌}
use Rattle.bits.specs.Bits.{pick}
use Rattle.walk.specs.Ends.{tested, verdict}
use Rattle.walk.specs.declared.end.Ending.TheVariants.{Permission, Passed}
use Rattle.stages.specs.Stage1.{uncached1}
use Rattle.stages.specs.Prepared.{stage1_of}
use Rattle.stages.proofs.stage1.check1.Goals as goal

-- Normal memory is never misaligned
normal : (p : Bool) → pick p Passed Permission ≡ tested false (not p || false)
unfolding pick
normal true = refl
normal false = refl

pub returns-in-Unsettled : goal.returns-in-Unsettled
unfolding pick verdict
returns-in-Unsettled c =
    let z = c.args in
    rw (← c.stage1_class-class.ensures (uncached1 (stage1_of z.p) z.a.access), c.in-Unsettled.is)

pub returns-then-unaligned : goal.returns-then-unaligned
unfolding pick verdict
returns-then-unaligned c =
    let z = c.args in
    rw (← c.stage1_class-class.ensures (uncached1 (stage1_of z.p) z.a.access), c.in-Device.is, ← c.unaligned.ensures, c.if-unaligned.true)

pub returns-then-stage1_permits-is_fetch : goal.returns-then-stage1_permits-is_fetch
unfolding pick verdict
returns-then-stage1_permits-is_fetch c =
    let z = c.args in
    rw (← c.stage1_class-class.ensures (uncached1 (stage1_of z.p) z.a.access), c.in-Device.is, ← c.unaligned.ensures, c.if-unaligned.false, ← c.imposed.ensures, ← c.stage1_permits.ensures, ← c.is_fetch.ensures, c.if-stage1_permits-is_fetch.true)

pub returns-else-stage1_permits-is_fetch : goal.returns-else-stage1_permits-is_fetch
unfolding pick verdict
returns-else-stage1_permits-is_fetch c =
    let z = c.args in
    rw (← c.stage1_class-class.ensures (uncached1 (stage1_of z.p) z.a.access), c.in-Device.is, ← c.unaligned.ensures, c.if-unaligned.false, ← c.imposed.ensures, ← c.stage1_permits.ensures, ← c.is_fetch.ensures, c.if-stage1_permits-is_fetch.false)

pub returns-then-stage1_permits : goal.returns-then-stage1_permits
unfolding pick verdict
returns-then-stage1_permits c =
    let z = c.args in
    rw (← c.stage1_class-class.ensures (uncached1 (stage1_of z.p) z.a.access), c.in-Normal.is, ← c.imposed-in-Normal.ensures, ← c.stage1_permits-in-Normal.ensures, ← normal c.stage1_permits-in-Normal.result, c.if-stage1_permits.true)

pub returns-else-stage1_permits : goal.returns-else-stage1_permits
unfolding pick verdict
returns-else-stage1_permits c =
    let z = c.args in
    rw (← c.stage1_class-class.ensures (uncached1 (stage1_of z.p) z.a.access), c.in-Normal.is, ← c.imposed-in-Normal.ensures, ← c.stage1_permits-in-Normal.ensures, ← normal c.stage1_permits-in-Normal.result, c.if-stage1_permits.false)
