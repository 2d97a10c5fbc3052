-- `check2` meets its contract, by the class of the leaf's memory.
-- Assumes nothing.
use mathlib.Core.Path.{◌≡◌, refl}
use mathlib.Core.Bool.{Bool, true, false, not, ◌&&◌, ◌||◌}
use Rattle.bits.specs.Bits.{pick}
use Rattle.walk.specs.Stage2.{uncached2}
use Rattle.walk.specs.Ends.{tested, verdict}
use Rattle.walk.specs.Prepared.{stage2_of}
use Rattle.walk.specs.declared.end.Ending.TheVariants.{Permission, Passed}
use Rattle.walk.proofs.stage2.check2.Goals as goal

-- Normal memory is neither misaligned nor refused
normal : (w p : Bool) → pick p Passed Permission ≡ tested (not w && false) (not p || false)
unfolding pick
normal true true = refl
normal true false = refl
normal false true = refl
normal false false = refl

pub returns-in-Unsettled : goal.returns-in-Unsettled
unfolding pick verdict
returns-in-Unsettled c =
    let z = c.args in
    rw (← c.stage2_class-class.ensures (uncached2 (stage2_of z.p) z.a.access z.onwalk), c.in-Unsettled.is)

pub returns-then-onwalk-unaligned : goal.returns-then-onwalk-unaligned
unfolding pick verdict
returns-then-onwalk-unaligned c =
    let z = c.args in
    rw (← c.stage2_class-class.ensures (uncached2 (stage2_of z.p) z.a.access z.onwalk), c.in-Device.is, ← c.unaligned.ensures, c.if-onwalk-unaligned.true)

pub returns-then-stage2_permits-refused2 : goal.returns-then-stage2_permits-refused2
unfolding pick verdict
returns-then-stage2_permits-refused2 c =
    let z = c.args in
    rw (← c.stage2_class-class.ensures (uncached2 (stage2_of z.p) z.a.access z.onwalk), c.in-Device.is, ← c.unaligned.ensures, c.if-onwalk-unaligned.false, ← c.stage2_permits.ensures, ← c.refused2.ensures, c.if-stage2_permits-refused2.true)

pub returns-else-stage2_permits-refused2 : goal.returns-else-stage2_permits-refused2
unfolding pick verdict
returns-else-stage2_permits-refused2 c =
    let z = c.args in
    rw (← c.stage2_class-class.ensures (uncached2 (stage2_of z.p) z.a.access z.onwalk), c.in-Device.is, ← c.unaligned.ensures, c.if-onwalk-unaligned.false, ← c.stage2_permits.ensures, ← c.refused2.ensures, c.if-stage2_permits-refused2.false)

pub returns-then-stage2_permits : goal.returns-then-stage2_permits
unfolding pick verdict
returns-then-stage2_permits c =
    let z = c.args in
    rw (← c.stage2_class-class.ensures (uncached2 (stage2_of z.p) z.a.access z.onwalk), c.in-Normal.is, ← c.stage2_permits-in-Normal.ensures, ← normal z.onwalk c.stage2_permits-in-Normal.result, c.if-stage2_permits.true)

pub returns-else-stage2_permits : goal.returns-else-stage2_permits
unfolding pick verdict
returns-else-stage2_permits c =
    let z = c.args in
    rw (← c.stage2_class-class.ensures (uncached2 (stage2_of z.p) z.a.access z.onwalk), c.in-Normal.is, ← c.stage2_permits-in-Normal.ensures, ← normal z.onwalk c.stage2_permits-in-Normal.result, c.if-stage2_permits.false)
