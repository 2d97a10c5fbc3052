-- For the contracts of code: what an end in plain words stands for.
-- Assumes nothing.
use Rattle.attributes.specs.declared.Attributes.{Attributes}
use Rattle.std.specs.Prelude.{Bool, true, false, ℕ, Option}
use Rattle.bits.specs.Bits.{pick}
use Rattle.reads.specs.Program.{Outcome, reached, stopped}
use Rattle.attributes.specs.Attributes.{settled_part}
use Rattle.attributes.specs.declared.MemoryClass.{MemoryClass}
use Rattle.attributes.specs.declared.MemoryClass.TheVariants as C
use Rattle.descriptor.specs.declared.entry.FaultKind.{FaultKind}
use Rattle.descriptor.specs.declared.entry.FaultKind.TheVariants as F
use Rattle.descriptor.specs.declared.entry.Turn.{Turn}
use Rattle.descriptor.specs.declared.entry.Turn.TheVariants as T
use Rattle.walk.specs.Walk.{fault, absent, unsettled}
use Rattle.walk.specs.declared.stop.Stage.{Stage}
use Rattle.walk.specs.declared.stop.Stop.{Stop}
use Rattle.walk.specs.declared.stop.Stop.TheVariants as S
use Rattle.walk.specs.declared.check.Output.{Output}
use Rattle.walk.specs.declared.end.Ending.{Ending}
use Rattle.walk.specs.declared.end.Ending.TheVariants.{Passed, Translation, AddressSize, AccessFlag, Permission, Misaligned, Absent, Unsettled}
use Rattle.walk.specs.declared.end.End.{End}

abbrev pub passed : Ending → Bool
passed Passed = true
passed Translation = false
passed AddressSize = false
passed AccessFlag = false
passed Permission = false
passed Misaligned = false
passed Absent = false
passed Unsettled = false

unfoldable pub faulted : FaultKind → Ending
faulted F.Translation = Translation
faulted F.AddressSize = AddressSize
faulted F.AccessFlag = AccessFlag
faulted F.Permission = Permission

abbrev pub stopped_by : Ending → (level count : ℕ) → End
stopped_by ending level count = record { ending = ending; address = 0; word = 0; level = level; count = count }

-- the stop of a stage; one that passed has none
unfoldable pub stop_by : Stage → (address level : ℕ) → Ending → Stop
stop_by s address level Passed = unsettled s level
stop_by s address level Translation = fault F.Translation s level
stop_by s address level AddressSize = fault F.AddressSize s level
stop_by s address level AccessFlag = fault F.AccessFlag s level
stop_by s address level Permission = fault F.Permission s level
stop_by s address level Misaligned = S.Misaligned s
stop_by s address level Absent = absent address s level
stop_by s address level Unsettled = unsettled s level

-- the value of one that passed, or the stop
unfoldable pub outcome : {A : Type 0} → Stage → A → End → Outcome Stop A
outcome s v e = pick (passed e.ending) (reached v) (stopped (stop_by s e.address e.level e.ending))

-- what one stage makes of its input, if `decoded` says what a leaf's descriptor is decoded to
abbrev pub ended : Stage → (decoded : ℕ → Option Attributes) → End → Outcome Stop Output
ended s decoded e = outcome s (record { address = e.address; attributes = settled_part (decoded e.word); level = e.level }) e

-- ---- turns

abbrev pub leads_down : Turn → Bool
leads_down T.Down = true
leads_down T.Leaf = false
leads_down T.Translation = false
leads_down T.AddressSize = false
leads_down T.AccessFlag = false
leads_down T.Permission = false
leads_down T.Unsettled = false

abbrev pub is_leaf : Turn → Bool
is_leaf T.Down = false
is_leaf T.Leaf = true
is_leaf T.Translation = false
is_leaf T.AddressSize = false
is_leaf T.AccessFlag = false
is_leaf T.Permission = false
is_leaf T.Unsettled = false

abbrev pub over : Turn → Ending
over T.Down = Passed
over T.Leaf = Passed
over T.Translation = Translation
over T.AddressSize = AddressSize
over T.AccessFlag = AccessFlag
over T.Permission = Permission
over T.Unsettled = Unsettled

-- ---- checks

-- the two tests after a walk, in their order
abbrev pub tested : (misaligned denied : Bool) → Ending
tested misaligned denied = pick misaligned Misaligned (pick denied Permission Passed)

-- what the checks after a walk leave, by the class of the leaf's memory; both tests go by whether it is Device memory
unfoldable pub verdict : (misaligned denied : (device : Bool) → Bool) → MemoryClass → Ending
verdict misaligned denied C.Unsettled = Unsettled
verdict misaligned denied C.Device = tested (misaligned true) (denied true)
verdict misaligned denied C.Normal = tested (misaligned false) (denied false)
