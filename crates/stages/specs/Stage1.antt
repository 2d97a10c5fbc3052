-- Stage 1 of an access, from what registers say of both stages (01, Walk, Attributes, Checks; the order is Arm's).
-- Arm's pseudocode has it as AArch64.FirstStageTranslate.
-- Assumes nothing.
use Rattle.std.specs.Prelude.{Bool, true, not, ◌&&◌, ◌||◌, ℕ, suc, ◌-◌, ◌/◌, ◌%◌, ◌^◌, eqb, Ok}
use Rattle.bits.specs.Bits.{pick, bit}
use Rattle.reads.specs.Program.{done, bind}
use Rattle.access.specs.Access.{is_fetch}
use Rattle.access.specs.declared.Access.{Access}
use Rattle.attributes.specs.Attributes.{is_device, stage1_attributes, stage1_off_attributes}
use Rattle.descriptor.specs.Permission.{stage1_permits}
use Rattle.descriptor.specs.declared.entry.FaultKind.TheVariants as F
use Rattle.walk.specs.Walk.{Reading, fault, unsettled, walk_from}
use Rattle.walk.specs.Checks.{unless, settled, misaligned, permitted, give}
use Rattle.walk.specs.Stage2.{translate2}
use Rattle.walk.specs.declared.stop.Stage.TheVariants.{One}
use Rattle.walk.specs.declared.stop.Stop.TheVariants.{Misaligned}
use Rattle.walk.specs.declared.table.Leaf.{Leaf}
use Rattle.walk.specs.Root.{Root, unusable}
use Rattle.walk.specs.declared.check.Output.{Output}
use Rattle.walk.specs.Checked.{Checked}
use Rattle.walk.specs.declared.stage2.Stage2.{Stage2}
use Rattle.stages.specs.declared.stage1.VaRange.{VaRange}
use Rattle.stages.specs.declared.stage1.Stage1.{Stage1}

-- where a stage 1 descriptor lies: with stage 2 on, its address is translated first (01, Walk, stage 1 with stage 2 on; AArch64.SecondStageWalk)
unfoldable pub place1 : Stage2 → Access → ℕ → Reading ℕ
place1 s a at = pick s.on (bind (translate2 s a true at) (λ o. done o.address)) (done at)

-- the highest address bit that counts, by TBI and address bit 55 (01, Walk, Top; AddrTop)
abbrev pub top : Stage1 → ℕ → ℕ
top s a = pick (pick (bit a 55) s.tbi1 s.tbi0) 55 63

-- bit Top picks the VA range
abbrev pub is_upper : Stage1 → ℕ → Bool
is_upper s a = bit a (top s a)

abbrev pub va_range : Stage1 → ℕ → VaRange
va_range s a = pick (is_upper s a) s.upper s.lower

-- bits Top down to the range's input size are all 0 in the lower range, and in the upper one all 1, as in an address of ones (01, Walk, input size)
abbrev pub in_range : Stage1 → ℕ → Bool
in_range s a =
    let t = suc (top s a) in
    let n = (va_range s a).inputsize in
    eqb (a % 2 ^ t / 2 ^ n) (pick (is_upper s a) ((2 ^ t - 1) / 2 ^ n) 0)

-- the root for an address
abbrev pub root1_at : Stage1 → ℕ → Root
root1_at s a = pick (in_range s a) (va_range s a).root (unusable F.Translation 0)

-- C counts for data, I for a fetch (01, Attributes, stage 1)
abbrev pub uncached1 : Stage1 → Access → Bool
uncached1 s a = not (pick (is_fetch a) s.i s.c)

-- permission, then a fetch from Device memory (01, Checks; AArch64.InstructionDevice)
abbrev pub denied1 : Stage1 → Access → (device : Bool) → Leaf → Bool
denied1 s a device l = not (stage1_permits s.wxn a l.inherited l.word) || (device && is_fetch a)

-- the checks after stage 1's walk (01, Checks)
unfoldable pub check1 : Stage1 → Access → Leaf → Checked
check1 s a l =
    settled (unsettled One l.level)
    (λ attrs.
    let device = is_device attrs.memory in
    permitted One a.address l (misaligned a device) (denied1 s a device l) attrs)
    (stage1_attributes s.mair (uncached1 s a) l.word)

-- stage 1 off: the address as it is, if its bits Top down to PAMax are 0; no permission is tested (01, Attributes, stage 1 off; Checks; AArch64.TranslateAddressS1Off)
unfoldable pub stage1_off : Stage1 → Access → Checked
stage1_off s a =
    let attrs = stage1_off_attributes s.dc (is_fetch a) s.i in
    unless (not (eqb (a.address % 2 ^ suc (top s a.address) / 2 ^ s.pamax) 0)) (fault F.AddressSize One 0)
    (unless (misaligned a (is_device attrs.memory)) (Misaligned One)
    (Ok (record { address = a.address % 2 ^ 48; attributes = attrs; level = 0 })))

-- from the root for this address
unfoldable pub translate1 : Stage1 → Root → Stage2 → Access → Reading Output
translate1 s root s2 a =
    pick s.on (bind (walk_from (place1 s2 a) One a.address root) (λ l. give (check1 s a l))) (give (stage1_off s a))
