-- Stage 2's translation of an IPA, from what registers say of the stage (01, Walk, Attributes, Checks; the order is Arm's).
-- Arm's pseudocode has it as AArch64.SecondStageTranslate.
-- Assumes nothing.
use Rattle.std.specs.Prelude.{Bool, not, ◌&&◌, ◌||◌, ℕ}
use Rattle.bits.specs.Bits.{pick, beyond}
use Rattle.reads.specs.Program.{done, bind}
use Rattle.access.specs.Access.{is_fetch}
use Rattle.access.specs.declared.Access.{Access}
use Rattle.attributes.specs.Attributes.{is_device, stage2_attributes}
use Rattle.descriptor.specs.Permission.{stage2_permits}
use Rattle.descriptor.specs.declared.entry.FaultKind.TheVariants.{Translation}
use Rattle.walk.specs.declared.stop.Stage.TheVariants.{Two}
use Rattle.walk.specs.declared.table.Leaf.{Leaf}
use Rattle.walk.specs.Root.{Root, unusable}
use Rattle.walk.specs.declared.check.Output.{Output}
use Rattle.walk.specs.Checked.{Checked}
use Rattle.walk.specs.declared.stage2.Stage2.{Stage2}
use Rattle.walk.specs.Walk.{Reading, unsettled, walk_from}
use Rattle.walk.specs.Checks.{settled, misaligned, permitted, give}

-- the root for an IPA, whose bits 47 down to the input size must be 0 (01, Walk, input size)
abbrev pub root2_at : Stage2 → ℕ → Root
root2_at s ipa = pick (beyond ipa s.inputsize) (unusable Translation 0) s.root

-- CD counts for data and on-walk, ID for a fetch's own walk (01, Attributes, stage 2)
abbrev pub uncached2 : Stage2 → Access → (is_on_walk : Bool) → Bool
uncached2 s a is_on_walk = pick (is_fetch a && not is_on_walk) s.id s.cd

-- Device memory is no place to fetch from, nor with PTW to walk in: both are permission faults (01, Checks; AArch64.InstructionDevice for the first)
abbrev pub refused2 : Stage2 → Access → (is_on_walk device : Bool) → Bool
refused2 s a is_on_walk device = device && (is_fetch a || (is_on_walk && s.ptw))

-- permission, then a fetch from Device memory, then PTW
abbrev pub denied2 : Stage2 → Access → (is_on_walk device : Bool) → (x : ℕ) → Bool
denied2 s a is_on_walk device x = not (stage2_permits is_on_walk a x) || refused2 s a is_on_walk device

-- the checks after stage 2's walk; alignment is never tested on-walk (01, Checks; attributes come first, 01, Walk, descriptors)
unfoldable pub check2 : Stage2 → Access → (is_on_walk : Bool) (ipa : ℕ) → Leaf → Checked
check2 s a is_on_walk ipa l =
    settled (unsettled (Two ipa is_on_walk) l.level)
    (λ attrs.
    let device = is_device attrs.memory in
    permitted (Two ipa is_on_walk) ipa l (not is_on_walk && misaligned a device) (denied2 s a is_on_walk device l.word) attrs)
    (stage2_attributes (uncached2 s a is_on_walk) l.word)

unfoldable pub translate2 : Stage2 → Access → (is_on_walk : Bool) (ipa : ℕ) → Reading Output
translate2 s a is_on_walk ipa = bind (walk_from done (Two ipa is_on_walk) ipa (root2_at s ipa)) (λ l. give (check2 s a is_on_walk ipa l))
