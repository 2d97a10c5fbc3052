-- Both stages of an access (01, Walk, Attributes, Checks; the order is Arm's).
-- Arm's pseudocode has it as AArch64.FullTranslate.
-- Assumes nothing.
use Rattle.std.specs.Prelude.{false}
use Rattle.bits.specs.Bits.{pick}
use Rattle.reads.specs.Program.{done, bind}
use Rattle.access.specs.declared.Access.{Access}
use Rattle.attributes.specs.Attributes.{combine}
use Rattle.walk.specs.Walk.{Reading}
use Rattle.walk.specs.Stage2.{translate2}
use Rattle.walk.specs.declared.check.Output.{Output}
use Rattle.walk.specs.declared.stage2.Stage2.{Stage2}
use Rattle.stages.specs.declared.stage1.Stage1.{Stage1}
use Rattle.stages.specs.declared.both.Translation.{Translation}
use Rattle.stages.specs.Stage1.{root1_at, translate1}

-- stage 2 of an access, after stage 1's output; a stage that is off has level 0 (01, Answer numbers, 0; Attributes, combining; CombineS1S2Desc)
unfoldable pub finish : Stage2 → Access → Output → Reading Translation
finish s a o =
    pick s.on
    (bind (translate2 s a false o.address)
    (λ p. done (record { address = p.address; attributes = combine o.attributes p.attributes; level1 = o.level; level2 = p.level })))
    (done (record { address = o.address; attributes = o.attributes; level1 = o.level; level2 = 0 }))

unfoldable pub access : Stage1 → Stage2 → Access → Reading Translation
access s1 s2 a = bind (translate1 s1 (root1_at s1 a.address) s2 a) (finish s2 a)
