-- The checks after a walk, as far as both stages are alike (01, Checks; attributes come first, 01, Walk, descriptors).
-- Assumes nothing.
use Rattle.std.specs.Prelude.{Bool, ◌&&◌, ℕ, Ok, Err, Option, Some, None}
use Rattle.bits.specs.Bits.{pick}
use Rattle.reads.specs.Program.{done, stop}
use Rattle.descriptor.specs.Entry.{output_address}
use Rattle.access.specs.Access.{unaligned}
use Rattle.access.specs.declared.Access.{Access}
use Rattle.descriptor.specs.declared.entry.FaultKind.TheVariants.{Permission}
use Rattle.attributes.specs.declared.Attributes.{Attributes}
use Rattle.walk.specs.declared.stop.Stage.{Stage}
use Rattle.walk.specs.declared.stop.Stop.{Stop}
use Rattle.walk.specs.declared.stop.Stop.TheVariants.{Misaligned}
use Rattle.walk.specs.declared.table.Leaf.{Leaf}
use Rattle.walk.specs.declared.check.Output.{Output}
use Rattle.walk.specs.Checked.{Checked}
use Rattle.walk.specs.Walk.{Reading, fault}

-- stop where the test holds, else go on
unfoldable pub unless : Bool → Stop → Checked → Checked
unless b e c = pick b (Err e) c

-- go on with settled attributes
unfoldable pub settled : Stop → (Attributes → Checked) → Option Attributes → Checked
settled e k (Some a) = k a
settled e k None = Err e

-- a data access to Device memory that is not a multiple of its size (01, Checks)
abbrev pub misaligned : Access → (device : Bool) → Bool
misaligned a device = device && unaligned a

-- what a leaf makes of an input, once its attributes are settled: alignment is tested before permission (01, Checks)
unfoldable pub permitted : Stage → (input : ℕ) → Leaf → (misaligned denied : Bool) → Attributes → Checked
permitted s input l misaligned denied attrs =
    unless misaligned (Misaligned s)
    (unless denied (fault Permission s l.level)
    (Ok (record { address = output_address l.word l.shift input; attributes = attrs; level = l.level })))

-- checks read nothing
unfoldable pub give : Checked → Reading Output
give (Ok o) = done o
give (Err e) = stop e
