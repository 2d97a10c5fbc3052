-- For the contracts of code: what checks give, and the starts that a walk may be called with.
-- Assumes nothing.
use Rattle.std.specs.Prelude.{◌≡◌, ℕ, ◌-◌, ◌≤◌, ◌<◌, ◌^◌, Ok, Err}
use Rattle.reads.specs.Program.{Outcome, reached, stopped}
use Rattle.descriptor.specs.Entry.{shift}
use Rattle.descriptor.specs.Turn.{masks_of}
use Rattle.descriptor.specs.declared.entry.FaultKind.TheVariants as F
use Rattle.walk.specs.Ends.{faulted}
use Rattle.walk.specs.declared.stop.Stop.{Stop}
use Rattle.walk.specs.declared.table.Table.{Table}
use Rattle.walk.specs.Root.{Root, unusable}
use Rattle.walk.specs.declared.check.Output.{Output}
use Rattle.walk.specs.Checked.{Checked}
use Rattle.walk.specs.declared.end.Ending.{Ending}
use Rattle.walk.specs.declared.end.Ending.TheVariants.{Passed, Translation, AddressSize, AccessFlag, Permission, Misaligned, Absent, Unsettled}
use Rattle.walk.specs.declared.start.Start.{Start}

unfoldable pub checked : Checked → Outcome Stop Output
checked (Ok o) = reached o
checked (Err e) = stopped e

-- sizes with which no address of a walk leaves 64 bits. Every root that accepted registers give has them (regime/proofs/Ready.antt).
pub record Small (t : Table) : Type 0 where
  pub some : 1 ≤ t.levels
  pub levels : t.levels ≤ 4
  pub bits : t.bits ≤ 17
  pub base : t.base < 2 ^ 48
  pub grainsize : t.geometry.grainsize ≤ 16
  pub stride : t.geometry.stride ≤ 13
  pub block : 1 ≤ t.geometry.block
  pub shift : shift t.geometry (t.levels - 1) < 48

-- the first table of a start
abbrev pub table_of : Start → Table
table_of p = record { geometry = p.geometry; levels = p.levels; bits = p.bits; base = p.base }

-- the words of a start are those of its table
pub record Fit (p : Start) : Type 0 where
  pub shift : p.shift ≡ shift p.geometry (p.levels - 1)
  pub masks : p.masks ≡ masks_of p.geometry
  pub small : Small (table_of p)

-- sizes of a start, of use or not, with which the address of its first entry fits
pub record Within (p : Start) : Type 0 where
  pub shift : p.shift < 64
  pub some : 1 ≤ p.levels
  pub bits : p.bits ≤ 17
  pub base : p.base < 2 ^ 48

-- a start for a root
abbrev pub Starts : Start → Root → Type 0
Starts p (Err u) = (p.ending ≡ faulted u.kind) × (p.level ≡ u.level) × Within p
Starts p (Ok t) = (p.ending ≡ Passed) × (table_of p ≡ t) × Fit p

-- the root that a start stands for
unfoldable pub root_by : (ending : Ending) (level : ℕ) → Table → Root
root_by Passed level t = Ok t
root_by Translation level t = unusable F.Translation level
root_by AddressSize level t = unusable F.AddressSize level
root_by AccessFlag level t = unusable F.AccessFlag level
root_by Permission level t = unusable F.Permission level
root_by Misaligned level t = unusable F.Translation level
root_by Absent level t = unusable F.Translation level
root_by Unsettled level t = unusable F.Translation level

abbrev pub root_of : Start → Root
root_of p = root_by p.ending p.level (table_of p)
