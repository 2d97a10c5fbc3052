-- The table walk of one stage, over any geometry (01, Walk). Arm's pseudocode has it as AArch64.TranslationTableWalk.
-- Assumes nothing.
use Rattle.std.specs.Prelude.{ℕ, zero, suc, ◌+◌, ◌-◌, ◌*◌, Option, Some, None, Ok, Err}
use Rattle.bits.specs.Bits.{field}
use Rattle.reads.specs.Program.{Reader, stage_1, stage_2, Request, Program, done, stop, note, ask, bind}
use Rattle.descriptor.specs.Entry.{shift, decode, nothing, inherit}
use Rattle.descriptor.specs.declared.entry.Geometry.{Geometry}
use Rattle.descriptor.specs.declared.entry.FaultKind.{FaultKind}
use Rattle.descriptor.specs.declared.entry.FaultKind.TheVariants.{Translation}
use Rattle.descriptor.specs.declared.entry.Entry.{Entry}
use Rattle.descriptor.specs.declared.entry.Entry.TheVariants as E
use Rattle.descriptor.specs.declared.entry.Inherited.{Inherited}
use Rattle.walk.specs.declared.stop.Stage.{Stage}
use Rattle.walk.specs.declared.stop.Stage.TheVariants.{One, Two}
use Rattle.walk.specs.declared.stop.Stop.{Stop}
use Rattle.walk.specs.declared.stop.Stop.TheVariants as S
use Rattle.walk.specs.declared.table.Leaf.{Leaf}
use Rattle.walk.specs.Root.{Root}

-- a program of an access
abbrev pub Reading : Type 0 → Type 0
Reading = Program Request Stop

abbrev pub reader_of : Stage → Reader
reader_of One = stage_1
reader_of (Two ipa w) = stage_2

-- the stops of a walk
abbrev pub fault : FaultKind → Stage → ℕ → Stop
fault kind s level = S.Fault (record { kind = kind; stage = s; level = level })

abbrev pub absent : ℕ → Stage → ℕ → Stop
absent address s level = S.Absent (record { address = address; stage = s; level = level })

abbrev pub unsettled : Stage → ℕ → Stop
unsettled s level = S.Unsettled (record { stage = s; level = level })

-- the address of the entry for an input, in a table of 2 ^ j entries with n levels below them; 8 bytes an entry (01, Walk, base)
abbrev pub entry_address : Geometry → ℕ → ℕ → ℕ → ℕ → ℕ
entry_address g n j table input = table + 8 * field input (shift g n) j

-- a word goes on, an absent descriptor stops
unfoldable pub if_present : {A : Type 0} → Stop → (ℕ → Reading A) → Option ℕ → Reading A
if_present e k None = stop e
if_present e k (Some x) = k x

-- stage 1's tables impose on what lies below them
abbrev pub inherit_at : Stage → Inherited → ℕ → Inherited
inherit_at One h x = inherit h x
inherit_at (Two ipa w) h x = h

-- at an entry x with n levels below it; `deeper` is the walk of the table below
unfoldable pub follow : Geometry → Stage → (n x : ℕ) → Inherited → (ℕ → Inherited → Reading Leaf) → Entry → Reading Leaf
follow g s n x h deeper (E.Next table) = deeper table (inherit_at s h x)
follow g s n x h deeper E.Final = note (3 - n) (done (record { word = x; shift = shift g n; level = 3 - n; inherited = h }))
follow g s n x h deeper (E.Fault kind) = stop (fault kind s (3 - n))
follow g s n x h deeper E.Unsettled = stop (unsettled s (3 - n))

-- the walk of an input through a table of 2 ^ j entries with k levels, itself included, so at level 4 - k.
-- `place` says where in memory a descriptor of this stage lies.
-- No root and no entry leads to a table without a level; a walk there is a translation fault.
unfoldable pub walk : (place : ℕ → Reading ℕ) → Geometry → Stage → (input k j table : ℕ) → Inherited → Reading Leaf
walk place g s input zero j table h = stop (fault Translation s 3)
walk place g s input (suc n) j table h =
    bind (place (entry_address g n j table input))
    (λ at. ask (record { reader = reader_of s; address = at })
    (if_present (absent at s (3 - n))
    (λ x. follow g s n x h (λ t i. walk place g s input n g.stride t i) (decode g n x))))

-- the walk from a root
unfoldable pub walk_from : (place : ℕ → Reading ℕ) → Stage → (input : ℕ) → Root → Reading Leaf
walk_from place s input (Err u) = stop (fault u.kind s u.level)
walk_from place s input (Ok t) = walk place t.geometry s input t.levels t.bits t.base nothing
