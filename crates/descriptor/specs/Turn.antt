-- Entries as a loop over levels decodes them: where a walk goes, without contents, and by words that are worked out once.
-- Assumes nothing.
use Rattle.std.specs.Prelude.{ℕ, ◌-◌, ◌^◌, ltb, leb}
use Rattle.bits.specs.Bits.{pick, bit}
use Rattle.descriptor.specs.declared.entry.Geometry.{Geometry}
use Rattle.descriptor.specs.declared.entry.FaultKind.TheVariants as Kind
use Rattle.descriptor.specs.declared.entry.Entry.{Entry}
use Rattle.descriptor.specs.declared.entry.Inherited.{Inherited}
use Rattle.descriptor.specs.declared.entry.Masks.{Masks}
use Rattle.descriptor.specs.declared.entry.Turn.{Turn}

-- the mask of bits 47 down to a size
abbrev pub above : ℕ → ℕ
above size = pick (leb size 48) (2 ^ 48 - 2 ^ size) 0

abbrev pub masks_of : Geometry → Masks
masks_of g =
    record {
      above = above g.outputsize;
      unsettled = pick (ltb g.inputsize g.contiguous) (2 ^ 52) 0;
      index = 2 ^ g.stride - 1;
      table = 2 ^ 48 - 2 ^ g.grainsize;
    }

-- where a walk goes from an entry
unfoldable pub turn_of : Entry → Turn
turn_of (Entry.Next table) = Turn.Down
turn_of Entry.Final = Turn.Leaf
turn_of (Entry.Fault Kind.Translation) = Turn.Translation
turn_of (Entry.Fault Kind.AddressSize) = Turn.AddressSize
turn_of (Entry.Fault Kind.AccessFlag) = Turn.AccessFlag
turn_of (Entry.Fault Kind.Permission) = Turn.Permission
turn_of Entry.Unsettled = Turn.Unsettled

-- what tables impose, by the words of their entries or-ed
abbrev pub imposed : ℕ → Inherited
imposed t = record { readonly = bit t 62; el1only = bit t 61; xn = bit t 60; pxn = bit t 59 }
