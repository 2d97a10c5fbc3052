-- Entries of translation tables, of either stage and any granule.
-- An entry is known by the number n of levels below it: its level is 3 - n.
-- Assumes nothing.
use Rattle.std.specs.Prelude.{Bool, false, ◌&&◌, ◌||◌, ℕ, ◌+◌, ◌*◌, ◌%◌, ◌^◌, ltb, leb, eqb}
use Rattle.bits.specs.Bits.{pick, bit, upper, beyond}
use Rattle.descriptor.specs.declared.entry.Geometry.{Geometry}
use Rattle.descriptor.specs.declared.entry.DescriptorType.{DescriptorType}
use Rattle.descriptor.specs.declared.entry.DescriptorType.TheVariants.{Invalid, Table, Leaf}
use Rattle.descriptor.specs.declared.entry.FaultKind.TheVariants.{Translation, AddressSize, AccessFlag}
use Rattle.descriptor.specs.declared.entry.Entry.{Entry}
use Rattle.descriptor.specs.declared.entry.Entry.TheVariants.{Next, Final, Fault, Unsettled}
use Rattle.descriptor.specs.declared.entry.Inherited.{Inherited}

-- t: how many input bits lie below the index of an entry with n levels below it (01, Walk, base; 02, §3)
abbrev pub shift : Geometry → ℕ → ℕ
shift g n = g.grainsize + g.stride * n

-- the type of the descriptor x of an entry, by its bits 1:0 and its level. What is invalid here is what the audit passes over.
-- (01, Walk, descriptors: bit 0; type 11; type 01 at level 3 and level 0. 01, The audit. 02, §3: at level 1 too, for 16KB and 64KB.)
unfoldable pub descriptor_type : Geometry → ℕ → ℕ → DescriptorType
descriptor_type g n x =
    pick (bit x 0)
    (pick (bit x 1)
    (pick (eqb n 0) Leaf Table)
    (pick (eqb n 0) Invalid (pick (leb n g.block) Leaf Invalid)))
    Invalid

-- the contiguous bit, 52, where Arm leaves it open: on the largest block of a small input size (01, Walk, descriptors: level 1, s under 34;
-- 02, §3: level 2, s under 30 or 34)
abbrev pub contiguous : Geometry → ℕ → ℕ → Bool
contiguous g n x = eqb n g.block && ltb g.inputsize g.contiguous && bit x 52

-- what a walk does at an entry, tests in the order of 01, Walk, descriptors
unfoldable pub decode_as : Geometry → ℕ → ℕ → DescriptorType → Entry
decode_as g n x Invalid = Fault Translation
decode_as g n x Table = pick (beyond x g.outputsize) (Fault AddressSize) (Next (upper x g.grainsize))
decode_as g n x Leaf =
    pick (contiguous g n x) Unsettled
    (pick (beyond x g.outputsize) (Fault AddressSize)
    (pick (bit x 10) Final (Fault AccessFlag)))

abbrev pub decode : Geometry → ℕ → ℕ → Entry
decode g n x = decode_as g n x (descriptor_type g n x)

-- where a leaf's descriptor puts an input, t being its shift: the descriptor's bits 47 down to t, then the input's below t (01, Walk, descriptors)
abbrev pub output_address : ℕ → ℕ → ℕ → ℕ
output_address x t input = upper x t + input % 2 ^ t

-- nothing inherited yet
abbrev pub nothing : Inherited
nothing = record { readonly = false; el1only = false; xn = false; pxn = false }

-- what a table's entry adds (01, Walk, inheritance)
abbrev pub inherit : Inherited → ℕ → Inherited
inherit h x =
    record {
      readonly = h.readonly || bit x 62;
      el1only = h.el1only || bit x 61;
      xn = h.xn || bit x 60;
      pxn = h.pxn || bit x 59;
    }
