-- Sizes and start levels (01, Walk).
-- Assumes nothing.
use Rattle.std.specs.Prelude.{ℕ, ◌+◌, ◌-◌, ◌/◌, eqb, leb, ℤ, pos, negsuc, ◌+ℤ◌, ◌-ℤ◌, ◌*ℤ◌}
use Rattle.bits.specs.Bits.{pick}
use Rattle.descriptor.specs.declared.entry.Geometry.{Geometry}
use Rattle.level.specs.declared.granule.Granule.{Granule}

-- what a code of IPS or PS says of the output size (01, Walk, output size)
unfoldable pub coded_size : ℕ → ℕ
coded_size code = pick (eqb code 0) 32 (pick (eqb code 1) 36 (pick (eqb code 2) 40 (pick (eqb code 3) 42 (pick (eqb code 4) 44 48))))

-- the output size: the smaller of PAMax and what IPS or PS says (02, §2)
unfoldable pub output_size : (pamax code : ℕ) → ℕ
output_size pamax code = pick (leb pamax (coded_size code)) pamax (coded_size code)

-- the input size of a size field (01, Walk, input size)
abbrev pub input_size : ℕ → ℕ
input_size tnsz = 64 - tnsz

-- stage 1's start level (01, Walk, start level): 4 less the strides that the input bits above the granule take, rounded up
unfoldable pub start1 : Geometry → ℤ
start1 g = pos 4 -ℤ pos ((g.inputsize - g.grainsize + (g.stride - 1)) / g.stride)

-- stage 2's start level: 2 - SL0 for 4KB, -1 for an SL0 of 3 (01, Walk, start level), and 3 - SL0 for the others (02, §3)
unfoldable pub start2 : Granule → (sl0 : ℕ) → ℤ
start2 k sl0 = pos (2 + k.first) -ℤ pos sl0

-- the size check (01, Walk, start level): the bits of a root's index, below 1 where the start level is too high for the size
unfoldable pub size_check : Geometry → (start : ℤ) → ℤ
size_check g start = pos g.inputsize -ℤ ((pos 3 -ℤ start) *ℤ pos g.stride +ℤ pos g.grainsize)

-- 3 less a level
unfoldable pub levels_below : ℤ → ℕ
levels_below (pos l) = 3 - l
levels_below (negsuc l) = 4 + l
