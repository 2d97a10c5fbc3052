-- The granules, and what a walk takes from them (02, §3; of 4KB 01, Walk).
-- Assumes nothing.
use Rattle.std.specs.Prelude.{ℕ, ◌+◌, ◌-◌, ◌*◌, ◌≤◌, ◌<◌, eqb}
use Rattle.bits.specs.Bits.{pick}
use Rattle.descriptor.specs.declared.entry.Geometry.{Geometry}
use Rattle.level.specs.declared.granule.Granule.{Granule}

-- the log of the size, the first level that stage 2 may start at, what PAMax must be over there, and the contiguous rule's input size
abbrev pub four_k : Granule
four_k = record { log = 12; first = 0; over = 42; contiguous = 34 }

abbrev pub sixteen_k : Granule
sixteen_k = record { log = 14; first = 1; over = 40; contiguous = 30 }

abbrev pub sixty_four_k : Granule
sixty_four_k = record { log = 16; first = 1; over = 42; contiguous = 34 }

-- what a code of TG0 says, in TCR_EL1 and in VTCR_EL2. For 3, which is reserved, any would do: settings refuse it where it counts.
unfoldable pub tg0_granule : ℕ → Granule
tg0_granule code = pick (eqb code 1) sixty_four_k (pick (eqb code 2) sixteen_k four_k)

-- what a code of TG1 says, of which 0 is reserved
unfoldable pub tg1_granule : ℕ → Granule
tg1_granule code = pick (eqb code 1) sixteen_k (pick (eqb code 3) sixty_four_k four_k)

-- the bits of an index: a table of one granule has entries of 8 bytes
abbrev pub stride_of : Granule → ℕ
stride_of k = k.log - 3

-- the largest block is at the level after stage 2's first: level 1 for 4KB, else level 2
abbrev pub geometry_of : Granule → (input output : ℕ) → Geometry
geometry_of k input output =
    record { grainsize = k.log; stride = stride_of k; inputsize = input; outputsize = output; block = 2 - k.first; contiguous = k.contiguous }

-- For the contracts of code: sizes with which no shift of a walk leaves 48 bits. Each granule has them (proofs/Granules.antt).
pub record Granular (k : Granule) : Type 0 where
  pub least : 12 ≤ k.log
  pub most : k.log ≤ 16
  pub first : k.first ≤ 1
  -- the shift at the first level
  pub shift : k.log + stride_of k * (3 - k.first) < 48
