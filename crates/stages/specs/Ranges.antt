-- Stage 1's VA range of an address, by bit 55 and one comparison.
-- With such stages this range's root is the one of Stage1.antt (proofs/Ranges.antt).
-- Assumes nothing.
use Rattle.std.specs.Prelude.{◌≡◌, Bool, ℕ, ◌-◌, ◌*◌, ◌/◌, ◌%◌, ◌^◌, ◌<◌, leb, ltb}
use Rattle.bits.specs.Bits.{pick, bit}
use Rattle.descriptor.specs.declared.entry.FaultKind.TheVariants.{Translation}
use Rattle.walk.specs.Root.{Root, unusable}
use Rattle.stages.specs.declared.stage1.VaRange.{VaRange}
use Rattle.stages.specs.declared.stage1.Stage1.{Stage1}
use Rattle.stages.specs.declared.range.Range.{Range}
use Rattle.stages.specs.declared.range.Range.TheVariants.{Lower, Upper, Neither}
use Rattle.stages.specs.declared.range.Bounds.{Bounds}

-- the bits of an address that count
abbrev pub counted : (tbi : Bool) → ℕ → ℕ
counted tbi a = pick tbi (a % 2 ^ 56) a

-- an address of ones, as far as its bits count
abbrev pub ones : (tbi : Bool) → ℕ
ones tbi = pick tbi (2 ^ 56 - 1) (2 ^ 64 - 1)

-- 2 to an input size, as a word: what the addresses of a lower range lie below
abbrev pub within : ℕ → ℕ
within n = pick (ltb n 64) (2 ^ n) (2 ^ 64 - 1)

-- the first address of an upper range
abbrev pub floor : (tbi : Bool) → ℕ → ℕ
floor tbi n = ones tbi / 2 ^ n * 2 ^ n

-- what tells the range of any address
abbrev pub bounds : (tbi0 tbi1 : Bool) (lower upper pamax : ℕ) → Bounds
bounds tbi0 tbi1 lower upper pamax = record { tbi0 = tbi0; tbi1 = tbi1; counts0 = ones tbi0; counts1 = ones tbi1; within = within lower; floor = floor tbi1 upper; ceiling = within pamax }

unfoldable pub bounds_of : Stage1 → Bounds
bounds_of s = bounds s.tbi0 s.tbi1 s.lower.inputsize s.upper.inputsize s.pamax

-- the masks are those of the flags
abbrev pub Counting : Bounds → Type 0
Counting b = (b.counts0 ≡ ones b.tbi0) × (b.counts1 ≡ ones b.tbi1)

-- the range of an address
unfoldable pub range_at : Bounds → ℕ → Range
range_at b a =
    pick (bit a 55)
    (pick (ltb (counted b.tbi1 a) b.floor) Neither Upper)
    (pick (leb b.within (counted b.tbi0 a)) Neither Lower)

-- the root for the addresses of a range
unfoldable pub root_at : Stage1 → Range → Root
root_at s Lower = s.lower.root
root_at s Upper = s.upper.root
root_at s Neither = unusable Translation 0

-- a VA range whose input size is at most 48, or that is disabled, whatever its size says
abbrev pub Narrow : VaRange → Type 0
Narrow r = 48 < r.inputsize → r.root ≡ unusable Translation 0
