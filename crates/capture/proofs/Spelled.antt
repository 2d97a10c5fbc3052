-- The number that eight bytes of a capture spell, as a sum.
-- Assumes nothing.
use Rattle.std.proofs.Common.{◌≡◌, ℕ, suc, ◌+◌, ◌*◌, ◌<◌, ◌≤◌, List, length, get_or, take, drop, add-zero, arith, drop-cons}
use Rattle.capture.specs.Capture.{little}

-- the bytes from i + k on: the first, and then the others
pub next : (n i k : ℕ) (l : List ℕ) → i + k < length l → little (take (suc n) (drop (i + k) l)) ≡ get_or l (i + k) 0 + 256 * little (take n (drop (i + suc k) l))
unfolding little
next n i k l h = let e : suc (i + k) ≡ i + suc k = omega arith in rw (drop-cons l (i + k) 0 h, e)

pub eight : (i : ℕ) (l : List ℕ) → i + 8 ≤ length l →
    get_or l i 0 + get_or l (i + 1) 0 * 0x100 + get_or l (i + 2) 0 * 0x1_0000 + get_or l (i + 3) 0 * 0x100_0000 + get_or l (i + 4) 0 * 0x1_0000_0000
    + get_or l (i + 5) 0 * 0x100_0000_0000 + get_or l (i + 6) 0 * 0x1_0000_0000_0000 + get_or l (i + 7) 0 * 0x100_0000_0000_0000
    ≡ little (take 8 (drop i l))
unfolding little
eight i l h =
    omega (
      arith,
      simp add-zero at (next 7 i 0 l (omega arith)),
      next 6 i 1 l (omega arith),
      next 5 i 2 l (omega arith),
      next 4 i 3 l (omega arith),
      next 3 i 4 l (omega arith),
      next 2 i 5 l (omega arith),
      next 1 i 6 l (omega arith),
      next 0 i 7 l (omega arith),
    )
