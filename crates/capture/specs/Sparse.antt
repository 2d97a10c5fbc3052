-- Captures that are zero but for some words, as 01, Cases, gives its own: their bytes, and a memory that computes quickly.
-- `sparse_memory` says that it is the memory of those bytes.
-- Assumes nothing.
use Rattle.std.specs.Prelude.{ℕ, zero, suc, ◌*◌, ◌/◌, ◌%◌, ◌^◌, List, [], ◌∷◌, ◌==◌, Option, Some, None}
use Rattle.bits.specs.Bits.{pick}
use Rattle.reads.specs.Program.{Request}
use Rattle.capture.specs.Capture.{little, within}

-- the word listed for an address, the first where there are several, else 0
unfoldable pub word_at : List (ℕ × ℕ) → ℕ → ℕ
word_at [] a = 0
word_at (w ∷ l) a = pick (w.0 == a) w.1 (word_at l a)

-- the byte at an address, of words that stand little-endian at multiples of eight
unfoldable pub byte_at : List (ℕ × ℕ) → ℕ → ℕ
byte_at ws a = word_at ws (a / 8 * 8) / 256 ^ (a % 8) % 256

-- the bytes from an address on
unfoldable pub image : List (ℕ × ℕ) → (address length : ℕ) → List ℕ
image ws a zero = []
image ws a (suc n) = byte_at ws a ∷ image ws (suc a) n

-- the descriptor at an address: a listed word as it is, and across two of them what their bytes spell
unfoldable pub descriptor_at : List (ℕ × ℕ) → ℕ → ℕ
descriptor_at ws a = pick (a % 8 == 0) (word_at ws a % 2 ^ 64) (little (image ws a 8))

unfoldable pub sparse : (base length : ℕ) → List (ℕ × ℕ) → Request → Option ℕ
sparse base length ws q = pick (within base length q.address) (Some (descriptor_at ws q.address)) None
